pub mod Probes
pub mod Suspects
