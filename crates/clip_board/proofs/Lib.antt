pub mod LastInside
pub mod WholePastes
