-- What only the proofs of bodies need.
pub mod Gone
pub mod KeptTables
pub mod KeptValues
pub mod Marks
pub mod Seen
pub mod UnderWay
