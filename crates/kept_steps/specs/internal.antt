-- What only the proofs of bodies need.
pub mod Noted
pub mod FitsProp
pub mod Listed
pub mod GivenCell
pub mod ReadsOrder
