-- What only the proofs of bodies need.
pub mod Contents
pub mod Touched
pub mod Opposites
pub mod Pasting
pub mod Giving
pub mod Props
pub mod FormulaProp
pub mod WaitingProp
