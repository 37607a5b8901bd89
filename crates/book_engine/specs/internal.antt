-- What only the proofs of bodies need.
pub mod Props
pub mod FitsProp
pub mod FollowProp
