-- Laws of an audit: sameness of answers, going back to a state, and on from a claim.
pub mod Sames
pub mod Claimed
