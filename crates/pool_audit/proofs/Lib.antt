-- Laws of an audit: going back to a pool, and on from a claim.
pub mod Back
pub mod Claimed
