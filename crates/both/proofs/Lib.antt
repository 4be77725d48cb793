-- Laws of asking for several things at once.
pub mod BothLaws
pub mod NoneLaws
