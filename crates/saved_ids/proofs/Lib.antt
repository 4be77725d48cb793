-- Laws of saved ids.
pub mod WriteLaws
