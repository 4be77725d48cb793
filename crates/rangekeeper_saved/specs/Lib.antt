pub mod Numbers
pub mod SavedAddress
pub mod SavedId
