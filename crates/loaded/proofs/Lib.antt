-- Laws of reading a pool.
pub mod RowLaws
pub mod FillLaws
pub mod LoadLaws
pub mod RoundTrip
