-- What a caller learns from the numbers.
pub mod TogetherNumbers
