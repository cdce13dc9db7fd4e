pub mod RowLetters
pub mod inner
