pub mod Words
pub mod Parse
pub mod Answers
pub mod Meaning
pub mod Line
pub mod Range
