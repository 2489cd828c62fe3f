pub mod FilledBytes
pub mod PutWords
pub mod RequestWords
pub mod Words
pub mod WordReads
pub mod Written
