pub mod Words
pub mod Symbols
pub mod Lexing
pub mod Reader
