pub mod Limiting
pub mod Rules
pub mod Tokens
pub mod Grammar
pub mod Machine
pub mod Code
