pub mod Apart
pub mod Judged
pub mod Refusing
pub mod Telling
