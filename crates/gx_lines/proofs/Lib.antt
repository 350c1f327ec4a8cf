pub mod Told
pub mod Classing
pub mod Follow
pub mod QueryGood
pub mod StmtGood
pub mod HeadGood
