pub mod Left
pub mod Tables
