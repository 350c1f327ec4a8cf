pub mod Finals
pub mod Gathered
pub mod Shows
pub mod Tables
