mod Choices
mod Ending
mod Laws
mod Printed
mod Runs
mod Stays
mod Written
pub mod Sent
