mod Unfinished
mod Making
