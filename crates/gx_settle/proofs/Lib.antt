mod Attempts
mod Behind
mod Cut
mod Lines
mod Numbers
mod Reports
mod Runs
