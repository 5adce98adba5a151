mod Names
pub mod Numbers
pub mod Readings
mod Tables
mod Rows
mod Steps
mod Fits
mod Taken
mod Lines
mod Jobs
mod Answered
mod Calls
mod Builders
mod Reread
