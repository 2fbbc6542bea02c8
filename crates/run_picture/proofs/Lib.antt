mod Drawn
mod Notes
mod Runs
