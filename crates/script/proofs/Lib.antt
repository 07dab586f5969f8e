pub mod Arms
pub mod Text
pub mod OneResult
pub mod Turns
pub mod Plays
pub mod Ending
pub mod Runs
