pub mod Arms
pub mod Crossing
pub mod Boundary
pub mod Steps
pub mod Runs
pub mod OneResult
