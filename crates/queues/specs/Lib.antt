pub mod Moves
pub mod Fits
pub mod Held
