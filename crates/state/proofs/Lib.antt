pub mod Places
pub mod Opened
pub mod Own
pub mod Fits
pub mod Lists
