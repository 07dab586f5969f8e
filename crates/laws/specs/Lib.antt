pub mod Below
pub mod Places
pub mod Decides
