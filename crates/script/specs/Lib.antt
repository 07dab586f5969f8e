pub mod Fields
pub mod Steps
pub mod Lines
pub mod Pages
pub mod Playing
pub mod Whole
