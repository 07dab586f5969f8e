pub mod Steps
pub mod Sound
pub mod Frame
pub mod Effects
pub mod Order
pub mod Outgoing
pub mod Runs
pub mod Receptive
