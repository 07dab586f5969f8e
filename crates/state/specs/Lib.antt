pub mod Places
pub mod Interfaces
pub mod Sockets
pub mod Threads
pub mod Plain
