pub mod Sockets
