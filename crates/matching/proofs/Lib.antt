pub mod Winner
pub mod Scores
pub mod Free
pub mod Paths
