pub mod Numbers
pub mod Tests
pub mod Decide
pub mod Below
pub mod Splice
pub mod Filling
