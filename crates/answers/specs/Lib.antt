-- What a step gives back, why one is refused, and the tables of refusals
pub mod Answers
pub mod Refusals
pub mod Reports
pub mod Options
pub mod Tables
