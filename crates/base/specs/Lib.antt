pub mod Refusal
pub mod Questions
pub mod JobSets
