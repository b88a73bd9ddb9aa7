pub mod Completed
pub mod Failures
pub mod Outcomes
pub mod Plans
pub mod Verdicts
