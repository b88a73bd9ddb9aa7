pub mod Commands
pub mod Places
pub mod Replies
