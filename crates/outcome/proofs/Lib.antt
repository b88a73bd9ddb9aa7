pub mod Calls
pub mod Owed
pub mod Replies
pub mod SettledOnce
pub mod Sheets
