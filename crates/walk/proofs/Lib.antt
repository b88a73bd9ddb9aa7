pub mod Back
pub mod RecordLent
pub mod Nexts
pub mod Ranges
pub mod Trails
pub mod SheetWritten
