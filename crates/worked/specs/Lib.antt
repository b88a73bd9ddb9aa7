pub mod Machines
pub mod Worked
