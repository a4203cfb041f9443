pub mod Faults
pub mod Reports
pub mod Rows
pub mod Texts
