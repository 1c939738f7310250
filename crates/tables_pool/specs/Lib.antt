pub mod Row
pub mod Cells
