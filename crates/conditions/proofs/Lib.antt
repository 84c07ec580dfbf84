pub mod Lines
pub mod RowLaws
pub mod Machine
