pub mod RunLaws
pub mod SaidLaws
