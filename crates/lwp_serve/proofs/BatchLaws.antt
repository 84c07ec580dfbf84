pub mod PlannedLaws
pub mod InputLaws
pub mod EndLaws
pub mod TextLaws
