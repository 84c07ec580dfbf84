pub mod Gathered
pub mod Standing
pub mod Heading
pub mod Posts
pub mod MadeLaws
pub mod RoundLaws
