pub mod Numbering
pub mod Told
pub mod Pods
pub mod Steps
pub mod ExitLaws
pub mod DeathLaws
pub mod Silence
pub mod EventLaws
mod StepByStep
