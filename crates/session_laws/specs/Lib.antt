pub mod Numbers
pub mod Sessions
pub mod Exits
pub mod Deaths
pub mod Events
pub mod StepByStep
