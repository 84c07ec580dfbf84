pub mod Leaving
pub mod Resting
pub mod PodWaiters
pub mod Steps
pub mod TrapSteps
pub mod ReportSteps
