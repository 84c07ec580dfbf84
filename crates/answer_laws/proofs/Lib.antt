pub mod AnswerLists
pub mod TalkLaws
mod LostTalks
pub mod Sights
pub mod Leaving
pub mod Others
pub mod Replies
pub mod Events
pub mod Lengths
mod AgentSights
mod AgentTexts
mod Owners
mod TalkSteps
mod TalkTexts
mod StoreSteps
mod SessionSteps
mod PodSteps
mod Dying
mod OwnSteps
mod TalkShort
mod Fadings
mod Owning
mod Lost
mod Phases
mod Alone
mod ThreadRows
mod Servings
mod Meetings
mod Openings
mod Reports
mod Creating
mod Unsent
mod Wholes
mod Naming
mod Unnamed
mod Knowing
mod Writing
mod Planning
mod ScriptTexts
mod Down
mod Results
