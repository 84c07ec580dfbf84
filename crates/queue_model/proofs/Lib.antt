pub mod Casts
pub mod NotesLaws
