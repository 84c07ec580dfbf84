pub mod KnownLaws
pub mod AnswerLaws
pub mod RisingLaws
