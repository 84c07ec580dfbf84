pub mod IndexLemmas
pub mod Words
pub mod Standing
pub mod KeptLemmas
