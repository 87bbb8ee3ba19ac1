pub mod AnswerLaws
pub mod Nearest
pub mod NumberLaws
pub mod Tens
