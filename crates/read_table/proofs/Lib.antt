pub mod LinesLaws
pub mod Spans
