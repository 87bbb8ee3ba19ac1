mod FloatExamples
mod FloatMeaning
mod NearestLaws
pub mod FloatLaws
