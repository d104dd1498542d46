-- Laws of areas, as words and as they are read.
pub mod AreaLaws
pub mod WordLaws
pub mod StandLaws
