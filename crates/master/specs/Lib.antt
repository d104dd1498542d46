-- What a master builds.
pub mod Build
