-- What the tests 30, 31, 32 say of a build.
pub mod BuildLaws
