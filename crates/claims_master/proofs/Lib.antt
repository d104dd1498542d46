-- What a slave makes of a master's telegrams.
pub mod SentLaws
pub mod BuiltPasses
pub mod CarriedLaws
pub mod TaskIsRead
pub mod MirrorIsRead
pub mod BroadcastIsRead
pub mod BuiltIsRead
pub mod AnswerTable
