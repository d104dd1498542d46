-- What a reading that is refused holds.
pub mod RefusalLaws
