-- Damage to a telegram, and examples of it.
pub mod Damage
pub mod Examples
