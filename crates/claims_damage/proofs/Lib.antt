-- The theorems about damage, the laws of parity that they need, and the examples of docs/DAMAGE.md.
pub mod Parity
pub mod Seen
pub mod Numbers
pub mod Examples
