-- The receiver's promises.
pub mod Settled
pub mod Cuts
pub mod Fronts
pub mod Pending
pub mod ItemLaws
pub mod ByteLaws
pub mod Exactly
pub mod OneCall
pub mod Noise
pub mod Taken
pub mod HandedOut
pub mod BetweenPauses
pub mod NeverCut
pub mod Drive
pub mod Examples
