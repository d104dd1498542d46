-- A telegram that is built has the number 0. Assumes nothing.
use mathlib.Core.Path.{◌≡◌, refl}
use Rattle.std.specs.Prelude.{ℕ, Ok}
use Rattle.build_answers.specs.BuildNumbers.{built_number}

pub built_0 : (length : ℕ) → built_number (Ok length) ≡ 0
built_0 length = refl
