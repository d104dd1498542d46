-- A word or a double word as a signed number, two's complement (document 01, Parameter table; document 02, W-204).
--     signed_of double x      x as a signed number; a word by its low 16 bits
use Rattle.std.specs.Prelude.{ℕ, ◌%◌, Bool, true, false, ℤ}
use Rattle.std.specs.Int.{w16, w32}
use Rattle.std.proofs.Common.{to_z}

-- `to_z w16 x` is x up to 32767, x - 65536 from there on; `to_z w32` the same of 32 bits
unfoldable pub signed_of : Bool → ℕ → ℤ
signed_of true x = to_z w32 x
signed_of false x = to_z w16 (x % 65536)
