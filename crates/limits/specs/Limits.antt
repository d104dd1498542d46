-- The limits of a record and the rules that it can break by itself (document 01, Parameter table).
--     number_of double signed x    the number that x stands for in a parameter of that kind
--     at_most double signed a b    the one comparison of all four kinds
--     fits_in double x             a word's upper half is zero
--     is_within e v                v is within e's limits
--     limits_ok e                  e's limits keep the rules
--     entry_ok e                   e's number, elements, spare bits and limits keep the rules
use Rattle.std.specs.Prelude.{ℕ, ◌%◌, Bool, true, false, ◌&&◌, leb, eqb, ℤ, pos}
use Rattle.std.specs.Int.Signed.{le_z}
use Rattle.signs.specs.Signs.{signed_of}
use Rattle.entry.specs.declared.Entry.{Entry}

unfoldable pub number_of : Bool → Bool → ℕ → ℤ
number_of double true x = signed_of double x
number_of true false x = pos x
number_of false false x = pos (x % 65536)

unfoldable pub at_most : Bool → Bool → ℕ → ℕ → Bool
at_most double signed a b = le_z (number_of double signed a) (number_of double signed b)

unfoldable pub fits_in : Bool → ℕ → Bool
fits_in true x = true
fits_in false x = leb x 65535

-- a word value with another upper half is outside
unfoldable pub is_within : Entry → ℕ → Bool
is_within e v =
    fits_in e.double v
    && at_most e.double e.signed e.minimum v
    && at_most e.double e.signed v e.maximum

-- a word's limits have no upper half, and the minimum is at most the maximum
abbrev pub limits_ok : Entry → Bool
limits_ok e = fits_in e.double e.minimum && fits_in e.double e.maximum && at_most e.double e.signed e.minimum e.maximum

unfoldable pub entry_ok : Entry → Bool
entry_ok e = leb e.number 31999 && leb e.elements 254 && eqb e.spare 0 && limits_ok e
