-- Text byte by byte, and a number's decimal digits (document 01, Listing program): most significant first, no leading zero.
--     ascii s     the text s, each character its ASCII code
--     digits n    the digits of n; 48 is the code of `0`
use Rattle.std.specs.Prelude.{ℕ, zero, suc, ◌+◌, ◌/◌, ◌%◌, cond, List, [], ◌∷◌, ◌++◌, ltb}
use Prim.Native.String as Str
use Prim.Native.String.{String}
use Prim.Native.Char.{code}

abbrev pub ascii : String → List ℕ
ascii Str.[] = []
ascii (Str.◌∷◌ c s) = code c ∷ ascii s

-- the digits of the tenth, then the last one; k bounds how often a tenth is taken
abbrev pub digits_of : ℕ → ℕ → List ℕ
digits_of zero n = (48 + n) ∷ []
digits_of (suc k) n = cond (ltb n 10) ((48 + n) ∷ []) (digits_of k (n / 10) ++ ((48 + n % 10) ∷ []))

unfoldable pub digits : ℕ → List ℕ
digits n = digits_of n n
