-- What it means that bytes are a number in decimal without leading zeros (document 01, Listing program), with no word of how
-- the digits are found.
--     value_of xs     the number that the digits xs are read as; 48 is the code of `0`
--     Decimal n xs    xs is n in decimal
use Rattle.std.specs.Prelude.{ℕ, ◌+◌, ◌-◌, ◌*◌, ◌≤◌, ◌≡◌, List, [], ◌∷◌, length, get_or}
use Rattle.rows.specs.Rows.{Each}

-- the digits xs behind a number that is already read
abbrev pub value_from : ℕ → List ℕ → ℕ
value_from n [] = n
value_from n (x ∷ xs) = value_from (n * 10 + (x - 48)) xs

abbrev pub value_of : List ℕ → ℕ
value_of xs = value_from 0 xs

-- the codes of `0` to `9`
abbrev pub IsDigit : ℕ → Type 0
IsDigit x = (48 ≤ x) × (x ≤ 57)

pub record Decimal (n : ℕ) (xs : List ℕ) : Type 0 where
  pub value : value_of xs ≡ n
  pub each : Each IsDigit xs
  pub some : 1 ≤ length xs
  -- no zero in front of another digit
  pub lead : 2 ≤ length xs → get_or xs 0 0 ≡ 48 → ⊥
