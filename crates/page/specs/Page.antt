-- Page, base and full number (document 01, Parameter area): bits 15 to 12 of IND are the page, whose weights are 1, 8, 4, 2;
-- bits 10 to 0 of PKE are the base; the full number is 2000 times the page, and the base.
--     page_of ind            the page of an IND word; 0 past 16 bits (ours)
--     nibble_of number       the upper four bits of the IND word of a full number; 0 past page 15 (ours)
--     base_of pke            the base of a PKE word
--     full_number pke ind    the full number
--     named pke              whether the base is below 2000: 2000 to 2047 name no parameter
use Rattle.std.specs.Prelude.{ℕ, ◌+◌, ◌*◌, ◌/◌, ◌%◌, Bool, List, [], ◌∷◌, ltb, get_or}

-- over the nibbles 0 to 15
abbrev pub pages : List ℕ
pages = 0 ∷ 2 ∷ 4 ∷ 6 ∷ 8 ∷ 10 ∷ 12 ∷ 14 ∷ 1 ∷ 3 ∷ 5 ∷ 7 ∷ 9 ∷ 11 ∷ 13 ∷ 15 ∷ []

unfoldable pub page_of : ℕ → ℕ
page_of ind = get_or pages (ind / 4096) 0

-- over the pages 0 to 15
abbrev pub nibbles : List ℕ
nibbles = 0 ∷ 8 ∷ 1 ∷ 9 ∷ 2 ∷ 10 ∷ 3 ∷ 11 ∷ 4 ∷ 12 ∷ 5 ∷ 13 ∷ 6 ∷ 14 ∷ 7 ∷ 15 ∷ []

unfoldable pub nibble_of : ℕ → ℕ
nibble_of number = get_or nibbles (number / 2000) 0

abbrev pub base_of : ℕ → ℕ
base_of pke = pke % 2048

abbrev pub full_number : ℕ → ℕ → ℕ
full_number pke ind = page_of ind * 2000 + base_of pke

abbrev pub named : ℕ → Bool
named pke = ltb (base_of pke) 2000
