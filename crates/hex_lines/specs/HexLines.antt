-- The lines of a text, and the bytes that a line has in hexadecimal: each two digits and a space, up to #.
use Rattle.std.specs.Prelude.{ℕ, ◌+◌, ◌*◌, ◌%◌, ◌==◌, cond, List, [], ◌∷◌, ltb}

-- b before the first of some lines
abbrev pub put_before : ℕ → List (List ℕ) → List (List ℕ)
put_before b [] = []
put_before b (line ∷ lines) = (b ∷ line) ∷ lines

-- the lines of a text that end in an LF, without it
unfoldable pub lines_of : List ℕ → List (List ℕ)
lines_of [] = []
lines_of (b ∷ text) = cond (b == 10) ([] ∷ lines_of text) (put_before b (lines_of text))

-- the value of a hexadecimal digit, a number or a letter
abbrev pub digit_of : ℕ → ℕ
digit_of b = cond (ltb b 58) (b % 16) ((b % 16 + 9) % 16)

-- the byte of two digits
abbrev pub byte_of : ℕ → ℕ → ℕ
byte_of high low = digit_of high * 16 + digit_of low

-- the bytes of a line
unfoldable pub bytes_of : List ℕ → List ℕ
bytes_of [] = []
bytes_of (high ∷ []) = []
bytes_of (high ∷ low ∷ []) = cond (high == 35) [] (byte_of high low ∷ [])
bytes_of (high ∷ low ∷ space ∷ line) = cond (high == 35) [] (byte_of high low ∷ bytes_of line)
