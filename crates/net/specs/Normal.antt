-- The telegram with a parameter area of 0, 3 or 4 words and a process area, as it is written into a buffer (document 01, Frame and
-- Parameter area).
--     is_area n               n words are an area of a fixed setting: 0, 3 or 4
--     writable out n pzd      the telegram can be written
--     normal_of out adr ..    the buffer with the telegram at its start; unchanged where it cannot be written (ours)
--     normal_length out ..    the telegram's length, or none
use Rattle.std.specs.Prelude.{ℕ, ◌+◌, List, [], ◌∷◌, Bool, true, false, not, ◌||◌, cond, ltb, eqb, length, Option, Some, None}
use Rattle.rows.specs.Rows.{first_of}
use Rattle.words.specs.declared.Words.{Words}
use Rattle.area.specs.declared.Area.{Area}
use Rattle.area.specs.Net.{fixed_words, process_words, net_of}
use Rattle.net.specs.Telegram.{telegram_of, written}

abbrev pub is_area : ℕ → Bool
is_area n = eqb n 0 || eqb n 3 || eqb n 4

-- an area of 0, 3 or 4 words, at most 4 process words, not both empty, and a buffer of at least 256 bytes
abbrev pub writable : List ℕ → ℕ → ℕ → Bool
writable out n pzd =
    first_of ((not (is_area n), false) ∷ (ltb 4 pzd, false) ∷ (eqb (n + pzd) 0, false) ∷ (ltb (length out) 256, false) ∷ []) true

unfoldable pub normal_of : List ℕ → ℕ → Area → ℕ → Words → ℕ → List ℕ
normal_of out adr a n w pzd = cond (writable out n pzd) (written out (telegram_of adr (net_of (fixed_words n a) (process_words pzd w)))) out

unfoldable pub normal_length : List ℕ → Area → ℕ → Words → ℕ → Option ℕ
normal_length out a n w pzd = cond (writable out n pzd) (Some (length (net_of (fixed_words n a) (process_words pzd w)) + 4)) None
