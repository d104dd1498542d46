-- The telegrams that stand in a list of items, said of the whole list, with no receiver and no call in it (document 02, W-201).
--     bytes_in xs             the bytes that the items start with, as far as the next pause
--     is_front room b         the bytes b start with a whole telegram, and it fits a page of so many bytes
--     telegram_in room b      that telegram, or none
--     telegrams_in room xs    one for each pause that a whole telegram directly follows, in order
--     Whole t                 the bytes t are a whole telegram: 02, LGE of 3 to 254, LGE + 2 bytes
--     AfterPause xs t         the bytes t stand among the items directly after a pause
use Rattle.std.specs.Prelude.{ℕ, ◌+◌, ◌≤◌, ◌≡◌, Bool, true, ◌&&◌, cond, List, [], ◌∷◌, ◌++◌, leb, eqb, length, take}
use Rattle.words.specs.Words.{byte_at, Bytes}
use Rattle.step.specs.Step.{is_pause}

unfoldable pub bytes_in : List ℕ → List ℕ
bytes_in [] = []
bytes_in (x ∷ xs) = cond (is_pause x) [] (x ∷ bytes_in xs)

abbrev pub is_front : ℕ → List ℕ → Bool
is_front room b =
    -- "Only 02 directly after a pause opens a telegram"
    eqb (byte_at b 0) 2
    -- LGE of 3 to 254
    && (leb 3 (byte_at b 1)
    && (leb (byte_at b 1) 254
    -- it fits the page (ours)
    && (leb (byte_at b 1 + 2) room
    -- LGE + 2 bytes
    && leb (byte_at b 1 + 2) (length b))))

abbrev pub telegram_in : ℕ → List ℕ → List (List ℕ)
telegram_in room b = cond (is_front room b) (take (byte_at b 1 + 2) b ∷ []) []

unfoldable pub telegrams_in : ℕ → List ℕ → List (List ℕ)
telegrams_in room [] = []
telegrams_in room (x ∷ xs) = cond (is_pause x) (telegram_in room (bytes_in xs) ++ telegrams_in room xs) (telegrams_in room xs)

pub record Whole (t : List ℕ) : Type 0 where
  pub start : byte_at t 0 ≡ 2
  pub low : 3 ≤ byte_at t 1
  pub high : byte_at t 1 ≤ 254
  pub count : length t ≡ byte_at t 1 + 2
  pub bytes : Bytes t

pub record AfterPause (xs t : List ℕ) : Type 0 where
  pub before : List ℕ
  pub pause : ℕ
  pub after : List ℕ
  pub is_pause_lem : is_pause pause ≡ true
  pub there : xs ≡ before ++ pause ∷ (t ++ after)
