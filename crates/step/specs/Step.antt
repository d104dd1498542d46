-- One item that the receiver takes (document 02, W-201). An item under 256 is a byte, any other a pause.
--     disarmed, armed, inside k    the numbers of the states: 0, 1, and 1 + k inside a telegram of which k bytes stand in the page
--     held_in s                    k of the state that has number s
--     settled_of s room            the state that a number says: disarmed where it is none, or says more bytes than the page has
--     is_pause x                   whether the item is a pause
--     step_rows s x page           what the item x does, in order
--     step_of s x page             the same: the next state, the length of the telegram that x completed, else 0, and the page
use Rattle.std.specs.Prelude.{ℕ, ◌+◌, ◌-◌, Bool, not, List, [], ◌∷◌, ltb, leb, eqb, length, set}
use Rattle.rows.specs.Rows.{first_of}
use Rattle.words.specs.Words.{byte_at}
use Rattle.step.specs.declared.Move.{Move}

abbrev pub disarmed : ℕ
disarmed = 0

abbrev pub armed : ℕ
armed = 1

abbrev pub inside : ℕ → ℕ
inside k = k + 1

abbrev pub held_in : ℕ → ℕ
held_in s = s - 1

-- k is at most 255
unfoldable pub settled_of : ℕ → ℕ → ℕ
settled_of s room = first_of ((ltb 256 s, disarmed) ∷ (eqb s disarmed, disarmed) ∷ (ltb room (held_in s), disarmed) ∷ []) s

abbrev pub is_pause : ℕ → Bool
is_pause x = leb 256 x

-- what an item leaves: state and length, and the page
pub record Stepped : Type 0 where
  pub move : Move
  pub page : List ℕ

-- the state is s, and nothing is handed out
abbrev pub onward : ℕ → List ℕ → Stepped
onward s page = record { move = record { state = s; length = 0 }; page = page }

-- the telegram of n bytes at the start of the page is handed out, and the receiver disarms
abbrev pub handed : ℕ → List ℕ → Stepped
handed n page = record { move = record { state = disarmed; length = n }; page = page }

-- "Only 02 directly after a pause opens a telegram; any other first byte .. disarms it"
abbrev pub first_rows : ℕ → List ℕ → List (Bool × Stepped)
first_rows x page = (not (eqb x 2), onward disarmed page) ∷ []

abbrev pub opened : List ℕ → Stepped
opened page = onward (inside 1) (set page 0 2)

-- "or an LGE outside 3 to 254, disarms it"; so does one whose telegram does not fit the page (ours)
abbrev pub lge_rows : ℕ → List ℕ → List (Bool × Stepped)
lge_rows x page =
    (ltb x 3, onward disarmed page)
    ∷ (ltb 254 x, onward disarmed page)
    ∷ (ltb (length page) (x + 2), onward disarmed page)
    ∷ []

abbrev pub promised : ℕ → List ℕ → Stepped
promised x page = onward (inside 2) (set page 1 x)

abbrev pub step_rows : ℕ → ℕ → List ℕ → List (Bool × Stepped)
step_rows s x page =
    -- "A pause arms the receiver"; "a pause inside a telegram drops it and arms again"
    (is_pause x, onward armed page)
    -- disarmed, bytes are ignored
    ∷ (eqb s disarmed, onward disarmed page)
    -- no byte is put past the page's end (ours)
    ∷ (leb (length page) (held_in s), onward disarmed page)
    -- the first byte
    ∷ (eqb s armed, first_of (first_rows x page) (opened page))
    -- the second byte, LGE
    ∷ (eqb s (inside 1), first_of (lge_rows x page) (promised x page))
    -- "At LGE + 2 bytes the telegram is handed out once .. and the receiver disarms"
    ∷ (eqb s (byte_at page 1 + 2), handed s (set page (held_in s) x))
    -- a 256th byte that is not the last disarms (ours): only a page that someone else wrote can have it
    ∷ (leb 256 s, onward disarmed (set page (held_in s) x))
    ∷ []

-- any other byte is put behind those that are there
unfoldable pub step_of : ℕ → ℕ → List ℕ → Stepped
step_of s x page = first_of (step_rows s x page) (onward (s + 1) (set page (held_in s) x))
