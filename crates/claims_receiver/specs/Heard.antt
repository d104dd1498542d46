-- What a receiver hears over many calls (document 02, W-201): the telegrams handed out, the end state and the page, of items that are
-- cut nowhere, and of items that a host cuts into calls as it likes.
--     heard_of s xs page    the step of every item in turn, with no call in it
--     handed_by r           the telegram that a call hands out, or none
--     Fed s page xs h       a host that has the items xs to feed, in any cuts, ends with h
use Rattle.std.specs.Prelude.{ℕ, cond, List, [], ◌∷◌, ◌++◌, eqb, length, take, drop}
use Rattle.step.specs.Step.{step_of, settled_of}
use Rattle.receiver.specs.Receive.{Reception, received_of}

pub record Heard : Type 0 where
  pub telegrams : List (List ℕ)
  pub state : ℕ
  pub page : List ℕ

-- the telegram of n bytes at the start of the page, none where n is 0
abbrev pub telegram_of : ℕ → List ℕ → List (List ℕ)
telegram_of n page = cond (eqb n 0) [] (take n page ∷ [])

-- these telegrams first, then what is heard later
abbrev pub first : List (List ℕ) → Heard → Heard
first ts h = record { telegrams = ts ++ h.telegrams; state = h.state; page = h.page }

abbrev pub silence : ℕ → List ℕ → Heard
silence s page = record { telegrams = []; state = s; page = page }

unfoldable pub heard_of : ℕ → List ℕ → List ℕ → Heard
heard_of s [] page = silence s page
heard_of s (x ∷ xs) page =
    first (telegram_of (step_of s x page).move.length (step_of s x page).page)
    (heard_of (step_of s x page).move.state xs (step_of s x page).page)

-- ---- calls

abbrev pub handed_by : Reception → List (List ℕ)
handed_by r = telegram_of r.received.length r.page

-- A call is lent the items xs, which may be none, one or all, while `rest` is yet to come; what it did not take is fed again.
pub data Fed : ℕ → List ℕ → List ℕ → Heard → Type 0 where
  stop : {s : ℕ} {page : List ℕ} → Fed s page [] (silence (settled_of s (length page)) page)
  call : {s : ℕ} {page : List ℕ} {h : Heard} (xs rest : List ℕ)
      → Fed (received_of s xs page).received.receiver.state (received_of s xs page).page (drop (received_of s xs page).received.taken xs ++ rest) h
      → Fed s page (xs ++ rest) (first (handed_by (received_of s xs page)) h)
