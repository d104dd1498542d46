-- A view of a table that keeps its rules shows exactly the table's records, in order, each once; of any other it shows nothing; and no
-- cursor shows anything outside its table. Assumes nothing.
use Prim.Native.Nat.{ℕ, zero, suc, ◌+◌, ◌-◌, ◌/◌, ◌%◌, ◌<◌, ◌≤◌}
use mathlib.Core.Path.{◌≡◌, refl, ap, ◌∙◌}
use mathlib.Core.Logic.{◌⊎◌, inl, inr}
use mathlib.Core.List.{List, [], ◌∷◌, map}
use mathlib.Core.Bool.{Bool, true, false, ◌&&◌}
use native.Mathlib.Omega.{arith}
use native.Mathlib.Nat.{sub-zero, add-zero, zero-add, suc-add}
use borrow.Author.Tests.{leb-true, ltb-true, ltb-false}
use lib.Dec.{eqb, leb, ltb}
use lib.ListN.{length, take}
use lib.Seq.{take_all}
use Rattle.rows.proofs.BoolLaws.{and_left, and_right}
use Rattle.entry.specs.declared.Entry.{Entry}
use Rattle.table.specs.Records.{entry_at, entries_from, entries, counts_of}
use Rattle.table.proofs.RecordsLaws.{entries_step, entries_end}
use Rattle.opening.specs.Rules.{table_ok, rising_from, each_ok}
use Rattle.view.specs.View.{shown_of, nothing, cursor_at, open_of, is_there, show_of, step_of}
use Rattle.view.specs.declared.Cursor.{Cursor}
use Rattle.view.proofs.ViewLaws.{open_closed, open_kept, away_number, away_past, there_at, there_is, show_none, show_record, step_none, step_record}
use Rattle.claims_view.specs.Walks.{walk_of, steps_of, Away, Inside, Rising}

-- ---- any cursor

-- either nothing is shown and the cursor stays, or it stands at a record of the table, shows it and steps to the next
pub view_within : (t : List ℕ) (c : Cursor) → Away t c ⊎ Inside t c
view_within t c = go (is_there t c) refl
  where
    go : (b : Bool) → is_there t c ≡ b → Away t c ⊎ Inside t c
    go false h = inl (record { shows = show_none t c h; stays = step_none t c h })
    go true h =
        let i = there_is t c h in
        let b = i.1 in
        inr (record { clear = i.0; few = i.2; within = omega arith; shows = show_record t c h; steps = step_record t c h })

-- where there is no record, no number of steps brings one
away_on : (t : List ℕ) (c : Cursor) → Away t c → (n : ℕ) → show_of t (steps_of t n c) ≡ nothing
unfolding steps_of
away_on t c a zero = a.shows
away_on t c a (suc n) = rw a.stays (away_on t c a n)

steps_more : (t : List ℕ) (m n : ℕ) (c : Cursor) → steps_of t (m + n) c ≡ steps_of t n (steps_of t m c)
unfolding steps_of
steps_more t zero n c = rw zero-add
steps_more t (suc m) n c = rw suc-add (steps_more t m n (step_of t c))

-- ---- a table that breaks a rule

-- 21, and nothing is ever shown
pub view_closed : (t : List ℕ) → table_ok t ≡ false → ((open_of t).number ≡ 21) × ((n : ℕ) → show_of t (steps_of t n (open_of t)) ≡ nothing)
view_closed t h =
    let a = away_number t (cursor_at 21 0) (λ e. omega arith) in
    rw (open_closed t h)
    (refl, away_on t (cursor_at 21 0) (record { shows = show_none t (cursor_at 21 0) a; stays = step_none t (cursor_at 21 0) a }))

-- ---- a table that keeps its rules

-- at most 512 records, and their numbers rise
kept : (t : List ℕ) → table_ok t ≡ true → (length t / 12 ≤ 512) × (rising_from 0 (entries t) ≡ true)
kept t h =
    let a = eqb (length t % 12) 0 in
    let b = leb (length t / 12) 512 in
    let c = rising_from 0 (entries t) in
    let d = each_ok (entries t) in
    let e = leb (counts_of (entries t)) 4096 in
    let i = and_left (a && b && c) d (and_left (a && b && c && d) e h) in
    (leb-true (length t / 12) 512 (and_right a b (and_left (a && b) c i)), and_right (a && b) c i)

-- a look that shows a record, and one that shows none
module _ (t : List ℕ) (n : ℕ) (c : Cursor) where
  walk_more : (e : Entry) → show_of t c ≡ shown_of e → walk_of t (suc n) c ≡ shown_of e ∷ walk_of t n (step_of t c)
  unfolding walk_of shown_of
  walk_more e h = rw h

  walk_none : show_of t c ≡ nothing → walk_of t (suc n) c ≡ []
  unfolding walk_of
  walk_none h = rw h

-- past the last record
past : (t : List ℕ) (k : ℕ) → length t / 12 ≤ k → Away t (cursor_at 0 k)
past t k h =
    let a = away_past t (cursor_at 0 k) h in
    record { shows = show_none t (cursor_at 0 k) a; stays = step_none t (cursor_at 0 k) a }

module _ (t : List ℕ) (few : length t / 12 ≤ 512) where
  there : (k : ℕ) → k < length t / 12 → is_there t (cursor_at 0 k) ≡ true
  there k b = there_at t (cursor_at 0 k) refl b (omega arith)

  walk_from : (n k : ℕ) → walk_of t n (cursor_at 0 k) ≡ map shown_of (take n (entries_from t (length t / 12 - k) k))
  unfolding walk_of
  walk_from zero k = refl
  walk_from (suc n) k = go (ltb k (length t / 12)) refl (walk_from n (k + 1))
    where
      go : (b : Bool) → ltb k (length t / 12) ≡ b → walk_of t n (cursor_at 0 (k + 1)) ≡ map shown_of (take n (entries_from t (length t / 12 - (k + 1)) (k + 1)))
          → walk_of t (suc n) (cursor_at 0 k) ≡ map shown_of (take (suc n) (entries_from t (length t / 12 - k) k))
      go true p ih =
          let b = ltb-true k (length t / 12) p in
          walk_more t n (cursor_at 0 k) (entry_at t k) (show_record t (cursor_at 0 k) (there k b))
          ∙ rw (step_record t (cursor_at 0 k) (there k b), ih, entries_step t (length t / 12) k b)
      go false p ih =
          let b = ltb-false k (length t / 12) p in
          walk_none t n (cursor_at 0 k) (past t k b).shows ∙ rw (entries_end t (length t / 12) k b)

  steps_from : (n k : ℕ) → k + n ≤ length t / 12 → steps_of t n (cursor_at 0 k) ≡ cursor_at 0 (k + n)
  unfolding steps_of
  steps_from zero k h = rw add-zero
  steps_from (suc n) k h =
      let e : k + suc n ≡ k + 1 + n = omega arith in
      rw (step_record t (cursor_at 0 k) (there k (omega arith)), e) (steps_from n (k + 1) (omega arith))

count_from : (t : List ℕ) (n k : ℕ) → length (entries_from t n k) ≡ n
unfolding entries_from
count_from t zero k = refl
count_from t (suc n) k = ap suc (count_from t n (suc k))

rising_shown : (es : List Entry) (least n : ℕ) → rising_from least es ≡ true → Rising least (map shown_of (take n es))
unfolding rising_from shown_of
rising_shown es least zero h = tt
rising_shown [] least (suc n) h = tt
rising_shown (e ∷ es) least (suc n) h =
    let b = leb least e.number in
    let c = rising_from (e.number + 1) es in
    (leb-true least e.number (and_left b c h), rising_shown es (e.number + 1) n (and_right b c h))

-- n looks from the start show the first n records, in order
pub view_shows : (t : List ℕ) (n : ℕ) → table_ok t ≡ true → walk_of t n (open_of t) ≡ map shown_of (take n (entries t))
unfolding entries
view_shows t n h = rw (open_kept t h) (walk_from t (kept t h).0 n 0 ∙ rw sub-zero)

-- looks enough show exactly the records, and end there
pub view_shows_all : (t : List ℕ) (n : ℕ) → table_ok t ≡ true → length t / 12 ≤ n → walk_of t n (open_of t) ≡ map shown_of (entries t)
unfolding entries
view_shows_all t n h m =
    view_shows t n h ∙ ap (map shown_of) (take_all n (entries t) (rw (count_from t (length t / 12) 0) m))

-- after k steps record k is shown
pub view_at : (t : List ℕ) (k : ℕ) → table_ok t ≡ true → k < length t / 12 → show_of t (steps_of t k (open_of t)) ≡ shown_of (entry_at t k)
view_at t k h m =
    let few = (kept t h).0 in
    rw (open_kept t h, steps_from t few k 0 (omega arith), zero-add) (show_record t (cursor_at 0 k) (there t few k m))

-- after the last record nothing is shown, however many steps follow
pub view_ends : (t : List ℕ) (n : ℕ) → table_ok t ≡ true → show_of t (steps_of t (length t / 12 + n) (open_of t)) ≡ nothing
view_ends t n h =
    let m = length t / 12 in
    rw (open_kept t h, steps_more t m n (cursor_at 0 0), steps_from t (kept t h).0 m 0 (omega arith), zero-add)
    (away_on t (cursor_at 0 m) (past t m (omega arith)) n)

-- each once: the numbers shown rise
pub view_numbers_rise : (t : List ℕ) (n : ℕ) → table_ok t ≡ true → Rising 0 (walk_of t n (open_of t))
view_numbers_rise t n h = rw (view_shows t n h) (rising_shown (entries t) 0 n (kept t h).1)
