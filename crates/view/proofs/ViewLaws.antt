-- Laws of a view: its start, where a record is there, and where none is. Assumes nothing.
use Prim.Native.Nat.{ℕ, ◌+◌, ◌/◌, ◌<◌, ◌≤◌}
use mathlib.Core.Path.{◌≡◌, ◌∙◌}
use mathlib.Core.List.{List}
use mathlib.Core.Bool.{true, false, ◌&&◌, and-false}
use lib.Dec.{eqb, ltb}
use lib.ListN.{length}
use borrow.Author.Tests.{le-ltb, lt-ltb, ne_eqb, eqb-true, ltb-true}
use Rattle.rows.proofs.BoolLaws.{and_left, and_right}
use Rattle.table.specs.Records.{entry_at}
use Rattle.opening.specs.Rules.{table_ok}
use Rattle.view.specs.declared.Cursor.{Cursor}
use Rattle.view.specs.View.{shown_of, nothing, cursor_at, open_of, is_there, show_of, step_of}

module _ (t : List ℕ) where
  pub open_closed : table_ok t ≡ false → open_of t ≡ cursor_at 21 0
  unfolding open_of
  open_closed h = rw h

  pub open_kept : table_ok t ≡ true → open_of t ≡ cursor_at 0 0
  unfolding open_of
  open_kept h = rw h

module _ (t : List ℕ) (c : Cursor) where
  -- a number, or past the last record
  pub away_number : (c.number ≡ 0 → ⊥) → is_there t c ≡ false
  unfolding is_there
  away_number h = rw (ne_eqb _ _ h)

  pub away_past : length t / 12 ≤ c.at → is_there t c ≡ false
  unfolding is_there
  away_past h = rw (le-ltb _ _ h, and-false)

  pub there_below : c.number ≡ 0 → c.at < length t / 12 → is_there t c ≡ ltb c.at 512
  unfolding is_there
  there_below z h = rw (z, lt-ltb _ _ h)

  pub there_at : c.number ≡ 0 → c.at < length t / 12 → c.at < 512 → is_there t c ≡ true
  there_at z h f = there_below z h ∙ lt-ltb _ _ f

  -- where a record is there, it is one of the table
  pub there_is : is_there t c ≡ true → (c.number ≡ 0) × (c.at < length t / 12) × (c.at < 512)
  unfolding is_there
  there_is h =
      let a = eqb c.number 0 in
      let b = ltb c.at (length t / 12) in
      let d = ltb c.at 512 in
      let i = and_left (a && b) d h in
      (eqb-true c.number 0 (and_left a b i), ltb-true c.at (length t / 12) (and_right a b i), ltb-true c.at 512 (and_right (a && b) d h))

  pub show_none : is_there t c ≡ false → show_of t c ≡ nothing
  unfolding show_of
  show_none h = rw h

  pub show_record : is_there t c ≡ true → show_of t c ≡ shown_of (entry_at t c.at)
  unfolding show_of
  show_record h = rw h

  pub step_none : is_there t c ≡ false → step_of t c ≡ c
  unfolding step_of
  step_none h = rw h

  pub step_record : is_there t c ≡ true → step_of t c ≡ cursor_at 0 (c.at + 1)
  unfolding step_of
  step_record h = rw h
