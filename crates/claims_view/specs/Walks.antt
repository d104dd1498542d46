-- What a view shows from step to step (document 02, W-205).
--     walk_of t n c      what is shown from a cursor on, record after record, in n looks, until nothing is there
--     steps_of t n c     the cursor after n steps
--     Away t c           no record is there: nothing is shown, and the cursor stays
--     Inside t c         a record of the table is there: it is shown, and the next one follows
--     Rising least ss    the numbers shown rise: the first from `least` on, each further one over the one before it
use Rattle.std.specs.Prelude.{ℕ, zero, suc, ◌+◌, ◌*◌, ◌<◌, ◌≤◌, ◌≡◌, List, [], ◌∷◌, cond, eqb, length}
use Rattle.table.specs.Records.{entry_at}
use Rattle.view.specs.View.{shown_of, nothing, cursor_at, show_of, step_of}
use Rattle.view.specs.declared.Cursor.{Cursor}
use Rattle.view.specs.declared.Shown.{Shown}

unfoldable pub walk_of : List ℕ → ℕ → Cursor → List Shown
walk_of t zero c = []
walk_of t (suc n) c = cond (eqb (show_of t c).there 0) [] (show_of t c ∷ walk_of t n (step_of t c))

unfoldable pub steps_of : List ℕ → ℕ → Cursor → Cursor
steps_of t zero c = c
steps_of t (suc n) c = steps_of t n (step_of t c)

pub record Away (t : List ℕ) (c : Cursor) : Type 0 where
  pub shows : show_of t c ≡ nothing
  pub stays : step_of t c ≡ c

-- the twelve bytes of the record are bytes of the table
pub record Inside (t : List ℕ) (c : Cursor) : Type 0 where
  pub clear : c.number ≡ 0
  pub few : c.at < 512
  pub within : 12 * c.at + 12 ≤ length t
  pub shows : show_of t c ≡ shown_of (entry_at t c.at)
  pub steps : step_of t c ≡ cursor_at 0 (c.at + 1)

abbrev pub Rising : ℕ → List Shown → Type 0
Rising least [] = Unit {0}
Rising least (s ∷ ss) = (least ≤ s.parameter) × Rising (s.parameter + 1) ss
