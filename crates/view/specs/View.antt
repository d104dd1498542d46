-- A view of a table that steps from record to record and shows each record's fields (document 02, W-205). A cursor has the number, 0 or
-- 21, and the record that the view stands at; it is the host's, and any numbers may stand in it.
--     flag_of b        a flag as a number
--     shown_of e       a record's fields as they are shown
--     nothing          what is shown where there is no record: all 0
--     cursor_at n k    the cursor of number n at record k
--     open_of t        the start: 21 for a table that breaks a rule, and else the first record
--     is_there t c     a record is there: no number, before the table's end, and among the 512 that a table has at most
--     show_of t c      what is shown
--     step_of t c      one record on; where no record is there the cursor stays
--     start_in t       the view that holds the table t, at the start
--     shown_in v       what a view that holds its table shows
--     stepped_in v     the same view, one record on
use Rattle.std.specs.Prelude.{ℕ, ◌+◌, ◌/◌, List, [], ◌∷◌, Bool, cond, not, ◌&&◌, eqb, ltb, length}
use Rattle.std.specs.Borrow.{Bor}
use Rattle.rows.specs.Rows.{first_of}
use Rattle.slave_answers.specs.SlaveNumbers.{opening_number}
use Rattle.slave_answers.specs.declared.OpeningFault.TheVariants.{BadTable}
use Rattle.entry.specs.declared.Entry.{Entry}
use Rattle.table.specs.Records.{entry_at}
use Rattle.opening.specs.Rules.{table_ok}
use Rattle.view.specs.declared.Cursor.{Cursor}
use Rattle.view.specs.declared.Shown.{Shown}
use Rattle.view.specs.declared.View.{View}

abbrev pub flag_of : Bool → ℕ
flag_of b = cond b 1 0

unfoldable pub shown_of : Entry → Shown
shown_of e = record {
  there = 1;
  parameter = e.number;
  is_double = flag_of e.double;
  is_signed = flag_of e.signed;
  writable = flag_of e.writable;
  elements = e.elements;
  minimum = e.minimum;
  maximum = e.maximum;
}

abbrev pub nothing : Shown
nothing = record {
  there = 0;
  parameter = 0;
  is_double = 0;
  is_signed = 0;
  writable = 0;
  elements = 0;
  minimum = 0;
  maximum = 0;
}

abbrev pub cursor_at : ℕ → ℕ → Cursor
cursor_at n k = record { number = n; at = k }

unfoldable pub open_of : List ℕ → Cursor
open_of t = first_of ((not (table_ok t), cursor_at (opening_number BadTable) 0) ∷ []) (cursor_at 0 0)

-- the last test is ours: the next record's number then has 32 bits in any table
unfoldable pub is_there : List ℕ → Cursor → Bool
is_there t c = eqb c.number 0 && ltb c.at (length t / 12) && ltb c.at 512

unfoldable pub show_of : List ℕ → Cursor → Shown
show_of t c = cond (is_there t c) (shown_of (entry_at t c.at)) nothing

unfoldable pub step_of : List ℕ → Cursor → Cursor
step_of t c = cond (is_there t c) (cursor_at 0 (c.at + 1)) c

-- ---- the view that holds its table

abbrev pub start_in : Bor (List ℕ) → View
start_in t = record { table = t; cursor = open_of t.now }

abbrev pub shown_in : View → Shown
shown_in v = show_of v.table.now v.cursor

abbrev pub stepped_in : View → View
stepped_in v = record { table = v.table; cursor = step_of v.table.now v.cursor }
