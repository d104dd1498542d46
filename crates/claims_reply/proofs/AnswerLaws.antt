-- What a slave answers to a task that can be asked: a reply ID of the task's row or 7, and a value that fits. Assumes nothing.
use mathlib.Core.Path.{◌≡◌, refl, sym}
use mathlib.Core.Bool.{Bool, true, false, false≢true}
use Prim.Native.Nat.{ℕ, ◌+◌, ◌/◌, ◌≤◌, ◌<◌}
use native.Mathlib.Omega.{arith}
use borrow.Author.Tests.{leb-true, ne_eqb}
use lib.ListN.{get_or}
use Rattle.std.specs.Prelude.{Option, Some, None, Result, Ok, Err}
use Rattle.setup.proofs.SetupLaws.{Wide}
use Rattle.limits.specs.Limits.{fits_in}
use Rattle.limits.proofs.LimitsLaws.{ok_ruled, within_fits}
use Rattle.table.specs.Records.{entry_at, first_place}
use Rattle.opening.specs.Lent.{Lent}
use Rattle.opening.specs.Answers.{opening_of, passed}
use Rattle.opening.proofs.FoundLaws.{InTable, found_in_table}
use Rattle.area.specs.declared.Area.{Area}
use Rattle.page.specs.Page.{full_number}
use Rattle.errors.specs.declared.ParameterError.TheVariants.{NoParameter}
use Rattle.task.proofs.TaskLaws.{task_row_lem}
use Rattle.deed.specs.Deed.{task_in, element_in, verdict_in, deed_on}
use Rattle.deed.proofs.DeedLaws.{deed_denied, deed_granted, element_there}
use Rattle.deed.proofs.ReplyLaws.{granted_room, count_few}
use Rattle.request.specs.Request.{value_fits}
use Rattle.slave.specs.Perform.{done_by, found_of, plan_on, plan_in, carried_out, perform_of}
use Rattle.slave.proofs.PerformLaws.{named_found}
use Rattle.claims_reply.proofs.SuitLaws.{Answers, error_answers, done_answers}
use Rattle.errors.specs.declared.ParameterError.{ParameterError}

-- ---- a task on a record of a table that passed

word_fits : (double : Bool) (x : ℕ) → fits_in double x ≡ true → double ≡ false → x ≤ 65535
unfolding fits_in
word_fits true x h e = absurd (false≢true (sym e))
word_fits false x h e = leb-true x 65535 h

module _ (l : Lent) (n : ℕ) (a : Area) (w : Wide n) (small : a.value < 4294967296) (values : (i : ℕ) → get_or l.memory.values i 0 < 4294967296)
    (fits : value_fits (task_in a).act (task_in a).width n a.value ≡ true) where
  on_answers : (j : ℕ) → InTable l j → Answers n a (done_by (deed_on n a (entry_at l.table j)) (first_place l.table j) l.memory).area
  on_answers j p = go (verdict_in n a (entry_at l.table j)) refl
    where
      go : (d : Result (Unit {0}) ParameterError) → verdict_in n a (entry_at l.table j) ≡ d → Answers n a (done_by (deed_on n a (entry_at l.table j)) (first_place l.table j) l.memory).area
      go (Ok done) g =
          let e = entry_at l.table j in
          let i = element_in a e in
          let x = get_or l.memory.values (first_place l.table j + i) 0 in
          rw (deed_granted n a e g)
          (done_answers n a e l.memory (first_place l.table j) w small (task_in a).act refl (task_row_lem (a.pke / 4096)) fits
          (record {
            room = granted_room n a e g;
            whole = values (first_place l.table j + i);
            word = word_fits e.double x (within_fits e x (p.value i (element_there n a e g)));
            few = omega (arith, count_few e (ok_ruled e p.ok).elements_few);
          }))
      go (Err error) g = rw (deed_denied n a (entry_at l.table j) error g) (error_answers n a error w)

  -- ---- a task on a table that passed

  pub task_answers : opening_of l ≡ passed → (a.pke / 4096 ≡ 0 → ⊥) → Answers n a (perform_of n l.table l.memory a).area
  unfolding plan_in
  task_answers opened some = rw (ne_eqb (a.pke / 4096) 0 some) (go (found_of l.table a) refl)
    where
      go : (f : Option ℕ) → found_of l.table a ≡ f → Answers n a (carried_out (plan_on n l.table a f) l.memory).area
      go None e = error_answers n a NoParameter w
      go (Some j) e = on_answers j (found_in_table l (full_number a.pke a.ind) j opened (named_found l.table a j e))
