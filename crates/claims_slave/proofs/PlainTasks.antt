-- Tasks 1, 2, 3, 13 and 14 use the index as tasks 6, 7 and 8 do, and reply with their own IDs (document 02, W-203). Assumes nothing.
--     plain_by_index      whatever table, values and area: the same error, or the same value read or written
use Prim.Native.Nat.{ℕ, ◌+◌, ◌*◌, ◌/◌, ◌%◌, ◌<◌}
use mathlib.Core.Path.{◌≡◌, refl, sym, ap, ◌∙◌}
use mathlib.Core.Bool.{Bool, true, false}
use mathlib.Core.List.{List}
use native.Mathlib.Omega.{arith}
use borrow.Author.Tests.{ne_eqb}
use lib.Dec.{lit<}
use lib.ListN.{get_or}
use Rattle.std.specs.Prelude.{Option, Some, None, Result, Ok, Err}
use Rattle.rows.specs.Rows.{Each}
use Rattle.area.specs.declared.Area.{Area}
use Rattle.opening.specs.Lent.{Memory, stored}
use Rattle.table.specs.Records.{entry_at, first_place}
use Rattle.entry.specs.declared.Entry.{Entry}
use Rattle.page.specs.Page.{base_of}
use Rattle.task.specs.declared.Act.{Act}
use Rattle.task.specs.declared.Act.TheVariants.{Nothing, Read, Change, Count, Refuse}
use Rattle.task.specs.declared.Width.{Width}
use Rattle.task.specs.declared.Width.TheVariants.{Either, Word, Double}
use Rattle.task.specs.Task.{task_row, tasks, task_of, read_reply, carried}
use Rattle.errors.specs.declared.ParameterError.TheVariants.{NoParameter}
use Rattle.errors.specs.ErrorNumbers.{error_number}
use Rattle.errors.specs.declared.ParameterError.{ParameterError}
use Rattle.verdict.specs.Verdict.{verdict_of, element_of}
use Rattle.deed.specs.Deed.{reply_area, task_in, index_in, verdict_in, act_deed, deed_on}
use Rattle.deed.proofs.DeedLaws.{deed_denied, deed_granted}
use Rattle.slave.specs.Perform.{Performed, done_by, found_of, plan_on, plan_in, carried_out}
use Rattle.claims_slave.specs.PlainTasks.{plain_tasks, as_task, plain_id, as_plain, ByIndex}

task_is : (id : ℕ) (a : Area) → task_in (as_task id a) ≡ task_of id
task_is id a = ap task_of (omega arith)

-- areas that differ in the task ID alone: they have the same base, and so name the same record
module _ (p q : ℕ) (a : Area) where
  base_same : base_of (as_task p a).pke ≡ base_of (as_task q a).pke
  base_same = omega arith

  found_same : (t : List ℕ) → found_of t (as_task p a) ≡ found_of t (as_task q a)
  unfolding found_of
  found_same t = rw base_same

  -- a reply to q with the ID id, as a plain one, is the reply to p with the ID low
  reply_plain : (id low v : ℕ) (m : Memory) → plain_id id ≡ low
      → ◌≡◌ {A = Performed} (record { area = reply_area (as_task p a) low v; memory = m }) (as_plain (record { area = reply_area (as_task q a) id v; memory = m }))
  reply_plain id low v m h =
      ap (λ (x : ℕ). record { area = record { pke = x; ind = a.ind / 4096 * 4096 + a.ind % 256; value = v }; memory = m })
      (let sent : (reply_area (as_task q a) id v).pke / 4096 ≡ id = omega arith in
      rw (sent, h) (omega arith))

-- the reply IDs of two tasks of one act: low that of the plain one
abbrev Lower : Act → ℕ → ℕ → Type 0
Lower Nothing id low = ⊥
Lower Read id low = (double : Bool) → plain_id (read_reply id double) ≡ read_reply low double
Lower Change id low = plain_id id ≡ low
Lower Count id low = ⊥
Lower Refuse id low = ⊥

-- two tasks of one act and width, both by index
module _ (p q : ℕ) (act : Act) (width : Width) (low id : ℕ)
    (is-p : task_of p ≡ task_row act width true low) (is-q : task_of q ≡ task_row act width true id) (lower : Lower act id low)
    (n : ℕ) (a : Area) where
  p_is : task_in (as_task p a) ≡ task_row act width true low
  p_is = task_is p a ∙ is-p

  q_is : task_in (as_task q a) ≡ task_row act width true id
  q_is = task_is q a ∙ is-q

  verdict_same : (e : Entry) → verdict_in n (as_task p a) e ≡ verdict_in n (as_task q a) e
  unfolding verdict_of
  verdict_same e = rw (p_is, q_is)

  module _ (e : Entry) (first : ℕ) (m : Memory) where
    granted_plain : (x : Act) → Lower x id low → done_by (act_deed x (as_task p a) e) first m ≡ as_plain (done_by (act_deed x (as_task q a) e) first m)
    unfolding element_of
    granted_plain Nothing l = absurd l
    granted_plain Read l =
        rw (p_is, q_is)
        (let v = get_or m.values (first + element_of (task_row act width true low) e (index_in a)) 0 in
        reply_plain p q a (read_reply id e.double) (read_reply low e.double) v m (l e.double))
    granted_plain Change l =
        rw (p_is, q_is)
        (let v = carried width a.value in
        reply_plain p q a id low v (stored m (first + element_of (task_row act width true low) e (index_in a)) v) l)
    granted_plain Count l = absurd l
    granted_plain Refuse l = absurd l

    deed_plain : done_by (deed_on n (as_task p a) e) first m ≡ as_plain (done_by (deed_on n (as_task q a) e) first m)
    deed_plain = go (verdict_in n (as_task p a) e) refl
      where
        go : (v : Result (Unit {0}) ParameterError) → verdict_in n (as_task p a) e ≡ v → done_by (deed_on n (as_task p a) e) first m ≡ as_plain (done_by (deed_on n (as_task q a) e) first m)
        go (Err error) h =
            rw (deed_denied n (as_task p a) e error h, deed_denied n (as_task q a) e error (sym (verdict_same e) ∙ h))
            (reply_plain p q a 7 7 (error_number error) m refl)
        go (Ok done) h =
            rw (deed_granted n (as_task p a) e h, deed_granted n (as_task q a) e (sym (verdict_same e) ∙ h), p_is, q_is)
            (granted_plain act lower)

  on_plain : (t : List ℕ) (m : Memory) (f : Option ℕ) → carried_out (plan_on n t (as_task p a) f) m ≡ as_plain (carried_out (plan_on n t (as_task q a) f) m)
  on_plain t m None = reply_plain p q a 7 7 (error_number NoParameter) m refl
  on_plain t m (Some k) = deed_plain (entry_at t k) (first_place t k) m

  by_index : 0 < p → 0 < q → (t : List ℕ) (m : Memory) → ByIndex n t m a (p, q)
  unfolding plan_in
  by_index some other t m =
      rw (ne_eqb ((as_task p a).pke / 4096) 0 (λ z. omega (arith, some)), ne_eqb ((as_task q a).pke / 4096) 0 (λ z. omega (arith, other)), found_same p q a t)
      (on_plain t m (found_of t (as_task q a)))

pub plain_by_index : (n : ℕ) (t : List ℕ) (m : Memory) (a : Area) → Each (ByIndex n t m a) plain_tasks
unfolding task_of tasks
plain_by_index n t m a = (
  by_index 1 6 Read Either 1 4 refl refl read n a (lit< tt) (lit< tt) t m,
  (
    by_index 2 7 Change Word 1 4 refl refl refl n a (lit< tt) (lit< tt) t m,
    (
      by_index 3 8 Change Double 2 5 refl refl refl n a (lit< tt) (lit< tt) t m,
      (
        by_index 13 11 Change Double 2 5 refl refl refl n a (lit< tt) (lit< tt) t m,
        (by_index 14 12 Change Word 1 4 refl refl refl n a (lit< tt) (lit< tt) t m, tt),
      ),
    ),
  ),
)
  where
    read : (double : Bool) → plain_id (read_reply 4 double) ≡ read_reply 1 double
    read true = refl
    read false = refl
