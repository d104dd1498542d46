-- Laws of the task IDs. Assumes nothing.
use mathlib.Core.Path.{◌≡◌, refl, ap}
use mathlib.Core.Bool.{Bool, true, false}
use mathlib.Core.Logic.{◌⊎◌, inl, inr}
use mathlib.Core.List.{List, [], ◌∷◌}
use Prim.Native.Nat.{ℕ, zero, suc, ◌≤◌, ◌<◌}
use native.Mathlib.Nat.{eq-or-lt_of_le}
use lib.Dec.{lit≤}
use lib.ListN.{get_or, get_or-eq_default}
use Rattle.rows.specs.Rows.{Each}
use Rattle.task.specs.declared.Act.{Act}
use Rattle.task.specs.declared.Act.TheVariants.{Nothing, Read, Change, Count, Refuse}
use Rattle.task.specs.declared.Width.{Width}
use Rattle.task.specs.declared.Width.TheVariants.{Either, Word, Double}
use Rattle.task.specs.declared.Task.{Task}
use Rattle.task.specs.Task.{refused_row, tasks, task_of, read_reply, is_double_id}

-- 15, and the numbers that are no task ID
pub refused_on : (id : ℕ) → 15 ≤ id → task_of id ≡ refused_row
unfolding task_of tasks
refused_on id h = go (eq-or-lt_of_le h)
  where
    go : (15 ≡ id) ⊎ (15 < id) → task_of id ≡ refused_row
    go (inl e) = rw (← e)
    go (inr l) = get_or-eq_default tasks refused_row l

-- what holds of each row, and of that of the IDs that are refused, holds of what every ID asks
each_at : (P : Task → Type 0) (other : Task) → P other → (rows : List Task) → Each P rows → (i : ℕ) → P (get_or rows i other)
each_at P other o [] h i = o
each_at P other o (row ∷ rows) h zero = h.0
each_at P other o (row ∷ rows) h (suc i) = each_at P other o rows h.1 i

pub each_task : (P : Task → Type 0) → P refused_row → Each P tasks → (id : ℕ) → P (task_of id)
unfolding task_of
each_task P o h id = each_at P refused_row o tasks h id

-- reply IDs are at most 7
pub reply_small : (id : ℕ) → (task_of id).reply ≤ 7
unfolding tasks
reply_small =
    each_task (λ k. k.reply ≤ 7) (lit≤ tt)
    (lit≤ tt, (lit≤ tt, (lit≤ tt, (lit≤ tt, (lit≤ tt, (lit≤ tt, (lit≤ tt, (lit≤ tt, (lit≤ tt, (lit≤ tt, (lit≤ tt, (lit≤ tt, (lit≤ tt, (lit≤ tt, (lit≤ tt, (lit≤ tt, tt))))))))))))))))

-- ---- the reply IDs of the table, by act and width

-- 1 or 4 for a word, 2 or 5 for a double
abbrev pub IdOf : Bool → ℕ → Type 0
IdOf double reply = (reply ≡ read_reply 1 double) ⊎ (reply ≡ read_reply 4 double)

-- those of words for a read, whose doubles have the next ID; 6 for the number of elements
abbrev pub RowOf : Act → Width → ℕ → Type 0
RowOf Nothing width reply = reply ≡ 0
RowOf Read width reply = IdOf false reply
RowOf Change Either reply = ⊥
RowOf Change Word reply = IdOf false reply
RowOf Change Double reply = IdOf true reply
RowOf Count width reply = reply ≡ 6
RowOf Refuse width reply = reply ≡ 7

pub task_row_lem : (id : ℕ) → RowOf (task_of id).act (task_of id).width (task_of id).reply
unfolding tasks
task_row_lem =
    each_task (λ k. RowOf k.act k.width k.reply) refl
    (refl, (inl refl, (inl refl, (inl refl, (refl, (refl, (inr refl, (inr refl, (inr refl, (refl, (refl, (inr refl, (inr refl, (inl refl, (inl refl, (refl, tt))))))))))))))))

pub id_width : (double : Bool) (reply : ℕ) → IdOf double reply → is_double_id reply ≡ double
id_width true reply (inl e) = ap is_double_id e
id_width true reply (inr e) = ap is_double_id e
id_width false reply (inl e) = ap is_double_id e
id_width false reply (inr e) = ap is_double_id e

-- a read of a double replies with the next ID
pub read_id_lem : (reply : ℕ) (double : Bool) → IdOf false reply → IdOf double (read_reply reply double)
read_id_lem reply double (inl e) = inl (rw e)
read_id_lem reply double (inr e) = inr (rw e)
