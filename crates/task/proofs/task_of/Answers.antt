-- `task::task_of` meets its contract: each arm is a row of the table. Assumes nothing.
use Rattle.std.proofs.Common.{◌≡◌, refl, sym, ◌∙◌, true, false, cond, ◌-◌, nat_eq, arith}
use Rattle.rows.proofs.RangeLaws.{between}
use Rattle.task.specs.declared.Act.TheVariants.{Change, Count, Refuse}
use Rattle.task.specs.declared.Width.TheVariants.{Either, Word, Double}
use Rattle.task.specs.Task.{task_row, refused_row, tasks, task_of}
use Rattle.task.proofs.TaskLaws.{refused_on}
use Rattle.task.proofs.task_of.Goals as goal
use Rattle.task.proofs.task_of.Goals.{in_default-via-then-id-lt6, in_default-via-else-id-lt6+else-id-lt9+else-id-lt11+else-id-lt13+else-id-lt15}

pub returns-in-2-to-3 : goal.returns-in-2-to-3
unfolding task_of tasks
returns-in-2-to-3 c =
    c.row-in-2-to-3.ensures
    ∙ rw c.width_of.ensures
    (between (λ k. task_row Change (cond (nat_eq k 2) Word Double) true (k - 1) ≡ task_of k) 2 2 (refl, (refl, tt)) c.args.id (omega arith) (omega arith))

pub returns-in-7-to-8 : goal.returns-in-7-to-8
unfolding task_of tasks
returns-in-7-to-8 c =
    c.row-in-7-to-8.ensures
    ∙ rw c.width_of-in-7-to-8.ensures
    (between (λ k. task_row Change (cond (nat_eq k 7) Word Double) true (k - 3) ≡ task_of k) 2 7 (refl, (refl, tt)) c.args.id (omega arith) (omega arith))

pub returns-in-9-to-10 : goal.returns-in-9-to-10
unfolding task_of tasks
returns-in-9-to-10 c =
    c.row-in-9-to-10.ensures
    ∙ rw c.count_if.ensures
    (between (λ k. task_row (cond (nat_eq k 9) Count Refuse) Either false (k - 3) ≡ task_of k) 2 9 (refl, (refl, tt)) c.args.id (omega arith) (omega arith))

pub returns-in-11-to-12 : goal.returns-in-11-to-12
unfolding task_of tasks
returns-in-11-to-12 c =
    c.row-in-11-to-12.ensures
    ∙ rw c.width_of-in-11-to-12.ensures
    (between (λ k. task_row Change (cond (nat_eq k 12) Word Double) true (16 - k) ≡ task_of k) 2 11 (refl, (refl, tt)) c.args.id (omega arith) (omega arith))

pub returns-in-13-to-14 : goal.returns-in-13-to-14
unfolding task_of tasks
returns-in-13-to-14 c =
    c.row-in-13-to-14.ensures
    ∙ rw c.width_of-in-13-to-14.ensures
    (between (λ k. task_row Change (cond (nat_eq k 14) Word Double) true (15 - k) ≡ task_of k) 2 13 (refl, (refl, tt)) c.args.id (omega arith) (omega arith))

pub returns-in_default : goal.returns-in_default
unfolding task_of tasks
returns-in_default c =
    c.row-in_default.ensures
    ∙ elim c.in_default.branch [
      | in_default-via-then-id-lt6 w ↦ between (λ k. refused_row ≡ task_of k) 2 4 (refl, (refl, tt)) c.args.id (omega arith) (omega arith)
      | in_default-via-else-id-lt6+else-id-lt9+else-id-lt11+else-id-lt13+else-id-lt15 w ↦ sym (refused_on c.args.id (omega arith))
    ]
