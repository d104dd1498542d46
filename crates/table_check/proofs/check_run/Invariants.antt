-- What the loop of `table_check::check_run` keeps: the check of all values is that of those that are left.
use Rattle.std.proofs.Common.{◌≡◌, ◌+◌, ◌-◌}
use Rattle.table_check.specs.Checks.{run_check}
use Rattle.table_check.proofs.check_run.Given as goal

abbrev pub invariant-loop-i : goal.invariant-loop-i
invariant-loop-i l = run_check l.e l.values l.n l.k l.place ≡ run_check l.e l.values (l.n - l.i) l.k (l.place + l.i)
