-- What the search of `table::find` keeps: what is found is among the records that are left. Assumes nothing.
use Rattle.std.proofs.Common.{◌-◌, ◌≡◌, ◌≤◌}
use Rattle.table.specs.Records.{entries_from, find_from}
use Rattle.table.proofs.find.Given as goal

abbrev pub invariant-loop-k : goal.invariant-loop-k
invariant-loop-k l =
    (l.k ≤ l.n) × (find_from l.number (entries_from l.t l.n 0) 0 ≡ find_from l.number (entries_from l.t (l.n - l.k) l.k) l.k)

abbrev pub decreases-loop-k : goal.decreases-loop-k
decreases-loop-k l = l.n - l.k
