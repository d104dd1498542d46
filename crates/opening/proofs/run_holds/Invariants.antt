-- What the loop of `opening::run_holds` keeps: what is asked is `all` so far and the values that are left; the first value shows
-- the limits to be in order. Assumes nothing.
use Rattle.std.proofs.Common.{◌≡◌, ◌&&◌, ◌+◌, ◌-◌, ◌≤◌}
use Rattle.limits.specs.Limits.{limits_ok}
use Rattle.opening.specs.Rules.{run_ok}
use Rattle.opening.proofs.run_holds.Given as goal

abbrev pub invariant-loop-i : goal.invariant-loop-i
invariant-loop-i l = record {
  in_range : l.i ≤ l.n;
  left : (limits_ok l.e && run_ok l.e l.values l.n l.place) ≡ (l.all && (limits_ok l.e && run_ok l.e l.values (l.n - l.i) (l.place + l.i)));
  shown : 1 ≤ l.i → (l.all && limits_ok l.e) ≡ l.all;
}

abbrev pub decreases-loop-i : goal.decreases-loop-i
decreases-loop-i l = l.n - l.i
