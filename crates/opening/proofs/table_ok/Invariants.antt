-- What the loop of `opening::table_ok` keeps: the rules are kept where the records that are left keep them. Assumes nothing.
use Rattle.std.proofs.Common.{◌≡◌, ◌-◌, ◌*◌, ◌≤◌}
use Rattle.table.specs.Records.{entries_from}
use Rattle.opening.specs.Rules.{table_ok}
use Rattle.opening.proofs.PassLaws.{ruled_from}
use Rattle.opening.proofs.table_ok.Given as goal

abbrev pub invariant-loop-k : goal.invariant-loop-k
invariant-loop-k l = record {
  in_range : l.k ≤ l.n;
  places_few : l.place ≤ 255 * l.k;
  left : table_ok l.t ≡ ruled_from (entries_from l.t (l.n - l.k) l.k) l.least l.place;
}

abbrev pub decreases-loop-k : goal.decreases-loop-k
decreases-loop-k l = l.n - l.k
