-- What the loop of `table_check::Records::count_all` keeps: the places of the records so far, and of those that are left.
use Rattle.std.proofs.Common.{◌≡◌, ◌+◌, ◌-◌, ◌*◌, ◌≤◌}
use Rattle.table.specs.Records.{entries_from, counts_of}
use Rattle.table_check.proofs.Records.count_all.Given as goal

abbrev pub invariant-loop-k : goal.invariant-loop-k
invariant-loop-k l = record {
  few : l.places ≤ 255 * l.k;
  counted : counts_of (entries_from l.self.bytes.now l.self.count 0) ≡ l.places + counts_of (entries_from l.self.bytes.now (l.self.count - l.k) l.k);
}
