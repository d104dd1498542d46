-- What the loop of `table_check::Records::check` keeps: the check of all records is that of those that are left.
use Rattle.std.proofs.Common.{◌≡◌, ◌-◌, ◌≤◌}
use Rattle.table.specs.Records.{entries_from}
use Rattle.table_check.specs.Checks.{records_check}
use Rattle.table_check.proofs.Records.check.Given as goal

abbrev pub invariant-loop-k : goal.invariant-loop-k
invariant-loop-k l = record {
  few : l.place ≤ 4096;
  left : records_check (entries_from l.self.bytes.now l.self.count 0) 0 0 0 ≡ records_check (entries_from l.self.bytes.now (l.self.count - l.k) l.k) l.k l.least l.place;
}
