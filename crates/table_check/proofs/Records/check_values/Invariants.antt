-- What the loop of `table_check::Records::check_values` keeps: the check of all records' values is that of those that are left.
use Rattle.std.proofs.Common.{◌≡◌, ◌+◌, ◌-◌, ◌*◌, ◌≤◌, length}
use Rattle.table.specs.Records.{entries_from, counts_of}
use Rattle.table_check.specs.Checks.{runs_check}
use Rattle.table_check.proofs.Records.check_values.Given as goal

abbrev pub invariant-loop-k : goal.invariant-loop-k
invariant-loop-k l = record {
  few : l.place ≤ 255 * l.k;
  counted : l.place + counts_of (entries_from l.self.bytes.now (l.self.count - l.k) l.k) ≡ length l.values;
  left : runs_check (entries_from l.self.bytes.now l.self.count 0) l.values 0 0 ≡ runs_check (entries_from l.self.bytes.now (l.self.count - l.k) l.k) l.values l.k l.place;
}
