-- `slave::sum_places`: the places of the records so far. Assumes nothing.
use Rattle.std.proofs.Common.{◌≡◌, ◌*◌, ◌≤◌}
use Rattle.table.specs.Records.{first_place}
use Rattle.slave.proofs.sum_places.Given as goal

abbrev pub invariant-loop-i : goal.invariant-loop-i
invariant-loop-i l = (l.sum ≤ 255 * l.i) × (l.sum ≡ first_place l.t l.i)
