-- What the loop of `places::fill` keeps: the first place of the next record, and the places before it. Assumes nothing.
use Rattle.std.proofs.Common.{◌≡◌}
use Rattle.table.specs.Records.{first_place}
use Rattle.places.proofs.FillLaws.{Filled}
use Rattle.places.proofs.fill.Given as goal

abbrev pub invariant-loop-k : goal.invariant-loop-k
invariant-loop-k l = record { next : l.place ≡ first_place l.table l.k; filled : Filled l.table l.places l.k }
