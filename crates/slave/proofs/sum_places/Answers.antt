-- `slave::sum_places` meets its contract: each record's places are added to those before. Assumes nothing.
use Rattle.std.proofs.Common.{◌≡◌, ap, ◌∙◌, arith, rules}
use Rattle.entry.specs.Fields.{count_of}
use Rattle.table.specs.Records.{entry_at, entries_from, counts_of}
use Rattle.table.proofs.RecordsLaws.{entry_part, count_at_le}
use Rattle.table.proofs.PlacesLaws.{place_next}
use Rattle.slave.proofs.sum_places.Goals as goal
use Rattle.slave.proofs.sum_places.Goals.{After-count_places-sum}

-- the places of record i
counted : (c : After-count_places-sum) → c.count_places-sum.result ≡ count_of (entry_at c.args.t.now c.loop-i.i)
counted c = c.count_places-sum.ensures ∙ ap count_of (c.entry_in.ensures ∙ entry_part c.args.t.now c.loop-i.i _ (omega arith) (omega arith))

pub overflow_add-sum : goal.overflow_add-sum
overflow_add-sum c =
    let e = counted (goal.at.overflow_add-sum c).After-count_places-sum in
    omega (arith, count_at_le c.args.t.now c.loop-i.i)

pub loop-i-init : goal.loop-i-init
unfolding entries_from counts_of
loop-i-init c = search rules

pub loop-i-preserved : goal.loop-i-preserved
loop-i-preserved c =
    let e = counted (goal.at.loop-i-preserved c).After-count_places-sum in
    let next = place_next c.args.t.now c.loop-i.i in
    (omega (arith, count_at_le c.args.t.now c.loop-i.i), omega arith)
