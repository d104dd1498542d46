-- `opening::record_holds` meets its contract. Assumes nothing.
use Rattle.std.proofs.Common.{◌≡◌, ap, arith}
use Rattle.entry.specs.Fields.{count_of}
use Rattle.entry.proofs.CountLaws.{count_none, count_le, count_ge}
use Rattle.opening.proofs.RecordLaws.{low_bits, plain_limits, fine_run}
use Rattle.opening.proofs.record_holds.Goals as goal

pub returns-then-raw-eq0 : goal.returns-then-raw-eq0
returns-then-raw-eq0 c =
    let e = c.entry_of-e.result in
    let low = low_bits c.args.raw e c.entry_of-e.ensures in
    let none : e.elements ≡ 0 = omega arith in
    let clear : e.spare ≡ 0 = omega arith in
    rw (← c.entry_of-e.ensures) (fine_run e c.args.values.now c.args.place 1 _ (count_none e none) (plain_limits e (omega arith) clear) c.value_holds.ensures)

pub run_holds-requires : goal.run_holds-requires
run_holds-requires c =
    let raw = c.args.raw in
    let least = count_ge c.entry_of-e.result in
    let counted = ap count_of c.entry_of-e.ensures in
    let most = count_le raw.head raw.minimum raw.maximum in
    (omega arith, omega arith, omega arith)
