-- `opening::check_record` meets its contract. Assumes nothing.
use Rattle.std.proofs.Common.{◌≡◌, ◌∙◌, arith}
use Rattle.entry.proofs.CountLaws.{count_none, count_some}
use Rattle.opening.proofs.RecordLaws.{low_bits, plain_limits, fine_run}
use Rattle.opening.proofs.check_record.Goals as goal

pub returns-then-raw-eq0 : goal.returns-then-raw-eq0
returns-then-raw-eq0 c =
    let e = c.entry_of-e.result in
    let low = low_bits c.args.raw e c.entry_of-e.ensures in
    let none : e.elements ≡ 0 = omega arith in
    let clear : e.spare ≡ 0 = omega arith in
    let fine = fine_run e c.args.values.now c.args.place 1 _ (count_none e none) (plain_limits e (omega arith) clear) c.value_holds.ensures in
    c.then_some.ensures ∙ rw (fine, ← c.entry_of-e.ensures, count_none e none)

-- spare bits are clear and not all fourteen: an array
pub run_holds-requires : goal.run_holds-requires
run_holds-requires c =
    let low = low_bits c.args.raw c.entry_of-e.result c.entry_of-e.ensures in
    (omega arith, omega arith, omega arith)

pub returns : goal.returns
returns c =
    let e = c.entry_of-e.result in
    let low = low_bits c.args.raw e c.entry_of-e.ensures in
    let some = λ (z : e.elements ≡ 0). c.if-raw-eq0.false (omega arith) in
    let fine = fine_run e c.args.values.now c.args.place _ _ (count_some e some) (plain_limits e c.if-e-gt254.false c.if-e-ne0.false) c.run_holds.ensures in
    c.then_some-2.ensures ∙ rw (fine, ← c.entry_of-e.ensures, count_some e some)
