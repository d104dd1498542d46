-- `receiver::U8Item::fill` meets its contract. Assumes nothing.
use Rattle.std.proofs.Common.{◌+◌, sym, ap, ◌∙◌, arith}
use Rattle.std.proofs.lemmas.List.{map-id}
use Rattle.step.specs.Step.{held_in}
use Rattle.receiver.specs.Receive.{call_from}
use Rattle.receiver.proofs.RunLaws.{within, fill_all, part_filled}
use Rattle.receiver.proofs.U8Item.fill.Goals as goal

pub returns-clause-page_value : goal.returns-clause-page_value
returns-clause-page_value c =
    let a = c.args in
    let n = c.min-n.result in
    let w = within a.due _ c.min-n.ensures in
    rw map-id
    (fill_all n a.state a.from a.items.now a.page.now (omega arith) (omega arith) (λ i. (c.type_inv.items i).fits) (omega arith) (omega arith) (omega arith)
    ∙ ap (call_from (a.from + n) (a.state + n) a.items.now) (sym (part_filled n (held_in a.state) a.from a.items.now a.page.now (omega arith) (omega arith) c.put.ensures.out_after)))
