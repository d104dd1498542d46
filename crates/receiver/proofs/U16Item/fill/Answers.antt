-- `receiver::U16Item::fill` meets its contract. Assumes nothing.
use Rattle.std.proofs.Common.{◌+◌, ◌∙◌, arith}
use Rattle.std.proofs.Math.Seq.{get_or-set_other}
use Rattle.std.proofs.lemmas.List.{map-id}
use Rattle.step.specs.Step.{held_in}
use Rattle.receiver.proofs.RunLaws.{within, fill_more}
use Rattle.receiver.proofs.U16Item.fill.Goals as goal

pub loop-j-preserved : goal.loop-j-preserved
loop-j-preserved c =
    let a = c.args in
    let l = c.loop-j in
    let n = within a.due _ c.min-n.ensures in
    record {
      lge = get_or-set_other l.page (held_in a.state + l.j) 1 _ 0 (λ q. omega arith) ∙ l.invariant.lge;
      same = l.invariant.same ∙ rw map-id (fill_more a.state a.from l.j a.items.now l.page (omega arith) (omega arith) (omega arith) (omega arith) (omega arith) (omega arith));
    }
