-- `receiver::run` meets its contract. Assumes nothing.
use Rattle.std.proofs.Common.{◌∙◌, arith}
use Rattle.std.proofs.lemmas.List.{length-map}
use Rattle.receiver.proofs.RunLaws.{as_item, leaves, call_on, call_ends, call_waits}
use Rattle.receiver.proofs.run.Goals as goal

pub returns-then-items-i : goal.returns-then-items-i
returns-then-items-i g c =
    let n = length-map c.args.items.now g.I.Item.number in
    rw c.end.ensures (leaves (c.loop-i.invariant.same ∙ c.pass-passed.ensures.page_value ∙ call_waits _ _ _ _ (omega arith)))

pub returns-then-moved-ne0 : goal.returns-then-moved-ne0
returns-then-moved-ne0 g c =
    let n = length-map c.args.items.now g.I.Item.number in
    let did = c.step-moved.ensures in
    rw c.end-then-moved-ne0.ensures
    (leaves (c.loop-i.invariant.same ∙ c.pass-passed.ensures.page_value
    ∙ call_ends _ _ _ _ (omega arith) _ (as_item g.I.Item.number c.args.items.now _ _ _ _ _ _ (omega arith) c.index-items-i.is c.number.ensures did.value did.page_after) c.if-moved-ne0.true))

pub loop-i-preserved : goal.loop-i-preserved
loop-i-preserved g c =
    let n = length-map c.args.items.now g.I.Item.number in
    let did = c.step-moved.ensures in
    record {
      within = omega arith;
      same = c.loop-i.invariant.same
          ∙ c.pass-passed.ensures.page_value
          ∙ call_on _ _ _ _ (omega arith) _ (as_item g.I.Item.number c.args.items.now _ _ _ _ _ _ (omega arith) c.index-items-i.is c.number.ensures did.value did.page_after) c.if-moved-ne0.false;
    }

pub returns : goal.returns
returns g c =
    let n = length-map c.args.items.now g.I.Item.number in
    rw c.end-2.ensures (leaves (c.loop-i.invariant.same ∙ call_waits _ _ _ _ (omega arith)))
