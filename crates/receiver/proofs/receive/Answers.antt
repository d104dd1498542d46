-- `receiver::receive` meets its contract. Assumes nothing.
use Rattle.receiver.proofs.RunLaws.{single, as_step, leaves, settled_leaves}
use Rattle.receiver.proofs.receive.Goals as goal

pub returns-then-items-eq1 : goal.returns-then-items-eq1
returns-then-items-eq1 c =
    let a = c.args in
    let did = c.step-moved.ensures in
    settled_leaves a.receiver.state a.items.now a.page.now c.settle-state.ensures
    (rw c.end.ensures (leaves (single _ a.items.now a.page.now _ c.if-items-eq1.true (as_step _ _ _ _ _ did.value did.page_after))))
