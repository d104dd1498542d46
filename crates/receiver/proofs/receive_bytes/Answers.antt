-- `receiver::receive_bytes` meets its contract. Assumes nothing.
use Rattle.std.proofs.Common.{length, ◌∙◌, arith}
use Rattle.receiver.proofs.RunLaws.{single, as_step, leaves, settled_leaves, skip_all, call_waits}
use Rattle.receiver.proofs.receive_bytes.Goals as goal

pub returns-then-state-eq0 : goal.returns-then-state-eq0
returns-then-state-eq0 c =
    let a = c.args in
    settled_leaves a.receiver.state a.bytes.now a.page.now c.settle-state.ensures
    (rw (c.end.ensures, c.if-state-eq0.true) (leaves (skip_all (length a.bytes.now) 0 a.bytes.now a.page.now (omega arith) (λ i. (c.type_inv.bytes i).fits) ∙ call_waits _ _ a.bytes.now _ (omega arith))))

pub returns-then-bytes-eq1 : goal.returns-then-bytes-eq1
returns-then-bytes-eq1 c =
    let a = c.args in
    let did = c.step-moved.ensures in
    settled_leaves a.receiver.state a.bytes.now a.page.now c.settle-state.ensures
    (rw c.end-then-bytes-eq1.ensures (leaves (single _ a.bytes.now a.page.now _ c.if-bytes-eq1.true (as_step _ _ _ _ _ did.value did.page_after))))
