-- `receiver::run_bytes` meets its contract. Assumes nothing.
use Rattle.std.proofs.Common.{length, ◌≡◌, ◌∙◌, arith}
use Rattle.receiver.proofs.RunLaws.{as_step, leaves, call_on, call_ends, call_waits}
use Rattle.receiver.proofs.run_bytes.Goals as goal

pub returns-then-moved-ne0 : goal.returns-then-moved-ne0
returns-then-moved-ne0 c =
    let did = c.step-moved.ensures in
    rw c.end.ensures
    (leaves (c.loop-i.invariant ∙ call_ends _ _ c.args.bytes.now _ (omega arith) _ (as_step _ _ _ _ _ did.value did.page_after) c.if-moved-ne0.true))

pub loop-i-preserved : goal.loop-i-preserved
loop-i-preserved c =
    let did = c.step-moved.ensures in
    c.loop-i.invariant ∙ call_on _ _ c.args.bytes.now _ (omega arith) _ (as_step _ _ _ _ _ did.value did.page_after) c.if-moved-ne0.false

pub returns : goal.returns
returns c =
    let all : c.loop-i.i ≡ length c.args.bytes.now = omega arith in
    rw (c.end-2.ensures, ← all) (leaves (c.loop-i.invariant ∙ call_waits _ _ c.args.bytes.now _ (omega arith)))
