-- `receiver::open_bytes` meets its contract. Assumes nothing.
use Rattle.std.proofs.Common.{ap, ◌∙◌, arith}
use Rattle.step.specs.declared.Move.{Move}
use Rattle.step.proofs.StepLaws.{step_early}
use Rattle.receiver.proofs.RunLaws.{as_step, call_on}
use Rattle.receiver.proofs.open_bytes.Goals as goal

pub loop-i-preserved : goal.loop-i-preserved
loop-i-preserved c =
    let l = c.loop-i in
    let did = c.step-state.ensures in
    let early = step_early l.state _ l.page (omega arith) in
    l.invariant
    ∙ call_on _ _ c.args.bytes.now _ (omega arith) _ (as_step _ _ _ _ _ did.value did.page_after) (ap (λ (m : Move). m.length) did.value ∙ early)
