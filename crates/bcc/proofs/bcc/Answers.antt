-- `bcc::bcc` meets its contract: four more bytes of both halves a turn, and after the loop what they leave. Assumes nothing.
use Rattle.std.proofs.Common.{◌*◌, ◌/◌, length, sym, refl, inl, inr, ◌∙◌, arith}
use Rattle.bcc.proofs.BccLaws.{halves_none, halves_more, all_mixed}
use Rattle.bcc.proofs.bcc.Goals as goal
use Rattle.bcc.proofs.bcc.Goals.{then-n-ne0+then-n-eq1-3, then-n-eq1, else-n-eq1, then-n-eq1-2, else-n-eq1-2, then-n-ne0+else-n-eq1-3, else-n-ne0}

pub loop-i-init : goal.loop-i-init
loop-i-init c = sym (halves_none c.args.bytes.now (length c.args.bytes.now / 8 * 4))

pub loop-i-preserved : goal.loop-i-preserved
loop-i-preserved c =
    rw (c.four.ensures, c.four-in-loop-i.ensures)
    (halves_more c.args.bytes.now (λ j. (c.type_inv.bytes j).fits) c.loop-i.sum (length c.args.bytes.now / 8) c.loop-i.i (omega arith) (omega arith) c.loop-i.invariant)

pub returns : goal.returns
returns c =
    elim c.if-n-ne0.branch [
      | then-n-ne0+then-n-eq1-3 w ↦
          all_mixed c.args.bytes.now (λ j. (c.type_inv.bytes j).fits) c.loop-i.sum c.loop-i.i w.if-n-eq1.sum w.if-n-eq1-2.sum _ (omega arith) c.loop-i.invariant
          (elim w.if-n-eq1.branch [ then-n-eq1 v ↦ inl (v.if-n-eq1.true, v.sum-is ∙ rw v.four-sum.ensures) | else-n-eq1 v ↦ inr (v.if-n-eq1.false, v.sum-is) ])
          (elim w.if-n-eq1-2.branch [ then-n-eq1-2 v ↦ inl (v.if-n-eq1-2.true, v.sum-is ∙ rw v.join.ensures) | else-n-eq1-2 v ↦ inr (v.if-n-eq1-2.false, v.sum-is) ])
          (inl (w.if-n-eq1-3.true, w.sum-is))
      | then-n-ne0+else-n-eq1-3 w ↦
          all_mixed c.args.bytes.now (λ j. (c.type_inv.bytes j).fits) c.loop-i.sum c.loop-i.i w.if-n-eq1.sum w.if-n-eq1-2.sum _ (omega arith) c.loop-i.invariant
          (elim w.if-n-eq1.branch [ then-n-eq1 v ↦ inl (v.if-n-eq1.true, v.sum-is ∙ rw v.four-sum.ensures) | else-n-eq1 v ↦ inr (v.if-n-eq1.false, v.sum-is) ])
          (elim w.if-n-eq1-2.branch [ then-n-eq1-2 v ↦ inl (v.if-n-eq1-2.true, v.sum-is ∙ rw v.join.ensures) | else-n-eq1-2 v ↦ inr (v.if-n-eq1-2.false, v.sum-is) ])
          (inr (w.if-n-eq1-3.false, w.sum-is))
      | else-n-ne0 w ↦
          all_mixed c.args.bytes.now (λ j. (c.type_inv.bytes j).fits) c.loop-i.sum c.loop-i.i _ _ _ (omega arith) c.loop-i.invariant
          (inr (λ q. omega arith, refl)) (inr (λ q. omega arith, refl)) (inr (λ q. omega arith, w.sum-is))
    ]
