-- `opening::run_holds` meets its contract. Assumes nothing.
use Rattle.std.proofs.Common.{Bool, ◌&&◌, ◌+◌, length, refl, ap, ◌∙◌, arith}
use borrow.Author.Tests.{le-leb}
use Rattle.limits.specs.Limits.{limits_ok}
use Rattle.opening.specs.Rules.{run_ok}
use Rattle.opening.proofs.RecordLaws.{run_on, run_end, value_shows, run_all}
use Rattle.opening.proofs.run_holds.Goals as goal

pub loop-i-preserved : goal.loop-i-preserved
loop-i-preserved c =
    let a = c.args in
    record {
      in_range = omega arith;
      left = c.loop-i.invariant.left ∙ run_on a.e a.values.now a.n a.place c.loop-i.i c.loop-i.all _ _ c.loop-i-test.true c.holds-all.ensures refl;
      shown = λ h. value_shows c.loop-i.all (limits_ok a.e) _ _ _ c.holds-all.ensures refl;
    }

pub returns : goal.returns
returns c =
    let a = c.args in
    let all = c.loop-i.all in
    let end = run_end a.e a.values.now a.n a.place c.loop-i.i c.loop-i-test.false in
    let left = c.loop-i.invariant.left ∙ ap (λ (b : Bool). all && (limits_ok a.e && b)) end in
    run_all (limits_ok a.e) _ (run_ok a.e a.values.now a.n a.place) all (le-leb (a.place + a.n) (length a.values.now) c.if-values-place.false) left (c.loop-i.invariant.shown (omega arith))
