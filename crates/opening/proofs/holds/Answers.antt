-- `opening::holds` meets its contract. Assumes nothing.
use borrow.Author.Tests.{le-leb, not-true}
use Rattle.limits.proofs.FitLaws.{between_shown}
use Rattle.opening.proofs.holds.Goals as goal

pub returns-then-e-v : goal.returns-then-e-v
returns-then-e-v c = rw (le-leb _ _ c.if-e-v.true) at (between_shown c.args.e c.args.v c.if-e.false (not-true _ c.if-not-e.true) c.if-e-gt65535.false)
