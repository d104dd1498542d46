-- `request::fits_task` meets its contract: a value fits only what is a task. Assumes nothing.
use Rattle.std.proofs.Common.{sym, ◌∙◌}
use mathlib.Core.Bool.{and-true}
use borrow.Author.Tests.{le-leb, ne_eqb}
use Rattle.request.specs.Request.{task_known, task_fits}
use Rattle.request.proofs.RequestLaws.{known_fits}
use Rattle.request.proofs.fits_task.Goals as goal

pub returns : goal.returns
unfolding task_fits
returns c =
    let a = c.args in
    c.fits_value.ensures
    ∙ sym (rw (ne_eqb _ _ c.if-id-eq0.false, ne_eqb _ _ c.if-pkw-eq0.false, le-leb _ _ c.if-number-gt31999.false, le-leb _ _ c.if-index-gt254.false, and-true (task_known a.id), and-true (task_known a.id), known_fits a.id a.pkw a.value, ← c.task_of-task.ensures))
