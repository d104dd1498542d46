-- `opening::Drive::open` meets its contract. Assumes nothing.
use Rattle.std.proofs.Common.{sym}
use Rattle.std.proofs.lemmas.Result.{err_from_is_err_and}
use Rattle.opening.proofs.AnswersLaws.{open_content}
use Rattle.opening.proofs.Drive.open.Goals as goal

pub returns-in_err-check_content : goal.returns-in_err-check_content
returns-in_err-check_content c =
    let p = err_from_is_err_and c.from_residual.result c.from_residual.ensures.1 in
    rw (p.1, p.2) (sym (open_content _ _ (sym c.if-not-setup_ok.ensures) (sym c.in_err-check_content.ensures)))
