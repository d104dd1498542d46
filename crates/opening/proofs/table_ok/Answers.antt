-- `opening::table_ok` meets its contract. Assumes nothing.
use Rattle.std.proofs.Common.{sym, arith}
use Rattle.limits.proofs.LimitsLaws.{ok_ruled}
use Rattle.opening.proofs.table_ok.Goals as goal

pub overflow_add-least : goal.overflow_add-least
overflow_add-least c =
    let f = ok_ruled _ (sym c.if-not-entry_ok.ensures) in
    omega arith
