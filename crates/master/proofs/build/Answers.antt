-- `master::build` meets its contract: the tests decide the build. Assumes nothing.
use Rattle.std.proofs.lemmas.Result.{err_from_is_err_and}
use Rattle.master.proofs.BuildLaws.{Tested, by_tests, tested_admitted, builds_sent, builds_none}
use Rattle.master.proofs.build.Goals as goal
use Rattle.master.proofs.build.Goals.{After-admit}

tested : (c : After-admit) → (let a = c.args in Tested a.setup a.request a.net.now a.out.now c.admit.result)
tested c = by_tests c.can_express-askable.ensures c.admit.ensures

pub returns-in_err-admit : goal.returns-in_err-admit
returns-in_err-admit c =
    let p = err_from_is_err_and c.from_residual.result c.from_residual.ensures.1 in
    rw (p.1, p.2) (builds_none (tested (goal.at.returns-in_err-admit c).After-admit) c.in_err-admit.was)

pub write-requires : goal.write-requires
write-requires c =
    let b = tested_admitted (tested (goal.at.write-requires c).After-admit) c.in_ok-admit.was in
    (b.setup_good, b.asked, b.enough)

pub returns : goal.returns
returns c = builds_sent (tested (goal.at.returns c).After-admit) c.in_ok-admit.was c.write.ensures
