-- `slave::serve_normal`: task, control words and reply. Assumes nothing.
use Rattle.std.proofs.Common.{◌≡◌, sym, ◌∙◌, arith}
use Rattle.setup.specs.SetupRules.{area_count}
use Rattle.setup.proofs.SetupLaws.{ok_configured, node_own}
use Rattle.opening.proofs.AnswersLaws.{passed_opened}
use Rattle.opening.proofs.SumsLaws.{lent_right}
use Rattle.slave.specs.Perform.{plan_at}
use Rattle.slave.proofs.CaseLaws.{left_as, normal_replied, reply_sent}
use Rattle.slave.proofs.PerformLaws.{plan_fits}
use Rattle.slave.proofs.serve_normal.Goals as goal
use Rattle.slave.proofs.serve_normal.Goals.{After-plan_area-plan}

-- what the telegram asks
planned : (c : After-plan_area-plan) → c.plan_area-plan.result ≡ plan_at (area_count c.args.drive.setup c.args.n) c.args.drive.table.now c.args.received.now
planned c = rw (← c.area_count-count.ensures) c.plan_area-plan.ensures

pub plan_area-plan-requires : goal.plan_area-plan-requires
plan_area-plan-requires c =
    let o = passed_opened _ c.requires in
    (o.short, omega (arith, o.count), lent_right c.args.drive.table.now _ o.list_right)

pub do_deed-area-requires : goal.do_deed-area-requires
do_deed-area-requires c =
    let a = c.args in
    rw (planned (goal.at.do_deed-area-requires c).After-plan_area-plan)
    (plan_fits (area_count a.drive.setup a.n) a.drive.table.now _ (omega (arith, (passed_opened _ c.requires).count)) a.received.now)

pub returns : goal.returns
returns c =
    let a = c.args in
    let o = passed_opened _ c.requires in
    let done = rw (planned (goal.at.returns c).After-plan_area-plan) at c.do_deed-area.ensures in
    let wrote = rw c.area_count-count.ensures at c.write_normal.ensures in
    let m = reply_sent a.drive.setup a.n c.do_deed-area.result a.status a.reply.now (ok_configured a.drive.setup o.setup_good) o.buffer in
    left_as (normal_replied _ _ _ (node_own a.drive.setup a.node c.if-node-drive.false) (sym c.is_other_length.ensures ∙ c.if-is_other_length.false))
    (rw (← done.area_is)
    (record {
      answers = rw (c.unwrap_or-length.ensures, wrote.0, m.0, c.take_control-next.ensures);
      memory_is = done.memory_is;
      reply_is = wrote.1 ∙ m.1;
    }))
