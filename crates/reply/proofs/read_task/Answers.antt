-- `reply::read_task` meets its contract: the net bytes of a normal telegram end past their start. Assumes nothing.
use Rattle.std.proofs.Common.{refl, sym, ap, ◌∙◌, arith, Ok}
use Rattle.address.proofs.DecodedLaws.{telegram_framed, normal_bounds}
use Rattle.reply.proofs.read_task.Goals as goal

pub overflow_sub-net_end : goal.overflow_sub-net_end
overflow_sub-net_end c =
    let rx = c.args.received.now in
    let e = sym c.decode.ensures ∙ c.in_ok-node.was ∙ ap Ok c.in-Normal.is in
    let b = normal_bounds rx _ _ _ e in omega (arith, b.0, b.1, (telegram_framed rx _ e refl).counted.long)
