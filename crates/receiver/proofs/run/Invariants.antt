-- `receiver::run`: the call from `from` on is the call from place i of the items on.
use Rattle.std.proofs.Common.{length, map, ◌-◌, ◌≡◌, ◌≤◌}
use Rattle.receiver.specs.Receive.{call_from}
use Rattle.receiver.proofs.run.Given as goal

abbrev pub invariant-loop-i : goal.invariant-loop-i
invariant-loop-i g l =
    let xs = map g.I.Item.number l.items in
    record {
      within : l.i ≤ length l.items;
      same : call_from l.from l.begun xs l.fn.page ≡ call_from l.i l.state xs l.page;
    }

abbrev pub decreases-loop-i : goal.decreases-loop-i
decreases-loop-i g l = length l.items - l.i
