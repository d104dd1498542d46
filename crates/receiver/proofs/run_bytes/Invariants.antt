-- `receiver::run_bytes`: the call from `from` on is the call from place i of the bytes on.
use Rattle.std.proofs.Common.{◌≡◌}
use Rattle.receiver.specs.Receive.{call_from}
use Rattle.receiver.proofs.run_bytes.Given as goal

abbrev pub invariant-loop-i : goal.invariant-loop-i
invariant-loop-i l = call_from l.from l.begun l.bytes l.fn.page ≡ call_from l.i l.state l.bytes l.page
