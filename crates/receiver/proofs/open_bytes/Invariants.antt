-- `receiver::open_bytes`: the whole call is the call from place i of the bytes on.
use Rattle.std.proofs.Common.{◌≡◌}
use Rattle.receiver.specs.Receive.{run_from, call_from}
use Rattle.receiver.proofs.open_bytes.Given as goal

abbrev pub invariant-loop-i : goal.invariant-loop-i
invariant-loop-i l = run_from 0 l.settled l.bytes l.fn.page ≡ call_from l.i l.state l.bytes l.page
