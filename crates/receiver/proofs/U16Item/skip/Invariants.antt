-- `receiver::U16Item::skip`: the call from `from` on is the call from i on.
use Rattle.std.proofs.Common.{◌≡◌, List, ℕ, map}
use Rattle.receiver.specs.Receive.{call_from}
use Rattle.receiver.proofs.U16Item.skip.Given as goal

abbrev pub invariant-loop-i : goal.invariant-loop-i
invariant-loop-i l = (page : List ℕ) → call_from l.from 0 (map (λ x. x) l.items) page ≡ call_from l.i 0 (map (λ x. x) l.items) page
