-- `receiver::U16Item::fill`: the call from `from` on is the call from j places further on.
use Rattle.std.proofs.Common.{◌≡◌, ◌+◌, map}
use Rattle.words.specs.Words.{byte_at}
use Rattle.receiver.specs.Receive.{call_from}
use Rattle.receiver.proofs.U16Item.fill.Given as goal

abbrev pub invariant-loop-j : goal.invariant-loop-j
invariant-loop-j l = record {
  lge : byte_at l.page 1 ≡ byte_at l.fn.page 1;
  same : call_from l.from l.state (map (λ x. x) l.items) l.fn.page ≡ call_from (l.from + l.j) (l.state + l.j) (map (λ x. x) l.items) l.page;
}
