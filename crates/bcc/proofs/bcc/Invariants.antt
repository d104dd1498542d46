-- `bcc::bcc`: the bytes of the double word make the XOR of i * 4 bytes of both halves.
use Rattle.std.proofs.Common.{◌*◌, ◌≡◌}
use Rattle.bcc.proofs.BccLaws.{folded, halves}
use Rattle.bcc.proofs.bcc.Given as goal

abbrev pub invariant-loop-i : goal.invariant-loop-i
invariant-loop-i l = folded l.sum ≡ halves l.bytes (l.half * 4) (l.i * 4)
