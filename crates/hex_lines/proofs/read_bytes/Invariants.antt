-- `hex_lines::read_bytes`: the bytes so far and those of the rest are the line's, and what is behind them is as it was.
use Rattle.std.proofs.Common.{◌≡◌, ◌++◌, take, drop}
use Rattle.hex_lines.specs.HexLines.{bytes_of}
use Rattle.hex_lines.proofs.read_bytes.Given as goal

abbrev pub invariant-loop-n : goal.invariant-loop-n
invariant-loop-n l = record { joined : bytes_of l.line ≡ take l.n l.out ++ bytes_of l.rest; behind : drop l.n l.out ≡ drop l.n l.fn.out }
