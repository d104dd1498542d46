-- `hex_lines::read_bytes`: the bytes read are those of the line, as many as the buffer has room for. Assumes nothing.
use Rattle.std.proofs.Common.{arith}
use Rattle.std.proofs.lemmas.Grind.{common_steps}
use Rattle.hex_lines.proofs.HexLaws.{bytes_end, bytes_text, bytes_more, all_counted, all_there, one_read}
use Rattle.hex_lines.proofs.read_bytes.Goals as goal

pub returns-in_default-clause-value : goal.returns-in_default-clause-value
returns-in_default-clause-value c = all_counted _ _ _ _ _ c.loop-n.invariant.joined (bytes_end _ c.in_default.len_below) (omega arith) (omega arith)

pub returns-in_default-clause-out_after : goal.returns-in_default-clause-out_after
returns-in_default-clause-out_after c = all_there _ _ _ _ _ c.loop-n.invariant.joined (bytes_end _ c.in_default.len_below) (omega arith) (omega arith) c.loop-n.invariant.behind

pub returns-then-high-eq35-clause-value : goal.returns-then-high-eq35-clause-value
returns-then-high-eq35-clause-value c = all_counted _ _ _ _ _ c.loop-n.invariant.joined (bytes_text _ c.if-high-eq35.true) (omega arith) (omega arith)

pub returns-then-high-eq35-clause-out_after : goal.returns-then-high-eq35-clause-out_after
returns-then-high-eq35-clause-out_after c = all_there _ _ _ _ _ c.loop-n.invariant.joined (bytes_text _ c.if-high-eq35.true) (omega arith) (omega arith) c.loop-n.invariant.behind

pub loop-n-preserved : goal.loop-n-preserved
loop-n-preserved c = record {
  joined = one_read _ _ _ _ _ _ c.loop-n.invariant.joined (omega arith) (rw (c.min.ensures, c.byte.ensures) (bytes_more _ c.in-len2-up.len_at_least c.if-high-eq35.false));
  behind = grind (arith, common_steps);
}
