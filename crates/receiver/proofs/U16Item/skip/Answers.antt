-- `receiver::U16Item::skip` meets its contract. Assumes nothing.
use Rattle.std.proofs.Common.{◌∙◌, arith}
use Rattle.std.proofs.lemmas.List.{map-id}
use Rattle.receiver.proofs.RunLaws.{skip_more}
use Rattle.receiver.proofs.U16Item.skip.Goals as goal

pub loop-i-preserved : goal.loop-i-preserved
loop-i-preserved c = λ page. c.loop-i.invariant page ∙ rw map-id (skip_more c.loop-i.i c.args.items.now page (omega arith) (omega arith))
