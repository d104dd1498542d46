-- `receiver::U8Item::skip` meets its contract. Assumes nothing.
use Rattle.std.proofs.Common.{◌-◌, length, arith}
use Rattle.std.proofs.lemmas.List.{map-id}
use Rattle.receiver.proofs.RunLaws.{skip_all}
use Rattle.receiver.proofs.U8Item.skip.Goals as goal

pub returns-clause-same_call : goal.returns-clause-same_call
returns-clause-same_call c = λ page.
    let a = c.args in
    rw map-id (skip_all (length a.items.now - a._from) a._from a.items.now page (omega arith) (λ i. (c.type_inv.items i).fits))
