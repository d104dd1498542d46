-- `net::write_normal` meets its contract: the areas are written one after the other, and the telegram is closed. Assumes nothing.
use Rattle.std.proofs.Common.{Some, sym, ap, ◌∙◌, ◌+◌, ◌*◌, arith}
use Rattle.area.specs.Net.{fixed_words, process_words}
use Rattle.area.proofs.WordLaws.{length_fixed, length_process}
use Rattle.net.proofs.NetLaws.{both_put}
use Rattle.net.proofs.NormalLaws.{can_write, sized_some, normal_sent, normal_unsent}
use Rattle.net.proofs.write_normal.Goals as goal

pub returns-then-not-is_writable : goal.returns-then-not-is_writable
returns-then-not-is_writable c =
    let a = c.args in
    normal_unsent a.out.now a.adr a.area a.n a.process a.pzd (sym c.is_writable.ensures ∙ c.if-not-is_writable.true)

pub put_area-first-requires : goal.put_area-first-requires
put_area-first-requires c =
    let k = can_write c.args.out.now c.args.n c.args.pzd (sym c.is_writable.ensures ∙ c.if-not-is_writable.false) in
    (k.short, sized_some c.args.n k.sized)

pub close-requires : goal.close-requires
close-requires c =
    let a = c.args in
    let k = can_write a.out.now a.n a.pzd (sym c.is_writable.ensures ∙ c.if-not-is_writable.false) in
    let first-long = length_fixed a.n a.area k.sized in
    let next-long = length_process a.pzd a.process k.few in
    -- both areas stand in the buffer
    let kept =
    both_put a.out.now a.adr (fixed_words a.n a.area) (process_words a.pzd a.process) (a.n * 2 + 3) (a.n * 2 + a.pzd * 2) k.room (omega arith) (omega arith) (omega arith)
    c.put_area-first.ensures c.put_words-second.ensures in
    (kept.room, omega arith, kept.mixed)

pub returns : goal.returns
returns c =
    let a = c.args in
    let k = can_write a.out.now a.n a.pzd (sym c.is_writable.ensures ∙ c.if-not-is_writable.false) in
    let first-long = length_fixed a.n a.area k.sized in
    let next-long = length_process a.pzd a.process k.few in
    let kept =
    both_put a.out.now a.adr (fixed_words a.n a.area) (process_words a.pzd a.process) (a.n * 2 + 3) (a.n * 2 + a.pzd * 2) k.room (omega arith) (omega arith) (omega arith)
    c.put_area-first.ensures c.put_words-second.ensures in
    let sent = normal_sent a.area a.n a.process a.pzd k.few k.sized a.out.now a.adr k.room k.some k.short in
    let closed = kept.closed c.close.ensures in
    (ap Some closed.0 ∙ sym sent.0, closed.1 ∙ sym sent.1)
