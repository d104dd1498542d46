-- `slave::execute`: there is room for a mirror. Assumes nothing.
use Rattle.std.proofs.Common.{refl, sym, arith}
use Rattle.address.proofs.DecodedLaws.{telegram_framed}
use Rattle.opening.proofs.AnswersLaws.{passed_opened}
use Rattle.slave.proofs.execute.Goals as goal

pub serve_mirror-requires : goal.serve_mirror-requires
serve_mirror-requires c =
    let e = sym (rw (c.check.ensures, c.in-Ok-Mirror.is, c.in-Ok-Mirror.field-0-is) at c.decode_found.ensures) in
    let f = telegram_framed c.args.received.now _ e refl in
    omega (arith, f.counted.count, f.counted.high, (passed_opened _ c.requires).buffer)
