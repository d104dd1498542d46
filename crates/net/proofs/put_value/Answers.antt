-- `net::put_value` meets its contract. Assumes nothing.
use Rattle.std.proofs.Common.{◌≡◌, refl, sym, [], ◌∷◌, ◌/◌, ◌%◌, arith}
use lib.Bits.{xor_zero_r}
use Rattle.bcc.specs.Bcc.{xor_all}
use Rattle.net.proofs.NetLaws.{put_more}
use Rattle.net.proofs.put_value.Goals as goal

pub returns-then-count-eq0 : goal.returns-then-count-eq0
unfolding xor_all
returns-then-count-eq0 c = rw c.if-count-eq0.true (refl, refl)

pub returns-then-count-eq1 : goal.returns-then-count-eq1
unfolding xor_all
returns-then-count-eq1 c = rw c.if-count-eq1.true (sym (xor_zero_r _), c.put_word.ensures)

pub returns : goal.returns
unfolding xor_all
returns c =
    let a = c.args in
    let two : a.count ≡ 2 = omega arith in
    let high : a.value / 65536 % 65536 ≡ a.value / 65536 = omega arith in
    rw (two, high) (
      rw xor_zero_r,
      put_more a.out.now a.at (a.value / 65536 ∷ []) (a.value % 65536 ∷ []) c.put_word-2.ensures c.put_word-3.ensures,
    )
