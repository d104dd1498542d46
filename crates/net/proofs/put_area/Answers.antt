-- `net::put_area` meets its contract. Assumes nothing.
use Rattle.std.proofs.Common.{◌≡◌, ℕ, refl, ap, [], ◌∷◌, ◌-◌, ◌≤◌, arith}
use mathlib.Core.List.{append-nil}
use lib.Bits.{bit_xor}
use Rattle.bcc.specs.Bcc.{xor_all}
use Rattle.area.specs.Net.{value_words}
use Rattle.area.proofs.WordLaws.{area_is}
use Rattle.net.proofs.NetLaws.{head_put}
use Rattle.net.proofs.put_area.Goals as goal

pub returns-then-n-eq0 : goal.returns-then-n-eq0
unfolding xor_all
returns-then-n-eq0 c =
    let none : c.args.n - 2 ≡ 0 = omega arith in
    rw none (refl, refl)

pub returns : goal.returns
unfolding xor_all
returns c =
    let a = c.args in
    -- an area that is there has three words or more
    let three : 3 ≤ a.n = c.requires.1 c.if-n-eq0.false in
    let words = value_words (a.n - 2) a.area.value in
    rw (area_is (a.n - 2) a.area.pke a.area.ind (a.area.value ∷ []) (omega arith), append-nil words) (
      ap (λ (x : ℕ). bit_xor a.area.pke (bit_xor a.area.ind x)) c.put_value-rest.ensures.0,
      head_put a.out.now a.area.pke a.area.ind words c.put_word.ensures c.put_word-2.ensures c.put_value-rest.ensures.1,
    )
