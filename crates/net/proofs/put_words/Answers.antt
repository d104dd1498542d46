-- `net::put_words` meets its contract: word after word. Assumes nothing.
use Rattle.std.proofs.Common.{◌≡◌, refl, sym, [], ◌∷◌, arith}
use lib.Bits.{xor_zero_r}
use Rattle.bcc.specs.Bcc.{xor_all}
use Rattle.net.proofs.NetLaws.{put_more}
use Rattle.net.proofs.put_words.Goals as goal

pub returns-then-count-eq0 : goal.returns-then-count-eq0
unfolding xor_all
returns-then-count-eq0 c = rw c.if-count-eq0.true (refl, refl)

pub returns-then-count-eq1 : goal.returns-then-count-eq1
unfolding xor_all
returns-then-count-eq1 c = rw c.if-count-eq1.true (sym (xor_zero_r _), c.put_word.ensures)

pub returns-then-count-eq2 : goal.returns-then-count-eq2
unfolding xor_all
returns-then-count-eq2 c =
    let w = c.args.w in
    let two = put_more c.args.out.now c.args.at (w.w1 ∷ []) (w.w2 ∷ []) c.put_word.ensures c.put_word-2.ensures in
    rw c.if-count-eq2.true (rw xor_zero_r, two)

pub returns-then-count-eq3 : goal.returns-then-count-eq3
unfolding xor_all
returns-then-count-eq3 c =
    let w = c.args.w in
    let two = put_more c.args.out.now c.args.at (w.w1 ∷ []) (w.w2 ∷ []) c.put_word.ensures c.put_word-2.ensures in
    let three = put_more c.args.out.now c.args.at (w.w1 ∷ w.w2 ∷ []) (w.w3 ∷ []) two c.put_word-3.ensures in
    rw c.if-count-eq3.true (rw xor_zero_r, three)

pub returns : goal.returns
unfolding xor_all
returns c =
    let w = c.args.w in
    let all : c.args.count ≡ 4 = omega arith in
    let two = put_more c.args.out.now c.args.at (w.w1 ∷ []) (w.w2 ∷ []) c.put_word.ensures c.put_word-2.ensures in
    let three = put_more c.args.out.now c.args.at (w.w1 ∷ w.w2 ∷ []) (w.w3 ∷ []) two c.put_word-3.ensures in
    rw all (rw xor_zero_r, put_more c.args.out.now c.args.at (w.w1 ∷ w.w2 ∷ w.w3 ∷ []) (w.w4 ∷ []) three c.put_word-4.ensures)
