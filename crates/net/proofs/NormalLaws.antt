-- The telegram with an area of 0, 3 or 4 words: its length, and when it is written. Assumes nothing.
use mathlib.Core.Path.{◌≡◌, refl, sym, ap}
use mathlib.Core.Logic.{inl, inr}
use mathlib.Core.Bool.{Bool, true, false, not, ◌||◌, false≢true}
use mathlib.Core.List.{List}
use Prim.Native.Nat.{ℕ, ◌+◌, ◌*◌, ◌≤◌}
use native.Mathlib.Omega.{arith}
use borrow.Author.Tests.{le-ltb, ne_eqb, eqb-true, eqb-false, ltb-false, not-false}
use lib.Dec.{eqb, ltb}
use lib.ListN.{length}
use Rattle.std.specs.Prelude.{Some, None}
use Rattle.rows.proofs.RowsLaws.{row_passed}
use Rattle.words.specs.declared.Words.{Words}
use Rattle.area.specs.declared.Area.{Area}
use Rattle.area.specs.Net.{fixed_words, process_words, net_of}
use Rattle.area.proofs.WordLaws.{Sized, length_fixed, length_process}
use Rattle.net.specs.Telegram.{telegram_of, written}
use Rattle.net.specs.Normal.{is_area, writable, normal_of, normal_length}
use Rattle.net.proofs.SealLaws.{length_telegram}
use Rattle.net.proofs.NetLaws.{length_sent}

-- an area that can be written has 0, 3 or 4 words
pub area_sized : (n : ℕ) → is_area n ≡ true → Sized n × (n ≤ 4)
area_sized n e = go (eqb n 0) (eqb n 3) (eqb n 4) refl refl refl e
  where
    go : (a b c : Bool) → eqb n 0 ≡ a → eqb n 3 ≡ b → eqb n 4 ≡ c → (a || b || c) ≡ true → Sized n × (n ≤ 4)
    go true b c p q r h = (inl (eqb-true n 0 p), omega (arith, eqb-true n 0 p))
    go false true c p q r h = (inr (omega (arith, eqb-true n 3 q)), omega (arith, eqb-true n 3 q))
    go false false true p q r h = (inr (omega (arith, eqb-true n 4 r)), omega (arith, eqb-true n 4 r))
    go false false false p q r h = absurd (false≢true h)

pub sized_area : (n : ℕ) → Sized n → n ≤ 4 → is_area n ≡ true
sized_area n (inl e) four = rw e
sized_area n (inr h) four = go (eqb n 3) refl
  where
    go : (b : Bool) → eqb n 3 ≡ b → is_area n ≡ true
    go true e = rw (eqb-true n 3 e)
    go false e = let four_is : n ≡ 4 = omega (arith, eqb-false n 3 e) in rw four_is

module _ (a : Area) (n : ℕ) (w : Words) (pzd : ℕ) (few : pzd ≤ 4) (sized : Sized n) where
  pub length_normal : (adr : ℕ) → length (telegram_of adr (net_of (fixed_words n a) (process_words pzd w))) ≡ n * 2 + pzd * 2 + 4
  length_normal adr = omega (arith, length_sent adr (fixed_words n a) (process_words pzd w), length_fixed n a sized, length_process pzd w few)

  -- where the telegram can be sent, it is
  pub normal_sent : (out : List ℕ) (adr : ℕ) → 256 ≤ length out → 1 ≤ n + pzd → n ≤ 4
      → (normal_length out a n w pzd ≡ Some (length (telegram_of adr (net_of (fixed_words n a) (process_words pzd w))))) × (normal_of out adr a n w pzd ≡ written out (telegram_of adr (net_of (fixed_words n a) (process_words pzd w))))
  unfolding normal_of normal_length
  normal_sent out adr room some short =
      rw (sized_area n sized short, le-ltb 4 pzd few, ne_eqb (n + pzd) 0 (λ e. omega arith), le-ltb (length out) 256 room)
      (ap Some (sym (length_telegram adr (net_of (fixed_words n a) (process_words pzd w)))), refl)

-- where it cannot, the buffer is as it was
pub normal_unsent : (out : List ℕ) (adr : ℕ) (a : Area) (n : ℕ) (w : Words) (pzd : ℕ) → writable out n pzd ≡ false
    → (None ≡ normal_length out a n w pzd) × (out ≡ normal_of out adr a n w pzd)
unfolding normal_of normal_length
normal_unsent out adr a n w pzd e = rw e (refl, refl)

pub sized_some : (n : ℕ) → Sized n → (n ≡ 0 → ⊥) → 3 ≤ n
sized_some n (inl e) some = absurd (some e)
sized_some n (inr h) some = h

-- what can be written
pub record Writable (out : List ℕ) (n pzd : ℕ) : Type 0 where
  pub sized : Sized n
  pub short : n ≤ 4
  pub few : pzd ≤ 4
  pub some : 1 ≤ n + pzd
  pub room : 256 ≤ length out

pub can_write : (out : List ℕ) (n pzd : ℕ) → writable out n pzd ≡ true → Writable out n pzd
can_write out n pzd e =
    let p1 = row_passed (λ b. b) (not (is_area n)) false _ refl e in
    let p2 = row_passed (λ b. b) (ltb 4 pzd) false _ refl p1.1 in
    let p3 = row_passed (λ b. b) (eqb (n + pzd) 0) false _ refl p2.1 in
    let p4 = row_passed (λ b. b) (ltb (length out) 256) false _ refl p3.1 in
    let area = area_sized n (not-false _ p1.0) in
    record {
      sized = area.0;
      short = area.1;
      few = ltb-false 4 pzd p2.0;
      some = omega (arith, eqb-false (n + pzd) 0 p3.0);
      room = ltb-false (length out) 256 p4.0;
    }
