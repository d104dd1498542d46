-- What a broadcast that is not void has, and what it leaves. Assumes nothing.
--     not_void_commands    both areas, the first word selected, bit 10 in its mask and in the word, a selector of three bits
--     runs_after           after it bit 10 of the first control word is 1
use mathlib.Core.Path.{◌≡◌, refl, ap, ◌∙◌}
use mathlib.Core.Bool.{true, false, not}
use Prim.Native.Nat.{ℕ, ◌/◌, ◌%◌, ◌<◌}
use native.Mathlib.Omega.{arith}
use borrow.Author.Tests.{eqb-true, eqb-false, not-false}
use lib.Dec.{eqb, lit<}
use Rattle.rows.specs.Bits.{bit}
use Rattle.rows.proofs.RowsLaws.{row_passed}
use Rattle.words.specs.declared.Words.{Words}
use Rattle.broadcast.specs.declared.Command.{Command}
use Rattle.broadcast.specs.Broadcast.{selects_first, is_void, control_after}
use Rattle.broadcast.proofs.MaskLaws.{merge_bit}

pub record Commands (c : Command) (pkw pzd first : ℕ) : Type 0 where
  pub areas : pkw ≡ 0 → ⊥
  pub process : pzd ≡ 0 → ⊥
  pub first_selected : selects_first c.selector ≡ true
  pub masked : bit 10 c.mask1 ≡ 1
  pub runs : bit 10 first ≡ 1
  pub selects : c.selector < 8

pub not_void_commands : (c : Command) (pkw pzd first : ℕ) → is_void c pkw pzd first ≡ false → Commands c pkw pzd first
unfolding is_void
not_void_commands c pkw pzd first e =
    let p1 = row_passed not (eqb pkw 0) true _ refl (ap not e) in
    let p2 = row_passed not (eqb pzd 0) true _ refl p1.1 in
    let p3 = row_passed not (not (selects_first c.selector)) true _ refl p2.1 in
    let p4 = row_passed not (not (eqb (bit 10 c.mask1) 1)) true _ refl p3.1 in
    let p5 = row_passed not (not (eqb (bit 10 first) 1)) true _ refl p4.1 in
    let p6 = row_passed not (not (eqb (c.selector % 2) 0)) true _ refl p5.1 in
    let p7 = row_passed not (not (eqb (c.selector / 8) 0)) true _ refl p6.1 in
    record {
      areas = eqb-false pkw 0 p1.0;
      process = eqb-false pzd 0 p2.0;
      first_selected = not-false _ p3.0;
      masked = eqb-true (bit 10 c.mask1) 1 (not-false _ p4.0);
      runs = eqb-true (bit 10 first) 1 (not-false _ p5.0);
      selects = omega (arith, eqb-true (c.selector / 8) 0 (not-false _ p7.0));
    }

pub runs_after : (c : Command) (pkw pzd : ℕ) (control p : Words) → is_void c pkw pzd p.w1 ≡ false → c.mask1 < 65536 → bit 10 (control_after c control p).w1 ≡ 1
unfolding control_after
runs_after c pkw pzd control p v m =
    let k = not_void_commands c pkw pzd p.w1 v in
    rw k.first_selected (merge_bit control.w1 p.w1 c.mask1 10 m (lit< tt) ∙ rw k.masked k.runs)
