-- A word's product fits 32 bits, and the code's division of it is the definition's. Assumes nothing.
use Prim.Native.Nat.{ℕ, zero, suc, ◌*◌, ◌^◌, ◌≤◌}
use mathlib.Core.Path.{◌≡◌, refl, ap, ◌∙◌}
use mathlib.Core.Bool.{Bool, true, false}
use native.Mathlib.Nat.{mul_assoc, mul_comm, mul-pos, le_trans, mul-le-mul_left, mul-le-mul_right}
use native.Mathlib.Omega.{arith}
use lib.Dec.{lit<}
use lib.IntN.{ℤ, pos, negsuc, ◌*ℤ◌, nat_abs, neg_ℤ}
use lib.Signed.{mag}
use lib.Ieee.{Float, fin, nan, inf, binary64, up, down, round, div, of_int}
use lib.Ieee.Fits.{down_pos}
use lib.Ieee.Exact.{HasValue}
use lib.Ieee.Back.{round_whole}
use lib.Ieee.Scale.{round_same}
use mir.Syntax.{w32}
use mir.Val.{SFits, to_z, of_z}
use mir.ValLaws.{to_z_pos, to_z-of_z}
use Rattle.signs.specs.Signs.{signed_of}
use Rattle.signs.proofs.SignsLaws.{word_small}
use Rattle.figure.specs.Figures.{product_of, is_minus, over16384}

-- ---- the product
pub neg_abs : (n : ℕ) → nat_abs (neg_ℤ (pos n)) ≡ n
neg_abs zero = refl
neg_abs (suc n) = refl

times_abs : (z : ℤ) (by : ℕ) → nat_abs (z *ℤ pos by) ≡ nat_abs z * by
times_abs (pos n) by = refl
times_abs (negsuc n) by = neg_abs (suc n * by)

mag_abs : (z : ℤ) → mag z ≤ nat_abs z
mag_abs (pos n) = omega arith
mag_abs (negsuc n) = omega arith

-- -32768 times 650 is the largest in size
pub product_small : (w by : ℕ) → by ≤ 650 → nat_abs (product_of w by) ≤ 21299200
product_small w by h =
    rw (times_abs _ by) (le_trans (mul-le-mul_right by (word_small w)) (mul-le-mul_left 32768 h))

-- ---- the double
same : (s : Bool) (m : ℕ) (e : ℤ) (n : ℕ) → m * up e * 1 ≡ n * down e → round binary64 s (m * up e * 1) (16384 * down e) ≡ round binary64 s n 16384
same s m e n v =
    round_same binary64 s (m * up e * 1) (16384 * down e) n 16384 (mul-pos (lit< tt) (down_pos e)) (lit< tt)
    (ap (λ (x : ℕ). x * 16384) v ∙ mul_assoc n (down e) 16384 ∙ ap (λ (x : ℕ). n * x) (mul_comm (down e) 16384))

div_is : (s : Bool) (n : ℕ) (x : Float) → HasValue x s n 1 → div binary64 x (fin false 1 (pos 14)) ≡ round binary64 s n 16384
unfolding div
div_is s n (fin true m e) v = same true m e n v.1 ∙ ap (λ (b : Bool). round binary64 b n 16384) v.0
div_is s n (fin false m e) v = same false m e n v.1 ∙ ap (λ (b : Bool). round binary64 b n 16384) v.0
div_is s n nan v = elim v [ ]
div_is s n (inf _) v = elim v [ ]

pub whole_is : (z : ℤ) → of_int binary64 z ≡ round binary64 (is_minus z) (nat_abs z) 1
unfolding of_int
whole_is (pos n) = refl
whole_is (negsuc n) = refl

over_is : (z : ℤ) → nat_abs z ≤ 2 ^ 53 → div binary64 (of_int binary64 z) (fin false 1 (pos 14)) ≡ over16384 z
unfolding over16384
over_is z h = rw (whole_is z) (div_is (is_minus z) (nat_abs z) (round binary64 (is_minus z) (nat_abs z) 1) (round_whole binary64 (is_minus z) (nat_abs z) h))

-- ---- as the code has both: its numbers stand in 32 bits
module _ (w by : ℕ) (few : by ≤ 650) where
  word_fits : SFits w32 (signed_of false w)
  word_fits = record { sfits = omega (arith, mag_abs (signed_of false w), word_small w) }

  pub product_is : to_z w32 (of_z w32 (signed_of false w)) *ℤ to_z w32 by ≡ product_of w by
  product_is = rw (to_z-of_z w32 (signed_of false w) word_fits, to_z_pos w32 by (omega arith))

  pub product_fits : SFits w32 (product_of w by)
  product_fits = record { sfits = omega (arith, mag_abs (product_of w by), product_small w by few) }

  pub product_over : div binary64 (of_int binary64 (to_z w32 (of_z w32 (product_of w by)))) (fin false 1 (pos 14)) ≡ over16384 (product_of w by)
  product_over = rw (to_z-of_z w32 (product_of w by) product_fits) (over_is (product_of w by) (omega (arith, product_small w by few)))
