-- Hertz and percent are exact in a double, and no other double is: one fact over the multiplier serves both. The words -32768, -1, 0
-- and 4000 by name. Assumes nothing.
use Prim.Native.Nat.{ℕ, zero, suc, ◌+◌, ◌-◌, ◌*◌, ◌/◌, ◌^◌, ◌≤◌, ◌<◌}
use mathlib.Core.Path.{◌≡◌, refl, sym, ap, subst, ◌∙◌}
use mathlib.Core.Bool.{Bool, true, false, cond}
use native.Mathlib.Nat.{mul_assoc, mul_comm, mul_right_comm, mul-one, one-mul, zero-mul, lt_irrefl, lt_of_lt_of_le}
use native.Mathlib.Omega.{arith}
use lib.Dec.{T, leb, lit<, lit≤}
use lib.Pow.{shl_lt}
use lib.IntN.{ℤ, pos, nat_abs, neg_ℤ}
use lib.Ieee.{Float, fin, inf, nan, binary64, up, down, size, round, of_int, fits, hid, top, of_bits, to_bits}
use lib.Ieee.Bits.{of_bits-to_bits}
use lib.Ieee.Exact.{HasValue, round_exact}
use lib.Ieee.Fits.{down_pos, round-fits}
use lib.Ieee.Nearest.{div_same}
use lib.Ieee.Scale.{round_same}
use borrow.Author.Tests.{leb-true}
use Rattle.rows.proofs.BoolLaws.{and_right}
use Rattle.std.specs.Prelude.{Ok, Err}
use Rattle.signs.specs.Signs.{signed_of}
use Rattle.figure.specs.Figures.{product_of, is_minus, over16384, reference_ok, figure_of}
use Rattle.figure.specs.declared.Unit.{Unit}
use Rattle.figure.specs.declared.Unit.TheVariants as U
use Rattle.figure.specs.declared.Figure.TheVariants as F
use Rattle.figure.specs.declared.FigureFault.TheVariants.{BadReference}
use Rattle.figure.proofs.ScaleLaws.{neg_abs, product_small, whole_is}
use Rattle.claims_figure.specs.Exact.{Times16384, Shows}

-- a whole number of up to 53 binary digits over 16384 is a double
over_exact : (z : ℤ) → nat_abs z < 2 ^ 53 → Times16384 (over16384 z) z
unfolding over16384
over_exact z h =
    let n = nat_abs z in
    round_exact binary64 (is_minus z) n 16384 n 1060 (lit< tt) h (lt_of_lt_of_le (shl_lt 53 1060 h) (lit≤ tt)) (sym (mul_assoc n (2 ^ 1060) 16384))

-- the one fact: a word times a multiplier of up to 650
pub scaled_exact : (w by : ℕ) → by ≤ 650 → Times16384 (over16384 (product_of w by)) (product_of w by)
scaled_exact w by h = over_exact (product_of w by) (omega (arith, product_small w by h))

-- ---- and no other double: the bits of a double follow from its sign and its value
bits_of : Bool → ℕ → ℕ
bits_of s n = let k = size n - 53 in cond s (top binary64) 0 + k * hid binary64 + n / 2 ^ k

bits_are : (x : Float) (s : Bool) (n : ℕ) → HasValue x s n 16384 → to_bits binary64 x ≡ bits_of s (n * 2 ^ 1074 / 16384)
unfolding to_bits bits_of
bits_are (fin t m e) s n v =
    let same : m * up e * 2 ^ 1074 / down e ≡ n * 2 ^ 1074 / 16384 =
    div_same (m * up e * 2 ^ 1074) (down e) (n * 2 ^ 1074) 16384 (down_pos e) (lit< tt)
    (mul_right_comm (m * up e) (2 ^ 1074) 16384 ∙ ap (λ (q : ℕ). q * 2 ^ 1074) v.1 ∙ mul_right_comm n (down e) (2 ^ 1074)) in
    ap (λ (b : Bool). bits_of b (m * up e * 2 ^ 1074 / down e)) v.0 ∙ ap (bits_of s) same
bits_are (inf _) s n v = elim v [ ]
bits_are nan s n v = elim v [ ]

pub scaled_only : (w by : ℕ) → by ≤ 650 → (x : Float) → T (fits binary64 x) → Times16384 x (product_of w by) → x ≡ over16384 (product_of w by)
unfolding over16384
scaled_only w by h x f v =
    let z = product_of w by in
    let y = round binary64 (is_minus z) (nat_abs z) 16384 in
    sym (of_bits-to_bits binary64 x f)
    ∙ ap (of_bits binary64) (bits_are x (is_minus z) (nat_abs z) v ∙ sym (bits_are y (is_minus z) (nat_abs z) (scaled_exact w by h)))
    ∙ of_bits-to_bits binary64 y (round-fits binary64 (is_minus z) (nat_abs z) 16384)

-- ---- so what is shown of every word, by every unit and reference
pub figure_shows : (unit : Unit) (w ref : ℕ) → Shows unit w ref (figure_of unit w ref)
unfolding figure_of
figure_shows U.Hertz w ref = go (reference_ok ref) refl
  where
    go : (ok : Bool) → reference_ok ref ≡ ok → Shows U.Hertz w ref (cond ok (Ok (F.Hertz (over16384 (product_of w ref)))) (Err BadReference))
    go true e = (e, scaled_exact w ref (leb-true ref 650 (and_right (leb 1 ref) (leb ref 650) e)))
    go false e = e
figure_shows U.Percent w ref = scaled_exact w 100 (lit≤ tt)
figure_shows U.Raw w ref = refl

-- ---- words by name, over the multiplier

neg_minus : (n : ℕ) → 0 < n → is_minus (neg_ℤ (pos n)) ≡ true
neg_minus zero h = absurd (lt_irrefl 0 h)
neg_minus (suc n) h = refl

-- a product that is 16384 times a whole number is shown as that number
whole_shown : (y z : ℤ) → is_minus z ≡ is_minus y → nat_abs z ≡ nat_abs y * 16384 → over16384 z ≡ of_int binary64 y
unfolding over16384
whole_shown y z s e = rw (whole_is y, s) (round_same binary64 (is_minus y) (nat_abs z) 16384 (nat_abs y) 1 (lit< tt) (lit< tt) (mul-one (nat_abs z) ∙ e))

-- -32768 is minus twice the multiplier
pub at_minus_32768 : (by : ℕ) → 1 ≤ by → over16384 (product_of 0x8000 by) ≡ of_int binary64 (neg_ℤ (pos (2 * by)))
unfolding signed_of
at_minus_32768 by some =
    whole_shown (neg_ℤ (pos (2 * by))) (neg_ℤ (pos (32768 * by)))
    (rw (neg_minus (32768 * by) (omega arith), neg_minus (2 * by) (omega arith)))
    (rw (neg_abs (32768 * by), neg_abs (2 * by)) (omega arith))

-- -1: times 16384 it is minus the multiplier
pub at_minus_1 : (by : ℕ) → by ≤ 650 → Times16384 (over16384 (product_of 0xFFFF by)) (neg_ℤ (pos by))
unfolding signed_of
at_minus_1 by h = subst (λ (n : ℕ). Times16384 (over16384 (product_of 0xFFFF by)) (neg_ℤ (pos n))) (one-mul by) (scaled_exact 0xFFFF by h)

-- 0 is positive zero
pub at_0 : (by : ℕ) → over16384 (product_of 0 by) ≡ fin false 0 (pos 0)
unfolding signed_of over16384 round
at_0 by = rw (zero-mul by)

-- 4000 is the multiplier itself: the reference, or 100 percent
pub at_4000 : (by : ℕ) → over16384 (product_of 0x4000 by) ≡ of_int binary64 (pos by)
unfolding signed_of
at_4000 by = whole_shown (pos by) (pos (16384 * by)) refl (mul_comm 16384 by)
