-- What a merge does to each bit: the mask's bits come from the word, the others from the old word. Assumes nothing.
use mathlib.Core.Path.{◌≡◌, refl, sym, ap, ◌∙◌}
use mathlib.Core.Bool.{Bool, true, false, cond}
use Prim.Native.Nat.{ℕ, zero, suc, ◌-◌, ◌/◌, ◌%◌, ◌^◌, ◌<◌}
use native.Mathlib.Omega.{arith}
use native.Mathlib.Numerals.{one-add}
use native.Mathlib.Nat.{pow-suc, le_of_suc-le-suc}
use lib.Bits.{bit_and, bit_or, or_shr, and_shr, or_mod, and_mod}
use lib.Pow.{shr-shr}
use lib.Dec.{eqb}
use Rattle.rows.specs.Bits.{bit}
use Rattle.broadcast.specs.Broadcast.{merge_of}

shift : (x k : ℕ) → x / 2 ^ suc k ≡ x / 2 / 2 ^ k
shift x k = sym (shr-shr x 1 k ∙ ap (λ (e : ℕ). x / 2 ^ e) (one-add k))

-- the bits of what is left of an all-ones number
flip_bit : (n k m : ℕ) → m < 2 ^ n → k < n → bit k (2 ^ n - 1 - m) ≡ 1 - bit k m
flip_bit zero k m h l = absurd (omega arith)
flip_bit (suc n) zero m h l = omega (arith, pow-suc 2 n)
flip_bit (suc n) (suc k) m h l =
    let e : (2 ^ suc n - 1 - m) / 2 ≡ 2 ^ n - 1 - m / 2 = omega (arith, pow-suc 2 n) in
    ap (λ (x : ℕ). x % 2) (shift (2 ^ suc n - 1 - m) k ∙ ap (λ (x : ℕ). x / 2 ^ k) e)
    ∙ flip_bit n k (m / 2) (omega (arith, pow-suc 2 n)) (le_of_suc-le-suc l)
    ∙ ap (λ (x : ℕ). 1 - x % 2) (sym (shift m k))

or_bit : (k a b : ℕ) → bit k (bit_or a b) ≡ bit_or (bit k a) (bit k b)
or_bit k a b = ap (λ (x : ℕ). x % 2) (or_shr a b k) ∙ or_mod (a / 2 ^ k) (b / 2 ^ k) 1

and_bit : (k a b : ℕ) → bit k (bit_and a b) ≡ bit_and (bit k a) (bit k b)
and_bit k a b = ap (λ (x : ℕ). x % 2) (and_shr a b k) ∙ and_mod (a / 2 ^ k) (b / 2 ^ k) 1

-- one bit
merge_one : (o w m : ℕ) → o < 2 → w < 2 → m < 2 → bit_or (bit_and o (1 - m)) (bit_and w m) ≡ cond (eqb m 1) w o
merge_one zero zero zero a b c = refl
merge_one zero zero (suc zero) a b c = refl
merge_one zero (suc zero) zero a b c = refl
merge_one zero (suc zero) (suc zero) a b c = refl
merge_one (suc zero) zero zero a b c = refl
merge_one (suc zero) zero (suc zero) a b c = refl
merge_one (suc zero) (suc zero) zero a b c = refl
merge_one (suc zero) (suc zero) (suc zero) a b c = refl
merge_one (suc (suc o)) w m a b c = absurd (omega arith)
merge_one zero (suc (suc w)) m a b c = absurd (omega arith)
merge_one (suc zero) (suc (suc w)) m a b c = absurd (omega arith)
merge_one zero zero (suc (suc m)) a b c = absurd (omega arith)
merge_one zero (suc zero) (suc (suc m)) a b c = absurd (omega arith)
merge_one (suc zero) zero (suc (suc m)) a b c = absurd (omega arith)
merge_one (suc zero) (suc zero) (suc (suc m)) a b c = absurd (omega arith)

-- a selected word takes the masked bits and keeps the rest
pub merge_bit : (old word mask k : ℕ) → mask < 65536 → k < 16 → bit k (merge_of old word mask) ≡ cond (eqb (bit k mask) 1) (bit k word) (bit k old)
unfolding merge_of
merge_bit old word mask k small in-word =
    or_bit k (bit_and old (65535 - mask)) (bit_and word mask)
    ∙ rw (and_bit k old (65535 - mask), and_bit k word mask, flip_bit 16 k mask small in-word)
    (merge_one (bit k old) (bit k word) (bit k mask) (omega arith) (omega arith) (omega arith))

-- merged twice is merged once, bit by bit
pub merge_twice : (old word mask k : ℕ) → mask < 65536 → k < 16 → bit k (merge_of (merge_of old word mask) word mask) ≡ bit k (merge_of old word mask)
merge_twice old word mask k small in-word =
    merge_bit (merge_of old word mask) word mask k small in-word ∙ go (eqb (bit k mask) 1) (merge_bit old word mask k small in-word)
  where
    go : (b : Bool) → bit k (merge_of old word mask) ≡ cond b (bit k word) (bit k old) → cond b (bit k word) (bit k (merge_of old word mask)) ≡ bit k (merge_of old word mask)
    go true e = sym e
    go false e = refl
