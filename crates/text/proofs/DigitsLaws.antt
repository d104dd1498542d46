-- The digits of a number by those of its tenth, and how many there are. Assumes nothing.
use mathlib.Core.Path.{◌≡◌, refl, ap, ◌∙◌, subst}
use mathlib.Core.Bool.{Bool, true, false, cond}
use mathlib.Core.List.{List, [], ◌∷◌, ◌++◌}
use Prim.Native.Nat.{ℕ, zero, suc, ◌+◌, ◌/◌, ◌%◌, ◌^◌, ◌≤◌, ◌<◌}
use native.Mathlib.Nat.{pow-suc, div-lt_iff_lt-mul}
use native.Mathlib.Omega.{arith}
use lib.Dec.{ltb, lit<}
use lib.ListN.{length, length-append}
use borrow.Author.Tests.{lt-ltb, le-ltb, ltb-true, ltb-false}
use Rattle.text.specs.Digits.{digits_of, digits}

-- ---- the digits by those of the tenth

-- as many tenths as the number itself are enough, and more change nothing
pub enough : (j k n : ℕ) → n ≤ j → n ≤ k → digits_of j n ≡ digits_of k n
enough zero zero n h g = refl
enough zero (suc k) n h g = rw (lt-ltb n 10 (omega arith))
enough (suc j) zero n h g = rw (lt-ltb n 10 (omega arith))
enough (suc j) (suc k) n h g = go (ltb n 10) refl (enough j k (n / 10))
  where
    go : (b : Bool) → ltb n 10 ≡ b → (n / 10 ≤ j → n / 10 ≤ k → digits_of j (n / 10) ≡ digits_of k (n / 10)) → cond b ((48 + n) ∷ []) (digits_of j (n / 10) ++ ((48 + n % 10) ∷ [])) ≡ cond b ((48 + n) ∷ []) (digits_of k (n / 10) ++ ((48 + n % 10) ∷ []))
    go true e f = refl
    go false e f =
        let m : 10 ≤ n = ltb-false n 10 e in
        ap (λ (l : List ℕ). l ++ ((48 + n % 10) ∷ [])) (f (omega arith) (omega arith))

small_of : (k n : ℕ) → n < 10 → digits_of k n ≡ (48 + n) ∷ []
small_of zero n h = refl
small_of (suc k) n h = rw (lt-ltb n 10 h)

more_of : (k n : ℕ) → 10 ≤ n → n ≤ suc k → digits_of (suc k) n ≡ digits_of (n / 10) (n / 10) ++ ((48 + n % 10) ∷ [])
more_of k n h g = rw (le-ltb n 10 h) (ap (λ (l : List ℕ). l ++ ((48 + n % 10) ∷ [])) (enough k (n / 10) (n / 10) (omega arith) (omega arith)))

pub digits_small : (n : ℕ) → n < 10 → digits n ≡ (48 + n) ∷ []
unfolding digits
digits_small n h = small_of n n h

pub digits_more : (n : ℕ) → 10 ≤ n → digits n ≡ digits (n / 10) ++ ((48 + n % 10) ∷ [])
unfolding digits
digits_more zero h = absurd (omega arith)
digits_more (suc k) h = more_of k (suc k) h (omega arith)

-- ---- how many there are

pub length_small : (n : ℕ) → n < 10 → length (digits n) ≡ 1
length_small n h = ap length (digits_small n h)

pub length_more : (n : ℕ) → 10 ≤ n → length (digits n) ≡ length (digits (n / 10)) + 1
length_more n h = ap length (digits_more n h) ∙ length-append (digits (n / 10)) ((48 + n % 10) ∷ [])

-- what holds of the numbers below ten, and of a number where it holds of its tenth, holds of every number
pub by_tenths : (P : ℕ → Type 0) → ((n : ℕ) → n < 10 → P n) → ((n : ℕ) → 10 ≤ n → P (n / 10) → P n) → (n : ℕ) → P n
by_tenths P small more n = up_to n n (omega arith)
  where
    up_to : (k n : ℕ) → n ≤ k → P n
    up_to zero n h = small n (omega arith)
    up_to (suc k) n h = go (ltb n 10) refl (up_to k (n / 10))
      where
        go : (b : Bool) → ltb n 10 ≡ b → (n / 10 ≤ k → P (n / 10)) → P n
        go true e f = small n (ltb-true n 10 e)
        go false e f =
            let m : 10 ≤ n = ltb-false n 10 e in
            more n m (f (omega arith))

-- ten to the power of as many digits is a bound, and at least one digit is there
pub length_digits : (k n : ℕ) → n < 10 ^ suc k → length (digits n) ≤ suc k
length_digits zero n h = omega (arith, length_small n h)
length_digits (suc k) n h = go (ltb n 10) refl (length_digits k (n / 10))
  where
    go : (b : Bool) → ltb n 10 ≡ b → (n / 10 < 10 ^ suc k → length (digits (n / 10)) ≤ suc k) → length (digits n) ≤ suc (suc k)
    go true e f = omega (arith, length_small n (ltb-true n 10 e))
    go false e f =
        let t : n / 10 < 10 ^ suc k = (div-lt_iff_lt-mul (lit< tt)).1 (subst (λ (x : ℕ). n < x) (pow-suc 10 (suc k)) h) in
        omega (arith, length_more n (ltb-false n 10 e), f t)

pub some_digit : (n : ℕ) → 1 ≤ length (digits n)
some_digit =
    by_tenths (λ (n : ℕ). 1 ≤ length (digits n))
    (λ n h. omega (arith, length_small n h))
    (λ n h p. omega (arith, length_more n h))

-- the tenth has no more digits
pub length_tenth : (n : ℕ) → length (digits (n / 10)) ≤ length (digits n)
length_tenth n = go (ltb n 10) refl
  where
    go : (b : Bool) → ltb n 10 ≡ b → length (digits (n / 10)) ≤ length (digits n)
    go true e =
        let h : n < 10 = ltb-true n 10 e in
        omega (arith, length_small n h, length_small (n / 10) (omega arith))
    go false e = omega (arith, length_more n (ltb-false n 10 e))
