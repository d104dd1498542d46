-- A number by its binary digits, and the number of a list's elements that have a digit. Assumes nothing.
use mathlib.Core.Path.{◌≡◌, refl, sym, ap, ◌∙◌}
use mathlib.Core.List.{List, [], ◌∷◌}
use mathlib.Core.Logic.{◌⊎◌, inl, inr}
use Prim.Native.Nat.{ℕ, zero, suc, ◌+◌, ◌/◌, ◌%◌, ◌^◌, ◌<◌, suc-le-suc}
use native.Mathlib.Nat.{zero-lt-suc, zero-div, eq-zero-or-pos}
use native.Mathlib.Numerals.{add-one, one-add}
use native.Mathlib.Omega.{arith}
use lib.Arith.{lt-one}
use lib.Pow.{shr-shr, shr_lt}
use lib.ListN.{get_or}
use Rattle.rows.specs.Bits.{bit}
use Rattle.bcc.specs.Bcc.{xor_all}
use Rattle.bcc.proofs.XorLaws.{xor_digit}
use Rattle.claims_damage.specs.Damage.{flips}

-- a number whose digits are all 0
pub zero_digits : (n x : ℕ) → x < 2 ^ n → ((k : ℕ) → k < n → x / 2 ^ k % 2 ≡ 0) → x ≡ 0
zero_digits zero x h d = lt-one h
zero_digits (suc n) x h d =
    let half : x / 2 ≡ 0 =
    zero_digits n (x / 2) (shr_lt n 1 (rw add-one h))
    (λ k hk. ap (λ (y : ℕ). y % 2) (shr-shr x 1 k ∙ ap (λ (e : ℕ). x / 2 ^ e) (one-add k)) ∙ d (suc k) (suc-le-suc hk)) in
    omega (arith, d 0 (zero-lt-suc n))

-- a number that is not 0 has a digit that is 1
pub one_digit : (n x : ℕ) → x < 2 ^ n → 0 < x → (k : ℕ) × (k < n) × (x / 2 ^ k % 2 ≡ 1)
one_digit zero x h p = absurd (omega (arith, lt-one h))
one_digit (suc n) x h p = go (λ q. one_digit n (x / 2) (shr_lt n 1 (rw add-one h)) q) (eq-zero-or-pos (x / 2))
  where
    go : (0 < x / 2 → (k : ℕ) × (k < n) × (x / 2 / 2 ^ k % 2 ≡ 1)) → (x / 2 ≡ 0) ⊎ (0 < x / 2) → (k : ℕ) × (k < suc n) × (x / 2 ^ k % 2 ≡ 1)
    go rest (inl e) = (0, zero-lt-suc n, omega arith)
    go rest (inr q) =
        let r = rest q in
        (suc r.0, suc-le-suc r.1, ap (λ (y : ℕ). y % 2) (sym (shr-shr x 1 r.0 ∙ ap (λ (e : ℕ). x / 2 ^ e) (one-add r.0))) ∙ r.2)

add_parity : (a b c : ℕ) → b % 2 ≡ c % 2 → (a + b) % 2 ≡ (a % 2 + c) % 2
add_parity a b c h = omega arith

-- digit k of the XOR of a list is the parity of the number of its elements with that digit
pub digit_parity : (k : ℕ) (t : List ℕ) → xor_all t / 2 ^ k % 2 ≡ flips k t % 2
unfolding xor_all flips
digit_parity k [] = ap (λ (x : ℕ). x % 2) (zero-div (2 ^ k))
digit_parity k (x ∷ xs) = xor_digit x (xor_all xs) k ∙ add_parity (x / 2 ^ k) (xor_all xs / 2 ^ k) (flips k xs) (digit_parity k xs)

none : (k : ℕ) (f : List ℕ) → ((j : ℕ) → bit k (get_or f j 0) ≡ 0) → flips k f ≡ 0
unfolding flips
none k [] r = refl
none k (x ∷ xs) r = omega (arith, r 0, none k xs (λ j. r (suc j)))

-- where one element alone has digit k, one has it
pub single : (k : ℕ) (f : List ℕ) (i : ℕ) → bit k (get_or f i 0) ≡ 1 → ((j : ℕ) → (j ≡ i → ⊥) → bit k (get_or f j 0) ≡ 0) → flips k f ≡ 1
unfolding flips
single k [] i h r = absurd (omega (arith, ap (λ (x : ℕ). x % 2) (zero-div (2 ^ k))))
single k (x ∷ xs) zero h r = omega (arith, none k xs (λ j. r (suc j) (λ e. omega arith)))
single k (x ∷ xs) (suc i) h r =
    omega (arith, r 0 (λ e. omega arith), single k xs i h (λ j ne. r (suc j) (λ e. ne (omega arith))))
