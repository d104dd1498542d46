-- The digits of a number are the number in decimal without leading zeros, and nothing else is. Assumes nothing.
use mathlib.Core.Path.{◌≡◌, refl, sym, ap, ◌∙◌, subst}
use mathlib.Core.List.{List, [], ◌∷◌, ◌++◌}
use Prim.Native.Nat.{ℕ, ◌+◌, ◌-◌, ◌*◌, ◌/◌, ◌%◌, ◌≤◌, ◌<◌}
use native.Mathlib.Omega.{arith}
use lib.ListN.{length, get_or, length-append}
use Rattle.text.specs.Digits.{digits}
use Rattle.rows.specs.Rows.{Each}
use Rattle.text.specs.Decimal.{value_from, value_of, IsDigit, Decimal}
use Rattle.text.proofs.DigitsLaws.{digits_small, digits_more, by_tenths}

-- ---- a list and its last element

value_last : (n : ℕ) (xs : List ℕ) (y : ℕ) → value_from n (xs ++ (y ∷ [])) ≡ value_from n xs * 10 + (y - 48)
value_last n [] y = refl
value_last n (x ∷ xs) y = value_last (n * 10 + (x - 48)) xs y

each_last : (P : ℕ → Type 0) (xs : List ℕ) (y : ℕ) → Each P xs → P y → Each P (xs ++ (y ∷ []))
each_last P [] y e p = (p, tt)
each_last P (x ∷ xs) y e p = (e.0, each_last P xs y e.1 p)

each_split : (P : ℕ → Type 0) (xs : List ℕ) (y : ℕ) → Each P (xs ++ (y ∷ [])) → Each P xs × P y
each_split P [] y e = (tt, e.0)
each_split P (x ∷ xs) y e =
    let r = each_split P xs y e.1 in
    ((e.0, r.0), r.1)

first_kept : (xs : List ℕ) (y : ℕ) → 1 ≤ length xs → get_or (xs ++ (y ∷ [])) 0 0 ≡ get_or xs 0 0
first_kept [] y h = absurd (omega arith)
first_kept (x ∷ xs) y h = refl

split_last : (x : ℕ) (xs : List ℕ) → (ys : List ℕ) × (y : ℕ) × (x ∷ xs ≡ ys ++ (y ∷ []))
split_last x [] = ([], x, refl)
split_last x (z ∷ zs) =
    let r = split_last z zs in
    (x ∷ r.0, r.1, ap (λ (l : List ℕ). x ∷ l) r.2)

-- ---- the digits are decimal

-- one more digit behind a number that is not 0
more_decimal : (m : ℕ) (xs : List ℕ) (y : ℕ) → 0 < m → Decimal m xs → IsDigit y → Decimal (m * 10 + (y - 48)) (xs ++ (y ∷ []))
more_decimal m xs y h d p = record {
  value = value_last 0 xs y ∙ ap (λ (v : ℕ). v * 10 + (y - 48)) d.value;
  each = each_last IsDigit xs y d.each p;
  some = omega (arith, length-append xs (y ∷ []));
  lead = λ l e. leads xs d.some d.lead d.value (sym (first_kept xs y d.some) ∙ e);
}
  where
    leads : (xs : List ℕ) → 1 ≤ length xs → (2 ≤ length xs → get_or xs 0 0 ≡ 48 → ⊥) → value_of xs ≡ m → get_or xs 0 0 ≡ 48 → ⊥
    leads [] s l v e = omega arith
    leads (x ∷ []) s l v e = omega arith
    leads (x ∷ z ∷ zs) s l v e = l (omega arith) e

pub digits_decimal : (n : ℕ) → Decimal n (digits n)
digits_decimal =
    by_tenths (λ (n : ℕ). Decimal n (digits n))
    (λ n h.
    subst (Decimal n) (sym (digits_small n h))
    (record { value = omega arith; each = ((omega arith, omega arith), tt); some = omega arith; lead = λ l e. omega arith }))
    (λ n h d.
    let q : n / 10 * 10 + (48 + n % 10 - 48) ≡ n = omega arith in
    subst (Decimal n) (sym (digits_more n h))
    (subst (λ (m : ℕ). Decimal m (digits (n / 10) ++ ((48 + n % 10) ∷ []))) q
    (more_decimal (n / 10) (digits (n / 10)) (48 + n % 10) (omega arith) d (omega arith, omega arith))))

-- ---- and nothing else is

value_grows : (n : ℕ) (xs : List ℕ) → n ≤ value_from n xs
value_grows n [] = omega arith
value_grows n (x ∷ xs) = omega (arith, value_grows (n * 10 + (x - 48)) xs)

below_ten : (n : ℕ) (xs : List ℕ) → n < 10 → Decimal n xs → xs ≡ (48 + n) ∷ []
below_ten n [] h d = absurd (omega (arith, d.some))
below_ten n (x ∷ []) h d =
    let e : x ≡ 48 + n = omega (arith, d.value, d.each.0.0) in
    ap (λ (k : ℕ). k ∷ []) e
below_ten n (x ∷ z ∷ zs) h d =
    absurd (d.lead (omega arith) (omega (arith, value_grows ((0 * 10 + (x - 48)) * 10 + (z - 48)) zs, d.value, d.each.0.0)))

from_ten : (n : ℕ) (ys : List ℕ) (y : ℕ) → 10 ≤ n → Decimal n (ys ++ (y ∷ [])) → Decimal (n / 10) ys × (y ≡ 48 + n % 10)
from_ten n ys y h d =
    let s = each_split IsDigit ys y d.each in
    let v : value_of ys * 10 + (y - 48) ≡ n = sym (value_last 0 ys y) ∙ d.value in
    let l : 1 ≤ length ys = long ys v in (
      record {
        value = omega (arith, v, s.1.0, s.1.1);
        each = s.0;
        some = l;
        lead = λ k e. d.lead (omega (arith, length-append ys (y ∷ []))) (first_kept ys y l ∙ e);
      },
      omega (arith, v, s.1.0, s.1.1),
    )
  where
    long : (ys : List ℕ) → value_of ys * 10 + (y - 48) ≡ n → 1 ≤ length ys
    long [] v = absurd (omega (arith, (each_split IsDigit ys y d.each).1.1))
    long (x ∷ xs) v = omega arith

pub decimal_digits : (n : ℕ) (xs : List ℕ) → Decimal n xs → xs ≡ digits n
decimal_digits =
    by_tenths (λ (n : ℕ). (xs : List ℕ) → Decimal n xs → xs ≡ digits n)
    (λ n h xs d. below_ten n xs h d ∙ sym (digits_small n h))
    (λ n h again xs d. more n h again xs d)
  where
    more : (n : ℕ) → 10 ≤ n → ((xs : List ℕ) → Decimal (n / 10) xs → xs ≡ digits (n / 10)) → (xs : List ℕ) → Decimal n xs → xs ≡ digits n
    more n h again [] d = absurd (omega (arith, d.some))
    more n h again (x ∷ xs) d =
        let r = split_last x xs in
        let f = from_ten n r.0 r.1 h (subst (Decimal n) r.2 d) in
        let e : r.0 ≡ digits (n / 10) = again r.0 f.0 in
        r.2 ∙ rw (e, f.1) (sym (digits_more n h))
