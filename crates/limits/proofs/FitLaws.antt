-- What a value shows of the limits that it is within, and which numbers fit. Assumes nothing.
use Prim.Native.Nat.{ℕ, ◌%◌, ◌<◌, ◌≤◌}
use mathlib.Core.Path.{◌≡◌, refl, ◌∙◌}
use mathlib.Core.Bool.{Bool, true, false, ◌&&◌, and-false, false≢true}
use native.Mathlib.Omega.{arith}
use lib.Dec.{leb}
use lib.IntN.{ℤ, pos, negsuc}
use lib.Signed.{le_z}
use borrow.Author.Tests.{le-leb, lt-leb, leb-true, leb-false}
use Rattle.rows.proofs.BoolLaws.{and_left, and_right}
use Rattle.entry.specs.declared.Entry.{Entry}
use Rattle.limits.specs.Limits.{number_of, at_most, fits_in, is_within, limits_ok}

-- the one comparison goes on from number to number
le_on : (x y z : ℤ) → le_z x y ≡ true → le_z y z ≡ true → le_z x z ≡ true
le_on (pos a) (pos b) (pos c) p q = le-leb a c (omega (arith, leb-true a b p, leb-true b c q))
le_on (pos a) (pos b) (negsuc c) p q = q
le_on (pos a) (negsuc b) z p q = absurd (false≢true p)
le_on (negsuc a) (pos b) (pos c) p q = refl
le_on (negsuc a) (pos b) (negsuc c) p q = absurd (false≢true q)
le_on (negsuc a) (negsuc b) (pos c) p q = refl
le_on (negsuc a) (negsuc b) (negsuc c) p q = le-leb c a (omega (arith, leb-true b a p, leb-true c b q))

-- so a value within limits that fit shows these in order
within_ordered : (e : Entry) (v : ℕ) → is_within e v ≡ true → at_most e.double e.signed e.minimum e.maximum ≡ true
unfolding is_within at_most
within_ordered e v h =
    let f = fits_in e.double v in
    let a = at_most e.double e.signed e.minimum v in
    let b = at_most e.double e.signed v e.maximum in
    let n = number_of e.double e.signed in
    le_on (n e.minimum) (n v) (n e.maximum) (and_right f a (and_left (f && a) b h)) (and_right (f && a) b h)

pub limits_shown : (e : Entry) (v : ℕ) → fits_in e.double e.minimum ≡ true → fits_in e.double e.maximum ≡ true
    → is_within e v ≡ (fits_in e.double e.minimum && fits_in e.double e.maximum && at_most e.double e.signed e.minimum e.maximum && is_within e v)
limits_shown e v p q = rw (p, q) (go (is_within e v) refl)
  where
    m : Bool
    m = at_most e.double e.signed e.minimum e.maximum

    go : (w : Bool) → is_within e v ≡ w → is_within e v ≡ (m && is_within e v)
    go true h = rw (within_ordered e v h)
    go false h = rw (h, and-false m)

-- which numbers fit
module _ (double : Bool) (x : ℕ) where
  pub fits_double : double ≡ true → fits_in double x ≡ true
  unfolding fits_in
  fits_double d = rw d

  pub fits_word : double ≡ false → x ≤ 65535 → fits_in double x ≡ true
  unfolding fits_in
  fits_word d h = rw (d, le-leb x 65535 h)

  pub word_unfit : double ≡ false → 65535 < x → fits_in double x ≡ false
  unfolding fits_in
  word_unfit d h = rw (d, lt-leb x 65535 h)

-- without sign, a value that lies between a word's limits shows that it and the minimum fit, where the maximum does
module _ (e : Entry) (v : ℕ) (word : e.double ≡ false) (plain : e.signed ≡ false) (high : e.maximum ≤ 65535) where
  low_over : 65535 < e.minimum → (leb e.minimum v && leb v e.maximum) ≡ (limits_ok e && is_within e v)
  low_over h = rw (word_unfit e.double e.minimum word h) (go (leb v 65535) refl)
    where
      go : (x : Bool) → leb v 65535 ≡ x → (leb e.minimum v && leb v e.maximum) ≡ false
      go true q = rw (lt-leb e.minimum v (omega (arith, leb-true v 65535 q)))
      go false q = rw (lt-leb v e.maximum (omega (arith, leb-false v 65535 q)), and-false (leb e.minimum v))

  value_over : 65535 < v → (leb e.minimum v && leb v e.maximum) ≡ (limits_ok e && is_within e v)
  unfolding is_within
  value_over h = rw (word_unfit e.double v word h, lt-leb v e.maximum (omega arith), and-false (leb e.minimum v), and-false (limits_ok e))

  all_fit : e.minimum ≤ 65535 → v ≤ 65535 → (leb e.minimum v && leb v e.maximum) ≡ is_within e v
  unfolding is_within at_most number_of
  all_fit h k =
      let a : e.minimum % 65536 ≡ e.minimum = omega arith in
      let b : v % 65536 ≡ v = omega arith in
      let c : e.maximum % 65536 ≡ e.maximum = omega arith in
      rw (fits_word e.double v word k, word, plain, a, b, c)

  pub between_shown : (leb e.minimum v && leb v e.maximum) ≡ (limits_ok e && is_within e v)
  between_shown = go (leb e.minimum 65535) refl (leb v 65535) refl
    where
      go : (x : Bool) → leb e.minimum 65535 ≡ x → (y : Bool) → leb v 65535 ≡ y → (leb e.minimum v && leb v e.maximum) ≡ (limits_ok e && is_within e v)
      go false p y q = low_over (leb-false e.minimum 65535 p)
      go true p false q = value_over (leb-false v 65535 q)
      go true p true q =
          let h = leb-true e.minimum 65535 p in
          all_fit h (leb-true v 65535 q) ∙ limits_shown e v (fits_word e.double e.minimum word h) (fits_word e.double e.maximum word high)
