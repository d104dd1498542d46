-- Laws of the page and its nibble. Assumes nothing.
use mathlib.Core.Path.{◌≡◌, refl, ap, ◌∙◌}
use Prim.Native.Nat.{ℕ, ◌+◌, ◌*◌, ◌/◌, ◌%◌, ◌≤◌, ◌<◌}
use native.Mathlib.Omega.{arith}
use native.Mathlib.Decide.{dec_lt}
use lib.Dec.{lit≤}
use lib.ListN.{length, get_or, get_or-eq_default}
use mathlib.Core.List.{List}
use Rattle.rows.proofs.RangeLaws.{EachOf, between}
use borrow.Author.Tests.{lt-ltb, ltb-true}
use mathlib.Core.Bool.{true}
use Rattle.page.specs.Page.{pages, page_of, nibbles, nibble_of, base_of, full_number, named}

-- what is at most 15 at each of the sixteen places of a list is so everywhere
small : (xs : List ℕ) → length xs ≤ 16 → EachOf (λ k. get_or xs k 0 ≤ 15) 0 16 → (n : ℕ) → get_or xs n 0 ≤ 15
small xs short each n = go (dec_lt n 16)
  where
    go : Dec (n < 16) → get_or xs n 0 ≤ 15
    go (yes h) = between (λ k. get_or xs k 0 ≤ 15) 16 0 each n (omega arith) h
    go (no h) = omega (arith, get_or-eq_default xs 0 {n = n} (omega arith))

-- a page is at most 15
pub page_small : (ind : ℕ) → page_of ind ≤ 15
unfolding page_of
page_small ind = small pages (lit≤ tt) (lit≤ tt, (lit≤ tt, (lit≤ tt, (lit≤ tt, (lit≤ tt, (lit≤ tt, (lit≤ tt, (lit≤ tt, (lit≤ tt, (lit≤ tt, (lit≤ tt, (lit≤ tt, (lit≤ tt, (lit≤ tt, (lit≤ tt, (lit≤ tt, tt)))))))))))))))) (ind / 4096)

-- a nibble is at most 15
pub nibble_small : (number : ℕ) → nibble_of number ≤ 15
unfolding nibble_of
nibble_small number = small nibbles (lit≤ tt) (lit≤ tt, (lit≤ tt, (lit≤ tt, (lit≤ tt, (lit≤ tt, (lit≤ tt, (lit≤ tt, (lit≤ tt, (lit≤ tt, (lit≤ tt, (lit≤ tt, (lit≤ tt, (lit≤ tt, (lit≤ tt, (lit≤ tt, (lit≤ tt, tt)))))))))))))))) (number / 2000)

-- ---- a number as it is written in PKE and IND, read back

-- the page of a nibble
page_nibble : (k : ℕ) → k < 16 → (get_or pages (get_or nibbles k 0) 0 ≡ k)
page_nibble k h =
    between (λ j. get_or pages (get_or nibbles j 0) 0 ≡ j) 16 0
    (refl, (refl, (refl, (refl, (refl, (refl, (refl, (refl, (refl, (refl, (refl, (refl, (refl, (refl, (refl, (refl, tt)))))))))))))))) k (omega arith) h

module _ (number index : ℕ) (numbers : number ≤ 31999) (indices : index < 256) where
  pub ind_nibble : (nibble_of number * 4096 + index) / 4096 ≡ nibble_of number
  ind_nibble = omega arith

  pub ind_index : (nibble_of number * 4096 + index) % 256 ≡ index
  ind_index = omega arith

  pub page_back : page_of (nibble_of number * 4096 + index) ≡ number / 2000
  unfolding page_of nibble_of
  page_back = ap (λ (k : ℕ). get_or pages k 0) ind_nibble ∙ page_nibble (number / 2000) (omega arith)

  -- the full number, whatever the task ID
  pub number_back : (id : ℕ) → full_number (id * 4096 + number % 2000) (nibble_of number * 4096 + index) ≡ number
  number_back id = rw page_back (omega arith)

-- the nibble of a page, and of a full number: what was read is written again
nibble_page : (k : ℕ) → k < 16 → get_or nibbles (get_or pages k 0) 0 ≡ k
nibble_page k h =
    between (λ j. get_or nibbles (get_or pages j 0) 0 ≡ j) 16 0
    (refl, (refl, (refl, (refl, (refl, (refl, (refl, (refl, (refl, (refl, (refl, (refl, (refl, (refl, (refl, (refl, tt)))))))))))))))) k (omega arith) h

pub nibble_back : (pke ind : ℕ) → named pke ≡ true → ind < 65536 → nibble_of (full_number pke ind) ≡ ind / 4096
unfolding nibble_of page_of
nibble_back pke ind n h =
    let page : (page_of ind * 2000 + base_of pke) / 2000 ≡ page_of ind = omega (arith, ltb-true (base_of pke) 2000 n) in
    ap (λ (k : ℕ). get_or nibbles k 0) page ∙ nibble_page (ind / 4096) (omega arith)

module _ (id number : ℕ) where
  pub base_back : base_of (id * 4096 + number % 2000) ≡ number % 2000
  base_back = omega arith

  pub named_back : named (id * 4096 + number % 2000) ≡ true
  named_back = lt-ltb (base_of (id * 4096 + number % 2000)) 2000 (omega arith)

  pub id_back : (id * 4096 + number % 2000) / 4096 ≡ id
  id_back = omega arith

  -- bit 11
  pub bit_zero : (id * 4096 + number % 2000) / 2048 % 2 ≡ 0
  bit_zero = omega arith
