-- One record and its values, as the code looks at them. Assumes nothing.
use Prim.Native.Nat.{ℕ, suc, ◌+◌, ◌-◌, ◌/◌, ◌%◌, ◌<◌, ◌≤◌}
use mathlib.Core.Path.{◌≡◌, refl, sym, ◌∙◌}
use mathlib.Core.List.{List}
use mathlib.Core.Bool.{Bool, true, false, cond, ◌&&◌, and-true}
use native.Mathlib.Omega.{arith}
use borrow.Author.Tests.{le-leb, eq-eqb, eqb-true}
use lib.ListN.{length, get_or}
use lib.Dec.{eqb, leb}
use Rattle.std.specs.Prelude.{Some}
use Rattle.std.specs.Bool.{then_some}
use Rattle.entry.specs.declared.Entry.{Entry}
use Rattle.entry.specs.Fields.{entry_of, count_of}
use Rattle.table.specs.declared.Record.{Record}
use Rattle.limits.specs.Limits.{limits_ok, is_within, entry_ok}
use Rattle.opening.specs.Rules.{run_ok}

-- the step of the loop over a record's values, and its end
value_on : (a l w r : Bool) → (a && (l && (w && r))) ≡ ((a && (l && w)) && (l && r))
value_on false l w r = refl
value_on true false w r = refl
value_on true true w r = refl

module _ (e : Entry) (vs : List ℕ) (n place i : ℕ) where
  -- s and b are what the code has for this value, and for all so far
  pub run_on : (a s b : Bool) → i < n → s ≡ (limits_ok e && is_within e (get_or vs (place + i) 0)) → b ≡ (a && s)
      → (a && (limits_ok e && run_ok e vs (n - i) (place + i))) ≡ (b && (limits_ok e && run_ok e vs (n - (i + 1)) (place + (i + 1))))
  unfolding run_ok
  run_on a s b h p q =
      let z : n - i ≡ suc (n - (i + 1)) = omega arith in
      let y : place + (i + 1) ≡ suc (place + i) = omega arith in
      rw (q, p, z, y) (value_on a (limits_ok e) (is_within e (get_or vs (place + i) 0)) (run_ok e vs (n - (i + 1)) (suc (place + i))))

  pub run_end : n ≤ i → run_ok e vs (n - i) (place + i) ≡ true
  unfolding run_ok
  run_end h =
      let z : n - i ≡ 0 = omega arith in
      rw z

-- one value shows the limits to be in order
pub value_shows : (a l w s b : Bool) → s ≡ (l && w) → b ≡ (a && s) → (b && l) ≡ b
value_shows false l w s b p q = rw q
value_shows true false w s b p q = rw (q, p)
value_shows true true w s b p q = rw (q, p, and-true w)

-- what the loop leaves
pub run_all : (l f r b : Bool) → f ≡ true → (l && r) ≡ (b && (l && true)) → (b && l) ≡ b → b ≡ (l && f && r)
run_all l f r b h e s = rw (h, and-true l, e, and-true l, s)

-- one value
pub run_one : (e : Entry) (vs : List ℕ) (place : ℕ) (r : Bool) → place < length vs → r ≡ (limits_ok e && is_within e (get_or vs place 0))
    → r ≡ (limits_ok e && leb (place + 1) (length vs) && run_ok e vs 1 place)
unfolding run_ok
run_one e vs place r h q = rw (q, le-leb (place + 1) (length vs) (omega arith), and-true (limits_ok e), and-true (is_within e (get_or vs place 0)))

-- elements and spare bits are the low fourteen bits of the head
pub low_bits : (r : Record) (e : Entry) → e ≡ entry_of r.head r.minimum r.maximum → (e.elements ≡ r.head / 64 % 256) × (e.spare ≡ r.head % 64)
unfolding entry_of
low_bits r e q = rw q (refl, refl)

-- the places of a record tell whether its elements are too many
pub few_counted : (e : Entry) → leb (count_of e) 254 ≡ leb e.elements 254
unfolding count_of
few_counted e = go (eqb e.elements 0) refl
  where
    go : (b : Bool) → eqb e.elements 0 ≡ b → leb (cond b 1 e.elements) 254 ≡ leb e.elements 254
    go true q = sym (le-leb e.elements 254 (omega (arith, eqb-true _ _ q)))
    go false q = refl

-- the rules that a record can break by itself, but for that of its number
abbrev pub plain_ok : Entry → Bool
plain_ok e = leb e.elements 254 && eqb e.spare 0 && limits_ok e

four_tests : (n s p l : Bool) → (n && s && p && l) ≡ (n && (s && p && l))
four_tests false s p l = refl
four_tests true s p l = refl

module _ (e : Entry) where
  pub entry_plain : entry_ok e ≡ (leb e.number 31999 && plain_ok e)
  unfolding entry_ok
  entry_plain = four_tests (leb e.number 31999) (leb e.elements 254) (eqb e.spare 0) (limits_ok e)

  pub plain_limits : e.elements ≤ 254 → e.spare ≡ 0 → plain_ok e ≡ limits_ok e
  plain_limits q h = simp (le-leb _ _ q, eq-eqb _ _ h)

-- a record, but for its number, and its values are in order
abbrev pub fine_of : Entry → List ℕ → ℕ → Bool
fine_of e vs place = plain_ok e && leb (place + count_of e) (length vs) && run_ok e vs (count_of e) place

module _ (e : Entry) (vs : List ℕ) (place : ℕ) where
  -- its n values were looked at, and its limits with them
  pub fine_run : (n : ℕ) (r : Bool) → count_of e ≡ n → plain_ok e ≡ limits_ok e → r ≡ (limits_ok e && leb (place + n) (length vs) && run_ok e vs n place)
      → r ≡ fine_of e vs place
  fine_run n r c o q = q ∙ rw (c, o)

-- what a test gives, where it gives a number
pub some_given : (b : Bool) (n k : ℕ) → Some n ≡ then_some b k → (b ≡ true) × (n ≡ k)
some_given true n k e = (refl, cc)
some_given false n k e = let z : ◌≡◌ {A = ℕ} 0 1 = cc in absurd (omega arith)
