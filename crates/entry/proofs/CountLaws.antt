-- Laws of a record's places. Assumes nothing.
use Prim.Native.Nat.{ℕ, ◌+◌, ◌/◌, ◌%◌, ◌≤◌}
use mathlib.Core.Path.{◌≡◌, refl}
use mathlib.Core.Bool.{Bool, true, false, cond}
use native.Mathlib.Omega.{arith}
use lib.Dec.{eqb, lit≤}
use borrow.Author.Tests.{eq-eqb, ne_eqb, eqb-false}
use Rattle.entry.specs.declared.Entry.{Entry}
use Rattle.entry.specs.Fields.{entry_of, count_of}

pub count_none : (e : Entry) → e.elements ≡ 0 → count_of e ≡ 1
unfolding count_of
count_none e h = simp (eq-eqb _ _ h)

pub count_some : (e : Entry) → (e.elements ≡ 0 → ⊥) → count_of e ≡ e.elements
unfolding count_of
count_some e h = simp (ne_eqb _ _ h)

cond_bounds : (x m : ℕ) → 1 ≤ m → x ≤ m → (b : Bool) → eqb x 0 ≡ b → (1 ≤ cond b 1 x) × (cond b 1 x ≤ m)
cond_bounds x m o h true e = (lit≤ tt, o)
cond_bounds x m o h false e = (omega (arith, eqb-false x 0 e), h)

-- the head's eight bits count at most 255
pub count_le : (head lo hi : ℕ) → count_of (entry_of head lo hi) ≤ 255
unfolding count_of entry_of
count_le head lo hi =
    let x = head / 64 % 256 in
    let h : x ≤ 255 = omega arith in
    (cond_bounds x 255 (lit≤ tt) h (eqb x 0) refl).1

-- and at least one place
pub count_ge : (e : Entry) → 1 ≤ count_of e
unfolding count_of
count_ge e = let x = e.elements in (cond_bounds x (x + 1) (omega arith) (omega arith) (eqb x 0) refl).0
