-- The list of first places, as the pass compares it. Assumes nothing.
use Prim.Native.Nat.{ℕ, ◌+◌, ◌-◌, ◌*◌, ◌/◌, ◌%◌, ◌≤◌}
use mathlib.Core.Path.{◌≡◌, refl, ap, ◌∙◌}
use mathlib.Core.List.{List, [], ◌∷◌}
use mathlib.Core.Bool.{Bool, true, false, ◌&&◌, and-true, false≢true}
use native.Mathlib.Omega.{arith}
use native.Mathlib.Nat.{sub-zero}
use borrow.Author.Tests.{eq-eqb, ne_eqb, eqb-true, leb-true}
use lib.ListN.{length}
use Rattle.std.specs.Prelude.{Option, Some, None}
use lib.Dec.{eqb, leb}
use Rattle.rows.proofs.BoolLaws.{and_left, and_right}
use Rattle.entry.specs.declared.Entry.{Entry}
use Rattle.entry.specs.Fields.{count_of}
use Rattle.table.specs.Records.{entry_at, entries_from, entries, places_from, counts_of}
use Rattle.table.proofs.RecordsLaws.{entries_step}
use Rattle.opening.proofs.RecordLaws.{fine_of}
use Rattle.opening.proofs.PassLaws.{pass_from, pass_step, pass_end, pass_whole, none_test}
use Rattle.table.proofs.PlacesLaws.{places_none, places_more, places_length}
use Rattle.opening.specs.Lent.{RightList}
use Rattle.opening.specs.Rules.{rising_from, each_ok, table_ok, values_ok, sums_ok, list_ok}

-- what is not true is false
pub refuted : (b : Bool) → (b ≡ true → ⊥) → false ≡ b
refuted false h = refl
refuted true h = absurd (h refl)

-- record by record
module _ (p : ℕ) (ps : List ℕ) (e : Entry) (es : List Entry) (place : ℕ) where
  pub sums_on : p ≡ place → sums_ok (p ∷ ps) (e ∷ es) place ≡ sums_ok ps es (place + count_of e)
  unfolding sums_ok
  sums_on h = rw (eq-eqb p place h)

  pub sums_off : (p ≡ place → ⊥) → sums_ok (p ∷ ps) (e ∷ es) place ≡ false
  unfolding sums_ok
  sums_off h = rw (ne_eqb p place h)

pub sums_end : (place : ℕ) → sums_ok [] [] place ≡ true
unfolding sums_ok
sums_end place = refl

-- a list is right exactly where it is the list of the first places
pub sums_right : (ps : List ℕ) (es : List Entry) (place : ℕ) → sums_ok ps es place ≡ true → ps ≡ places_from es place
unfolding sums_ok
sums_right [] [] place h = rw (places_none place)
sums_right [] (e ∷ es) place h = absurd (false≢true h)
sums_right (p ∷ ps) [] place h = absurd (false≢true h)
sums_right (p ∷ ps) (e ∷ es) place h =
    let first = eqb-true p place (and_left (eqb p place) (sums_ok ps es (place + count_of e)) h) in
    let rest = sums_right ps es (place + count_of e) (and_right (eqb p place) (sums_ok ps es (place + count_of e)) h) in
    rw (places_more place e es, first) (ap (λ (qs : List ℕ). place ∷ qs) rest)

pub right_sums : (es : List Entry) (place : ℕ) → sums_ok (places_from es place) es place ≡ true
unfolding sums_ok places_from
right_sums [] place = refl
right_sums (e ∷ es) place = rw (eq-eqb place place refl) (right_sums es (place + count_of e))

-- a list that is lent and right, as what uses it asks for it
pub lent_right : (t : List ℕ) (ps : Option (List ℕ)) → list_ok ps t ≡ true → RightList t ps
lent_right t (Some ps) h = sums_right ps (entries t) 0 h
lent_right t None h = tt

-- with a right list there are 12 bytes for each place, and at most 512 places
pub listed_length : (t vs ps : List ℕ) → (table_ok t && values_ok t vs && sums_ok ps (entries t) 0) ≡ true → (length t ≡ 12 * length ps) × (length ps ≤ 512)
listed_length t vs ps h =
    let g = table_ok t && values_ok t vs in
    let s = sums_ok ps (entries t) 0 in
    let long : length ps ≡ length t / 12 = ap length (sums_right ps (entries t) 0 (and_right g s h)) ∙ places_length t in
    let a = eqb (length t % 12) 0 in
    let b = leb (length t / 12) 512 in
    let r = rising_from 0 (entries t) in
    let o = each_ok (entries t) in
    let n = leb (counts_of (entries t)) 4096 in
    let whole = and_left (a && b) r (and_left (a && b && r) o (and_left (a && b && r && o) n (and_left (table_ok t) (values_ok t vs) (and_left g s h)))) in
    let w = eqb-true (length t % 12) 0 (and_left a b whole) in
    let f = leb-true (length t / 12) 512 (and_right a b whole) in
    (omega arith, omega arith)

none_left : (ps : List ℕ) → length ps ≡ 0 → ps ≡ []
none_left [] h = refl
none_left (p ∷ ps) h = absurd (omega arith)

-- the start of the pass
module _ (t vs ps : List ℕ) (whole : length t ≡ 12 * length ps) where
  abbrev asked : Bool
  asked = table_ok t && values_ok t vs && sums_ok ps (entries t) 0

  abbrev rest : List Entry
  rest = entries_from t (length ps - 1) 1

  pub listed_none : length ps ≡ 0 → asked ≡ eqb (length vs) 0
  unfolding entries entries_from
  listed_none none =
      let count : length t / 12 ≡ 0 = omega arith in
      let few : length ps ≤ 512 = omega arith in
      let pass = pass_whole t vs (length ps) whole few in
      let empty = none_left ps none in
      rw (pass, count, none, pass_end 0 0 vs, empty, sums_end 0, and-true (eqb 0 (length vs)), none_test (length vs))

  pub listed_first : (e : Entry) → length ps ≤ 512 → 1 ≤ length ps → e ≡ entry_at t 0
      → asked ≡ ((fine_of e vs 0 && pass_from vs rest (e.number + 1) (0 + count_of e)) && sums_ok ps (e ∷ rest) 0)
  unfolding entries
  listed_first e few some is =
      let count : length t / 12 ≡ length ps = omega arith in
      let start : entries_from t (length ps) 0 ≡ entry_at t 0 ∷ rest = rw sub-zero at (entries_step t (length ps) 0 (omega arith)) in
      rw (pass_whole t vs (length ps) whole few, count, start, is) (ap (λ (b : Bool). b && sums_ok ps (entry_at t 0 ∷ rest) 0) (pass_step (entry_at t 0) rest 0 0 vs (omega arith)))
