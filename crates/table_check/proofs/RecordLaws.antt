-- The record that a check names breaks the rule that it names, and no record before it breaks one. Assumes nothing.
use Prim.Native.Nat.{ℕ, zero, suc, ◌+◌, ◌/◌, ◌%◌, ◌<◌, ◌≤◌}
use mathlib.Core.Path.{◌≡◌, refl, sym, ◌∙◌, subst}
use mathlib.Core.Logic.{◌⊎◌, inl, inr}
use mathlib.Core.List.{List}
use mathlib.Core.Bool.{false}
use native.Mathlib.Omega.{arith}
use native.Mathlib.Nat.{eq-or-lt_of_le}
use lib.ListN.{length}
use Rattle.std.specs.Prelude.{Option, Some, None, Err, IsSomeAnd}
use Rattle.entry.specs.declared.Entry.{Entry}
use Rattle.entry.specs.Fields.{count_of}
use Rattle.table.specs.Records.{entry_at, entries_from, counts_of, first_place}
use Rattle.opening.specs.Rules.{table_ok}
use Rattle.table_check.specs.declared.Rule.{Rule}
use Rattle.table_check.specs.declared.TableCheck.{TableCheck}
use Rattle.table_check.specs.RuleNumbers.{rule_number}
use Rattle.table_check.specs.Checks.{told, records_check, table_check_of}
use Rattle.table_check.specs.Faults.{least_at, rule_at, RecordNamed}
use Rattle.table_check.proofs.CheckLaws.{records_broken, records_on, records_end, content_records}
use Rattle.table_check.proofs.NumberLaws.{numbered_err, table_records_numbered}

-- the first place of the next record
counts_next : (t : List ℕ) (k j : ℕ) → counts_of (entries_from t (suc k) j) ≡ counts_of (entries_from t k j) + count_of (entry_at t (j + k))
unfolding counts_of entries_from
counts_next t zero j =
    let z : j + 0 ≡ j = omega arith in
    rw z (omega arith)
counts_next t (suc k) j =
    let z : j + suc k ≡ suc j + k = omega arith in
    rw z (omega (arith, counts_next t k (suc j)))

pub place_next : (t : List ℕ) (k : ℕ) → first_place t (suc k) ≡ first_place t k + count_of (entry_at t k)
place_next t k =
    let z : 0 + k ≡ k = omega arith in
    rw z at (counts_next t k 0)

-- ---- records

-- of the records from j on, before n
record NamedFrom (t : List ℕ) (j n : ℕ) (r : TableCheck) : Type 0 where
  start : j ≤ r.«record»
  below : r.«record» < n
  broken : IsSomeAnd (rule_at t r.«record») (λ rule. r.rule ≡ rule_number rule)
  before : (k : ℕ) → j ≤ k → k < r.«record» → rule_at t k ≡ None

named_here : (t : List ℕ) (j n : ℕ) (x : Rule) → j < n → rule_at t j ≡ Some x → NamedFrom t j n (told x j 0)
unfolding told
named_here t j n x h q = record { start = omega arith; below = h; broken = rw q refl; before = λ k p u. absurd (omega arith) }

named_on : (t : List ℕ) (j n : ℕ) (r : TableCheck) → rule_at t j ≡ None → NamedFrom t (suc j) n r → NamedFrom t j n r
named_on t j n r q m = record {
  start = omega (arith, m.start);
  below = m.below;
  broken = m.broken;
  before = λ k p u. go k u (eq-or-lt_of_le p);
}
  where
    go : (k : ℕ) → k < r.«record» → (j ≡ k) ⊎ (j < k) → rule_at t k ≡ None
    go k u (inl e) = subst (λ (i : ℕ). rule_at t i ≡ None) e q
    go k u (inr l) = m.before k l u

records_named : (t : List ℕ) (n j : ℕ) (r : TableCheck) → records_check (entries_from t n j) j (least_at t j) (first_place t j) ≡ Err r → NamedFrom t j (j + n) r
unfolding entries_from
records_named t zero j r h =
    let e = records_end j (least_at t j) (first_place t j) in
    absurd cc
records_named t (suc n) j r h = go (rule_at t j) refl (records_named t n (suc j) r)
  where
    es : List Entry
    es = entries_from t n (suc j)

    go : (o : Option Rule) → rule_at t j ≡ o
        → (records_check es (suc j) (least_at t (suc j)) (first_place t (suc j)) ≡ Err r → NamedFrom t (suc j) (suc j + n) r) → NamedFrom t j (j + suc n) r
    go None q ih =
        let one : j + 1 ≡ suc j = omega arith in
        let m : j + suc n ≡ suc j + n = omega arith in
        let on = rw (one, ← (place_next t j)) at (records_on (entry_at t j) es j (least_at t j) (first_place t j) q) in
        rw m (named_on t j (suc j + n) r q (ih (sym on ∙ h)))
    go (Some x) q ih =
        let e = records_broken (entry_at t j) es j (least_at t j) (first_place t j) x q in
        let s : told x j 0 ≡ r = cc in
        subst (NamedFrom t j (j + suc n)) s (named_here t j (j + suc n) x (omega arith) q)

-- a table of whole records, at most 512, that breaks a rule: its first record that breaks one is named
pub record_named : (t vs : List ℕ) → length t % 12 ≡ 0 → length t / 12 ≤ 512 → table_ok t ≡ false → RecordNamed t (table_check_of t vs)
unfolding table_check_of counts_of entries_from
record_named t vs whole short o =
    let b = numbered_err _ 21 (rw o at (table_records_numbered t whole short)) in
    let m = records_named t (length t / 12) 0 b.0 b.1 in
    rw (content_records t vs whole short b.0 b.1)
    (record { below = omega (arith, m.below); broken = m.broken; before = λ k h. m.before k (omega arith) h })
