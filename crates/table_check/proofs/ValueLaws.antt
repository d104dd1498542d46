-- The value that a check names is outside the limits of the record that it names, and none before it is outside its own; where nothing
-- is at fault all is 0. Assumes nothing.
use Prim.Native.Nat.{ℕ, zero, suc, ◌+◌, ◌/◌, ◌%◌, ◌<◌, ◌≤◌}
use mathlib.Core.Path.{◌≡◌, refl, sym, ap, ◌∙◌, subst}
use mathlib.Core.Logic.{◌⊎◌, inl, inr}
use mathlib.Core.List.{List}
use mathlib.Core.Bool.{Bool, true, false, cond, ◌&&◌}
use native.Mathlib.Omega.{arith}
use native.Mathlib.Nat.{eq-or-lt_of_le, add-zero}
use borrow.Author.Tests.{eqb-true, leb-true, eq-eqb}
use lib.Dec.{eqb, leb}
use lib.ListN.{length, get_or}
use Rattle.std.specs.Prelude.{Ok, Err}
use Rattle.rows.proofs.BoolLaws.{and_left, and_right}
use Rattle.entry.specs.declared.Entry.{Entry}
use Rattle.entry.specs.Fields.{count_of}
use Rattle.limits.specs.Limits.{is_within}
use Rattle.table.specs.Records.{entry_at, entries_from, entries, counts_of, first_place}
use Rattle.opening.specs.Rules.{rising_from, each_ok, runs_ok, table_ok, values_ok}
use Rattle.table_check.specs.declared.Rule.TheVariants.{ValueCount, OutsideLimits}
use Rattle.table_check.specs.declared.TableCheck.{TableCheck}
use Rattle.table_check.specs.RuleNumbers.{rule_number}
use Rattle.table_check.specs.Checks.{told, tells, Checked, records_check, run_check, runs_check, content_check, table_check_of}
use Rattle.table_check.specs.Faults.{ValueNamed}
use Rattle.table_check.proofs.CheckLaws.{runs_outside, runs_on, runs_end, content_count, content_runs}
use Rattle.table_check.proofs.NumberLaws.{numbered_ok, numbered_err, runs_numbered, table_records_numbered}
use Rattle.table_check.proofs.RecordLaws.{place_next}

-- ---- the values of one record

record RunNamed (e : Entry) (vs : List ℕ) (n k place : ℕ) (r : TableCheck) : Type 0 where
  own : r.«record» ≡ k
  rule_is : r.rule ≡ rule_number OutsideLimits
  from : place ≤ r.place
  to : r.place < place + n
  outside : is_within e (get_or vs r.place 0) ≡ false
  before : (q : ℕ) → place ≤ q → q < r.place → is_within e (get_or vs q 0) ≡ true

run_here : (e : Entry) (vs : List ℕ) (n k place : ℕ) → is_within e (get_or vs place 0) ≡ false → RunNamed e vs (suc n) k place (told OutsideLimits k place)
unfolding told
run_here e vs n k place h = record {
  own = refl;
  rule_is = refl;
  from = omega arith;
  to = omega arith;
  outside = h;
  before = λ q a b. absurd (omega arith);
}

run_past : (e : Entry) (vs : List ℕ) (n k place : ℕ) (r : TableCheck) → is_within e (get_or vs place 0) ≡ true → RunNamed e vs n k (suc place) r → RunNamed e vs (suc n) k place r
run_past e vs n k place r h m = record {
  own = m.own;
  rule_is = m.rule_is;
  from = omega (arith, m.from);
  to = omega (arith, m.to);
  outside = m.outside;
  before = λ q a b. go q b (eq-or-lt_of_le a);
}
  where
    go : (q : ℕ) → q < r.place → (place ≡ q) ⊎ (place < q) → is_within e (get_or vs q 0) ≡ true
    go q b (inl s) = subst (λ (i : ℕ). is_within e (get_or vs i 0) ≡ true) s h
    go q b (inr l) = m.before q l b

run_named : (e : Entry) (vs : List ℕ) (n k place : ℕ) (r : TableCheck) → run_check e vs n k place ≡ Err r → RunNamed e vs n k place r
unfolding run_check
run_named e vs zero k place r h = absurd cc
run_named e vs (suc n) k place r h = go (is_within e (get_or vs place 0)) refl (run_named e vs n k (suc place) r) h
  where
    rest : Checked
    rest = run_check e vs n k (suc place)

    go : (b : Bool) → is_within e (get_or vs place 0) ≡ b → (rest ≡ Err r → RunNamed e vs n k (suc place) r)
        → cond b rest (Err (told OutsideLimits k place)) ≡ Err r → RunNamed e vs (suc n) k place r
    go true q ih h = run_past e vs n k place r q (ih h)
    go false q ih h =
        let s : told OutsideLimits k place ≡ r = cc in
        subst (RunNamed e vs (suc n) k place) s (run_here e vs n k place q)

-- nothing is told of values that are all within
run_kept : (e : Entry) (vs : List ℕ) (n k place i : ℕ) → run_check e vs n k place ≡ Ok tt → i < n → is_within e (get_or vs (place + i) 0) ≡ true
unfolding run_check
run_kept e vs zero k place i h b = absurd (omega arith)
run_kept e vs (suc n) k place i h b = go (is_within e (get_or vs place 0)) refl h i b (run_kept e vs n k (suc place))
  where
    rest : Checked
    rest = run_check e vs n k (suc place)

    go : (w : Bool) → is_within e (get_or vs place 0) ≡ w → cond w rest (Err (told OutsideLimits k place)) ≡ Ok tt → (j : ℕ) → j < suc n
        → ((m : ℕ) → rest ≡ Ok tt → m < n → is_within e (get_or vs (suc place + m) 0) ≡ true) → is_within e (get_or vs (place + j) 0) ≡ true
    go false q z j c ih = absurd cc
    go true q z zero c ih = rw add-zero q
    go true q z (suc j) c ih =
        let s : place + suc j ≡ suc place + j = omega arith in
        rw s (ih j z (omega arith))

-- ---- the values of the records from j on, before n

record NamedFrom (t vs : List ℕ) (j n : ℕ) (r : TableCheck) : Type 0 where
  start : j ≤ r.«record»
  below : r.«record» < n
  rule_is : r.rule ≡ rule_number OutsideLimits
  from : first_place t r.«record» ≤ r.place
  to : r.place < first_place t r.«record» + count_of (entry_at t r.«record»)
  outside : is_within (entry_at t r.«record») (get_or vs r.place 0) ≡ false
  own_before : (q : ℕ) → first_place t r.«record» ≤ q → q < r.place → is_within (entry_at t r.«record») (get_or vs q 0) ≡ true
  before : (k i : ℕ) → j ≤ k → k < r.«record» → i < count_of (entry_at t k) → is_within (entry_at t k) (get_or vs (first_place t k + i) 0) ≡ true

named_here : (t vs : List ℕ) (j n : ℕ) (r : TableCheck) → j < n → RunNamed (entry_at t j) vs (count_of (entry_at t j)) j (first_place t j) r → NamedFrom t vs j n r
named_here t vs j n r h m =
    let s = m.own in
    record {
      start = omega arith;
      below = omega arith;
      rule_is = m.rule_is;
      from = rw s m.from;
      to = rw s m.to;
      outside = rw s m.outside;
      own_before = rw s m.before;
      before = λ k i a b c. absurd (omega arith);
    }

named_past : (t vs : List ℕ) (j n : ℕ) (r : TableCheck)
    → ((i : ℕ) → i < count_of (entry_at t j) → is_within (entry_at t j) (get_or vs (first_place t j + i) 0) ≡ true) → NamedFrom t vs (suc j) n r → NamedFrom t vs j n r
named_past t vs j n r w m = record {
  start = omega (arith, m.start);
  below = m.below;
  rule_is = m.rule_is;
  from = m.from;
  to = m.to;
  outside = m.outside;
  own_before = m.own_before;
  before = λ k i a b c. go k b (eq-or-lt_of_le a) i c;
}
  where
    go : (k : ℕ) → k < r.«record» → (j ≡ k) ⊎ (j < k) → (i : ℕ) → i < count_of (entry_at t k) → is_within (entry_at t k) (get_or vs (first_place t k + i) 0) ≡ true
    go k b (inl s) = subst (λ (x : ℕ). (i : ℕ) → i < count_of (entry_at t x) → is_within (entry_at t x) (get_or vs (first_place t x + i) 0) ≡ true) s w
    go k b (inr l) = λ i c. m.before k i l b c

runs_named : (t vs : List ℕ) (n j : ℕ) (r : TableCheck) → runs_check (entries_from t n j) vs j (first_place t j) ≡ Err r → NamedFrom t vs j (j + n) r
unfolding entries_from
runs_named t vs zero j r h =
    let e = runs_end vs j (first_place t j) in
    absurd cc
runs_named t vs (suc n) j r h = go (run_check e vs (count_of e) j (first_place t j)) refl (runs_named t vs n (suc j) r)
  where
    e : Entry
    e = entry_at t j

    es : List Entry
    es = entries_from t n (suc j)

    go : (c : Checked) → run_check e vs (count_of e) j (first_place t j) ≡ c
        → (runs_check es vs (suc j) (first_place t (suc j)) ≡ Err r → NamedFrom t vs (suc j) (suc j + n) r) → NamedFrom t vs j (j + suc n) r
    go (Ok done) q ih =
        let one : j + 1 ≡ suc j = omega arith in
        let m : j + suc n ≡ suc j + n = omega arith in
        let on = rw (one, ← (place_next t j)) at (runs_on e es vs j (first_place t j) q) in
        rw m (named_past t vs j (suc j + n) r (λ i c. run_kept e vs (count_of e) j (first_place t j) i q c) (ih (sym on ∙ h)))
    go (Err x) q ih =
        let out = runs_outside e es vs j (first_place t j) x q in
        let s : x ≡ r = cc in
        subst (NamedFrom t vs j (j + suc n)) s (named_here t vs j (j + suc n) x (omega arith) (run_named e vs (count_of e) j (first_place t j) x q))

-- ---- table and values

-- a table that keeps its rules has whole records, at most 512
ok_whole : (t : List ℕ) → table_ok t ≡ true → (length t % 12 ≡ 0) × (length t / 12 ≤ 512)
ok_whole t o =
    let a = eqb (length t % 12) 0 in
    let b = leb (length t / 12) 512 in
    let c = rising_from 0 (entries t) in
    let d = each_ok (entries t) in
    let f = leb (counts_of (entries t)) 4096 in
    let h = and_left (a && b) c (and_left (a && b && c) d (and_left (a && b && c && d) f o)) in
    (eqb-true (length t % 12) 0 (and_left a b h), leb-true (length t / 12) 512 (and_right a b h))

module _ (t vs : List ℕ) (o : table_ok t ≡ true) where
  abbrev es : List Entry
  es = entries_from t (length t / 12) 0

  fine_records : records_check es 0 0 0 ≡ Ok tt
  fine_records = numbered_ok _ 21 (rw o at (table_records_numbered t (ok_whole t o).0 (ok_whole t o).1))

  -- another number of values: the places of the table are told
  pub count_named : (counts_of (entries t) ≡ length vs → ⊥) → table_check_of t vs ≡ told ValueCount (length t / 12) (counts_of (entries t))
  unfolding table_check_of entries
  count_named n = ap tells (content_count t vs (ok_whole t o).0 (ok_whole t o).1 fine_records n)

  runs_told : counts_of (entries t) ≡ length vs → content_check t vs ≡ runs_check es vs 0 0
  unfolding entries
  runs_told n = content_runs t vs (ok_whole t o).0 (ok_whole t o).1 fine_records n

  -- as many values as places: the first that is outside its limits is named
  pub value_named : counts_of (entries t) ≡ length vs → values_ok t vs ≡ false → ValueNamed t vs (table_check_of t vs)
  unfolding table_check_of entries entries_from counts_of
  value_named n v =
      let w : runs_ok es vs 0 ≡ false = rw (eq-eqb _ _ n) at v in
      let b = numbered_err _ 22 (rw w at (runs_numbered es vs 0 0)) in
      let m = runs_named t vs (length t / 12) 0 b.0 b.1 in
      rw (runs_told n, b.1)
      (record {
        below = omega (arith, m.below);
        rule_is = m.rule_is;
        from = m.from;
        to = m.to;
        outside = m.outside;
        own_before = m.own_before;
        before = λ k i h c. m.before k i (omega arith) h c;
      })

  -- nothing is at fault: all is 0
  pub fine_named : values_ok t vs ≡ true → table_check_of t vs ≡ record { number = 0; rule = 0; «record» = 0; place = 0 }
  unfolding table_check_of entries
  fine_named v =
      let c = eqb (counts_of es) (length vs) in
      let n = eqb-true (counts_of es) (length vs) (and_left c (runs_ok es vs 0) v) in
      let w = and_right c (runs_ok es vs 0) v in
      ap tells (runs_told n ∙ numbered_ok _ 22 (rw w at (runs_numbered es vs 0 0)))
