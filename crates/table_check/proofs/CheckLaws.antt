-- How the code goes through table and values. Assumes nothing.
use Prim.Native.Nat.{ℕ, zero, suc, ◌+◌, ◌-◌, ◌*◌, ◌/◌, ◌%◌, ◌<◌, ◌≤◌}
use mathlib.Core.Path.{◌≡◌, refl, ap, ◌∙◌}
use mathlib.Core.List.{List, [], ◌∷◌}
use mathlib.Core.Bool.{Bool, true, false, not, cond, ◌&&◌}
use native.Mathlib.Omega.{arith}
use borrow.Author.Tests.{lt-ltb, le-ltb, eq-eqb, ne_eqb, ltb-false, eqb-true, not-false}
use lib.Dec.{ltb, eqb, lit≤}
use lib.ListN.{length, get_or}
use Rattle.std.specs.Prelude.{Option, Some, None, is_none, Ok, Err}
use Rattle.rows.specs.Rows.{first_of}
use Rattle.rows.proofs.RowsLaws.{row_passed}
use Rattle.entry.specs.declared.Entry.{Entry}
use Rattle.entry.specs.Fields.{count_of}
use Rattle.limits.specs.Limits.{fits_in, at_most, is_within}
use Rattle.table.specs.Records.{entries_from, entries, counts_of}
use Rattle.table.proofs.RecordsLaws.{entry_part, entries_step, entries_end, counts_none, counts_more, count_at_le}
use Rattle.table_check.specs.declared.Rule.{Rule}
use Rattle.table_check.specs.declared.Rule.TheVariants.{PartRecord, ManyRecords, NumberOrder, HighNumber, ManyElements, SpareBit, UpperHalf, LimitOrder, ManyPlaces, ValueCount, OutsideLimits}
use Rattle.table_check.specs.declared.TableCheck.{TableCheck}
use Rattle.table_check.specs.declared.Records.{Records}
use Rattle.table_check.specs.Checks.{told, tells, Checked, or_else, record_rule, length_check, records_check, run_check, runs_check, values_check, end_of, content_check, table_check_of}

-- the places of a record
pub count_few : (e : Entry) (m : ℕ) → 1 ≤ m → e.elements ≤ m → count_of e ≤ m
unfolding count_of
count_few e m o h = go (eqb e.elements 0) refl
  where
    go : (b : Bool) → eqb e.elements 0 ≡ b → cond b 1 e.elements ≤ m
    go true q = o
    go false q = h

pub count_254 : (e : Entry) → e.elements ≤ 254 → count_of e ≤ 254
count_254 e h = count_few e 254 (lit≤ tt) h

-- the facts of a record that keeps its rules, where `least` is the least number that may stand there and `place` its first place
pub record Keeps (least place : ℕ) (e : Entry) : Type 0 where
  pub rising : least ≤ e.number
  pub low : e.number ≤ 31999
  pub few : e.elements ≤ 254
  pub spare_none : e.spare ≡ 0
  pub limits_fit : (fits_in e.double e.minimum && fits_in e.double e.maximum) ≡ true
  pub ordered : at_most e.double e.signed e.minimum e.maximum ≡ true
  pub places : place + count_of e ≤ 4096

pub kept_keeps : (least place : ℕ) (e : Entry) → record_rule least place e ≡ None → Keeps least place e
unfolding record_rule
kept_keeps least place e h =
    let g = row_passed {A = Option Rule} is_none in
    let p1 = g (ltb e.number least) (Some NumberOrder) _ refl (ap is_none h) in
    let p2 = g (ltb 31999 e.number) (Some HighNumber) _ refl p1.1 in
    let p3 = g (ltb 254 e.elements) (Some ManyElements) _ refl p2.1 in
    let p4 = g (not (eqb e.spare 0)) (Some SpareBit) _ refl p3.1 in
    let p5 = g (not (fits_in e.double e.minimum && fits_in e.double e.maximum)) (Some UpperHalf) _ refl p4.1 in
    let p6 = g (not (at_most e.double e.signed e.minimum e.maximum)) (Some LimitOrder) _ refl p5.1 in
    let p7 = g (ltb 4096 (place + count_of e)) (Some ManyPlaces) None refl p6.1 in
    record {
      rising = ltb-false e.number least p1.0;
      low = ltb-false 31999 e.number p2.0;
      few = ltb-false 254 e.elements p3.0;
      spare_none = eqb-true e.spare 0 (not-false _ p4.0);
      limits_fit = not-false _ p5.0;
      ordered = not-false _ p6.0;
      places = ltb-false 4096 (place + count_of e) p7.0;
    }

-- records
module _ (e : Entry) (es : List Entry) (k least place : ℕ) where
  pub records_broken : (r : Rule) → record_rule least place e ≡ Some r → records_check (e ∷ es) k least place ≡ Err (told r k 0)
  unfolding records_check
  records_broken r h = rw h

  pub records_on : record_rule least place e ≡ None → records_check (e ∷ es) k least place ≡ records_check es (k + 1) (e.number + 1) (place + count_of e)
  unfolding records_check
  records_on h =
      let s : k + 1 ≡ suc k = omega arith in
      rw (h, s)

pub records_end : (k least place : ℕ) → records_check [] k least place ≡ Ok tt
unfolding records_check
records_end k least place = refl

-- values of a record
module _ (e : Entry) (vs : List ℕ) (n k place i : ℕ) where
  pub run_outside : i < n → is_within e (get_or vs (place + i) 0) ≡ false → run_check e vs (n - i) k (place + i) ≡ Err (told OutsideLimits k (place + i))
  unfolding run_check
  run_outside h w =
      let z : n - i ≡ suc (n - (i + 1)) = omega arith in
      rw (z, w)

  pub run_on : i < n → is_within e (get_or vs (place + i) 0) ≡ true → run_check e vs (n - i) k (place + i) ≡ run_check e vs (n - (i + 1)) k (place + (i + 1))
  unfolding run_check
  run_on h w =
      let z : n - i ≡ suc (n - (i + 1)) = omega arith in
      let y : place + (i + 1) ≡ suc (place + i) = omega arith in
      rw (z, y, w)

  pub run_end : n ≤ i → run_check e vs (n - i) k (place + i) ≡ Ok tt
  unfolding run_check
  run_end h =
      let z : n - i ≡ 0 = omega arith in
      rw z

-- values of records
module _ (e : Entry) (es : List Entry) (vs : List ℕ) (k place : ℕ) where
  pub runs_outside : (r : TableCheck) → run_check e vs (count_of e) k place ≡ Err r → runs_check (e ∷ es) vs k place ≡ Err r
  unfolding runs_check
  runs_outside r h = rw h

  pub runs_on : run_check e vs (count_of e) k place ≡ Ok tt → runs_check (e ∷ es) vs k place ≡ runs_check es vs (k + 1) (place + count_of e)
  unfolding runs_check
  runs_on h =
      let s : k + 1 ≡ suc k = omega arith in
      rw (h, s)

pub runs_end : (vs : List ℕ) (k place : ℕ) → runs_check [] vs k place ≡ Ok tt
unfolding runs_check
runs_end vs k place = refl

-- ---- table and values

pub counts_most : (t : List ℕ) (n j : ℕ) → counts_of (entries_from t n j) ≤ 255 * n
unfolding counts_of entries_from
counts_most t zero j = lit≤ tt
counts_most t (suc n) j = omega (arith, count_at_le t j, counts_most t n (suc j))

-- the length
module _ (t : List ℕ) where
  pub length_part : (length t % 12 ≡ 0 → ⊥) → length_check t ≡ Err (told PartRecord (end_of (length t / 12)) 0)
  unfolding length_check
  length_part h = rw (ne_eqb (length t % 12) 0 h)

  pub length_many : length t % 12 ≡ 0 → 512 < length t / 12 → length_check t ≡ Err (told ManyRecords 512 0)
  unfolding length_check
  length_many w h = rw (eq-eqb (length t % 12) 0 w, lt-ltb 512 (length t / 12) h)

  pub length_kept : length t % 12 ≡ 0 → length t / 12 ≤ 512 → length_check t ≡ Ok tt
  unfolding length_check
  length_kept w h = rw (eq-eqb (length t % 12) 0 w, le-ltb 512 (length t / 12) h)

  pub entries_whole : (n : ℕ) → length t ≡ 12 * n → entries t ≡ entries_from t n 0
  unfolding entries
  entries_whole n w =
      let z : length t / 12 ≡ n = omega (arith, w) in
      rw z

module _ (t vs : List ℕ) where
  pub content_length : (r : TableCheck) → length_check t ≡ Err r → content_check t vs ≡ Err r
  unfolding content_check
  content_length r h = rw h

  pub content_part : (length t % 12 ≡ 0 → ⊥) → content_check t vs ≡ Err (told PartRecord (end_of (length t / 12)) 0)
  content_part h = content_length _ (length_part t h)

  pub content_many : length t % 12 ≡ 0 → 512 < length t / 12 → content_check t vs ≡ Err (told ManyRecords 512 0)
  content_many w h = content_length _ (length_many t w h)

  pub check_part : (length t % 12 ≡ 0 → ⊥) → table_check_of t vs ≡ told PartRecord (end_of (length t / 12)) 0
  unfolding table_check_of
  check_part h = ap tells (content_part h)

  pub check_many : length t % 12 ≡ 0 → 512 < length t / 12 → table_check_of t vs ≡ told ManyRecords 512 0
  unfolding table_check_of
  check_many w h = ap tells (content_many w h)

  -- behind the length
  module _ (whole : length t % 12 ≡ 0) (short : length t / 12 ≤ 512) where
    abbrev es : List Entry
    es = entries_from t (length t / 12) 0

    abbrev values_part : Checked
    values_part =
        first_of
        ((not (eqb (counts_of es) (length vs)), Err (told ValueCount (length t / 12) (counts_of es))) ∷ [])
        (runs_check es vs 0 0)

    behind : content_check t vs ≡ or_else (records_check es 0 0 0) values_part
    unfolding content_check values_check entries
    behind = rw (length_kept t whole short)

    pub content_records : (r : TableCheck) → records_check es 0 0 0 ≡ Err r → content_check t vs ≡ Err r
    content_records r h = behind ∙ rw h

    pub content_count : records_check es 0 0 0 ≡ Ok tt → (counts_of es ≡ length vs → ⊥)
        → content_check t vs ≡ Err (told ValueCount (length t / 12) (counts_of es))
    content_count h n = behind ∙ rw (h, ne_eqb (counts_of es) (length vs) n)

    pub content_runs : records_check es 0 0 0 ≡ Ok tt → counts_of es ≡ length vs → content_check t vs ≡ runs_check es vs 0 0
    content_runs h n = behind ∙ rw (h, eq-eqb (counts_of es) (length vs) n)

-- ---- for the code

-- behind the length
module _ (r : Records) where
  abbrev t : List ℕ
  t = r.bytes.now

  pub few_places : counts_of (entries t) ≤ 130560
  few_places = rw (entries_whole t r.count r.whole.0) (omega (arith, r.whole.1, counts_most t r.count 0))

  module _ (vs : List ℕ) where
    kept : length_check t ≡ Ok tt
    kept = length_kept t (omega (arith, r.whole.0)) (omega (arith, r.whole.0, r.whole.1))

    pub records_told : (c : TableCheck) → records_check (entries t) 0 0 0 ≡ Err c → content_check t vs ≡ Err c
    unfolding content_check
    records_told c h = rw (kept, h)

    pub values_told : records_check (entries t) 0 0 0 ≡ Ok tt → content_check t vs ≡ values_check t vs
    unfolding content_check
    values_told h = rw (kept, h)

    pub values_count : (counts_of (entries t) ≡ length vs → ⊥) → values_check t vs ≡ Err (told ValueCount r.count (counts_of (entries t)))
    unfolding values_check
    values_count n =
        let z : length t / 12 ≡ r.count = omega (arith, r.whole.0) in
        rw (z, ne_eqb (counts_of (entries t)) (length vs) n)

pub values_runs : (t vs : List ℕ) → counts_of (entries t) ≡ length vs → values_check t vs ≡ runs_check (entries t) vs 0 0
unfolding values_check
values_runs t vs h = rw (eq-eqb (counts_of (entries t)) (length vs) h)

-- from record to record, and their places
pub ruleset records = (entries_whole, entry_part, entries_step, entries_end, counts_none, counts_more, count_at_le)

-- the rules of each record
pub ruleset rules_told = (kept_keeps, records_broken, records_on, records_end)

-- the values of one record, and of each record
pub ruleset run_told = (run_outside, run_on, run_end)

pub ruleset runs_told = (few_places, values_count, values_runs, runs_outside, runs_on, runs_end)

-- the length
pub ruleset length_told = (length_part, length_many)

-- all of it
pub ruleset content_told = (content_length, records_told, values_told)
