-- What a passing opening check tells of a record that a search found: what a slave needs before it acts. Assumes nothing.
use Prim.Native.Nat.{ℕ, zero, suc, ◌+◌, ◌/◌, ◌<◌, ◌≤◌}
use mathlib.Core.Path.{◌≡◌, refl, ◌∙◌}
use mathlib.Core.List.{List}
use mathlib.Core.Bool.{true}
use native.Mathlib.Omega.{arith}
use native.Mathlib.Nat.{add-zero, zero-add}
use native.Mathlib.Numerals.{add-one}
use borrow.Author.Tests.{leb-true}
use lib.Dec.{leb}
use lib.ListN.{length, get_or}
use Rattle.std.specs.Prelude.{Some}
use Rattle.rows.proofs.BoolLaws.{and_left, and_right}
use Rattle.entry.specs.Fields.{count_of}
use Rattle.limits.specs.Limits.{is_within, entry_ok}
use Rattle.entry.specs.declared.Entry.{Entry}
use Rattle.table.specs.Records.{entry_at, entries_from, entries, find_from, find_in, counts_of, first_place}
use Rattle.table.proofs.RecordsLaws.{found_below, find_here, find_on}
use Rattle.opening.specs.Rules.{rising_from, each_ok, run_ok, runs_ok}
use Rattle.opening.specs.Lent.{Lent}
use Rattle.opening.specs.Answers.{opening_of, passed}
use Rattle.opening.proofs.AnswersLaws.{passed_opened}
use Rattle.opening.proofs.KeptLaws.{place_below}

-- the m-th of records that each keep their rules
each_at : (t : List ℕ) (n j m : ℕ) → each_ok (entries_from t n j) ≡ true → m < n → entry_ok (entry_at t (j + m)) ≡ true
unfolding each_ok entries_from
each_at t zero j m h b = absurd (omega arith)
each_at t (suc n) j zero h b = rw add-zero (and_left (entry_ok (entry_at t j)) (each_ok (entries_from t n (suc j))) h)
each_at t (suc n) j (suc m) h b =
    let s : j + suc m ≡ suc j + m = omega arith in
    rw s (each_at t n (suc j) m (and_right (entry_ok (entry_at t j)) (each_ok (entries_from t n (suc j))) h) (omega arith))

-- the i-th of values that are within one record's limits
run_at : (e : Entry) (vs : List ℕ) (n p i : ℕ) → run_ok e vs n p ≡ true → i < n → is_within e (get_or vs (p + i) 0) ≡ true
unfolding run_ok
run_at e vs zero p i h b = absurd (omega arith)
run_at e vs (suc n) p zero h b = rw add-zero (and_left (is_within e (get_or vs p 0)) (run_ok e vs n (suc p)) h)
run_at e vs (suc n) p (suc i) h b =
    let s : p + suc i ≡ suc p + i = omega arith in
    rw s (run_at e vs n (suc p) i (and_right (is_within e (get_or vs p 0)) (run_ok e vs n (suc p)) h) (omega arith))

-- the i-th value of the m-th record
runs_at : (t vs : List ℕ) (m n j p i : ℕ) → runs_ok (entries_from t n j) vs p ≡ true → m < n → i < count_of (entry_at t (j + m))
    → is_within (entry_at t (j + m)) (get_or vs (p + counts_of (entries_from t m j) + i) 0) ≡ true
unfolding runs_ok entries_from counts_of
runs_at t vs m zero j p i h a b = absurd (omega arith)
runs_at t vs zero (suc n) j p i h a b =
    let e = entry_at t j in
    simp add-zero (run_at e vs (count_of e) p i (and_left (run_ok e vs (count_of e) p) (runs_ok (entries_from t n (suc j)) vs (p + count_of e)) h) (rw add-zero at b))
runs_at t vs (suc m) (suc n) j p i h a b =
    let s : j + suc m ≡ suc j + m = omega arith in
    let e = entry_at t j in
    let r = entries_from t m (suc j) in
    let z : p + (count_of e + counts_of r) + i ≡ p + count_of e + counts_of r + i = omega arith in
    rw (s, z) (runs_at t vs m n (suc j) (p + count_of e) i (and_right (run_ok e vs (count_of e) p) (runs_ok (entries_from t n (suc j)) vs (p + count_of e)) h) (omega arith) (rw s at b))

-- the facts of a record of a table that passed
pub record InTable (l : Lent) (k : ℕ) : Type 0 where
  pub below : k < length l.table / 12
  pub few : k < 512
  pub ok : entry_ok (entry_at l.table k) ≡ true
  pub place : (i : ℕ) → i < count_of (entry_at l.table k) → first_place l.table k + i < length l.memory.values
  pub value : (i : ℕ) → i < count_of (entry_at l.table k) → is_within (entry_at l.table k) (get_or l.memory.values (first_place l.table k + i) 0) ≡ true

pub passed_in_table : (l : Lent) (k : ℕ) → opening_of l ≡ passed → k < length l.table / 12 → InTable l k
unfolding entries
passed_in_table l k e b =
    let t = l.table in
    let vs = l.memory.values in
    let o = passed_opened l e in
    let n = length t / 12 in
    let z : 0 + k ≡ k = omega arith in
    record {
      below = b;
      few = omega arith;
      ok = rw z at (each_at t n 0 k o.ruled b);
      place = λ i h. place_below t vs k i b h o.count;
      value = λ i h. simp zero-add at (runs_at t vs k n 0 0 i o.limits b (rw z h));
    }

-- of a record that was found by its number
pub found_in_table : (l : Lent) (number k : ℕ) → opening_of l ≡ passed → find_in l.table number ≡ Some k → InTable l k
unfolding entries
found_in_table l number k e f =
    let b = found_below number l.table (length l.table / 12) 0 k f in
    passed_in_table l k e (omega arith)

pub found_number : (t : List ℕ) (number k : ℕ) → find_in t number ≡ Some k → (entry_at t k).number ≡ number
unfolding entries
found_number t number k f = (found_below number t (length t / 12) 0 k f).is

-- numbers rise, so no number is under the least that may come
rising_least : (t : List ℕ) (n j m least : ℕ) → rising_from least (entries_from t n j) ≡ true → m < n → least ≤ (entry_at t (j + m)).number
unfolding rising_from entries_from
rising_least t zero j m least h b = absurd (omega arith)
rising_least t (suc n) j zero least h b =
    let e = (entry_at t j).number in
    let l = leb-true least e (and_left (leb least e) (rising_from (e + 1) (entries_from t n (suc j))) h) in
    rw add-zero l
rising_least t (suc n) j (suc m) least h b =
    let e = (entry_at t j).number in
    let p = leb least e in
    let q = rising_from (e + 1) (entries_from t n (suc j)) in
    let l = leb-true least e (and_left p q h) in
    let s : j + suc m ≡ suc j + m = omega arith in
    let r = rising_least t n (suc j) m (e + 1) (and_right p q h) (omega arith) in
    rw s (omega arith)

-- and the search finds each by its number
find_rising : (t : List ℕ) (n j m least : ℕ) → rising_from least (entries_from t n j) ≡ true → m < n
    → find_from (entry_at t (j + m)).number (entries_from t n j) j ≡ Some (j + m)
unfolding rising_from entries_from
find_rising t zero j m least h b = absurd (omega arith)
find_rising t (suc n) j zero least h b = simp add-zero (find_here (entry_at t j).number (entry_at t j) (entries_from t n (suc j)) j refl)
find_rising t (suc n) j (suc m) least h b =
    let e = (entry_at t j).number in
    let q = and_right (leb least e) (rising_from (e + 1) (entries_from t n (suc j))) h in
    let s : j + suc m ≡ suc j + m = omega arith in
    let r = rising_least t n (suc j) m (e + 1) q (omega arith) in
    let on = find_on (entry_at t (suc j + m)).number (entry_at t j) (entries_from t n (suc j)) j (λ x. omega arith) in
    rw s (on ∙ rw add-one (find_rising t n (suc j) m (e + 1) q (omega arith)))

-- of a table that passed, each record is found by its number
pub record_found : (l : Lent) (k : ℕ) → opening_of l ≡ passed → k < length l.table / 12 → find_in l.table (entry_at l.table k).number ≡ Some k
unfolding entries
record_found l k e b = simp zero-add at (find_rising l.table (length l.table / 12) 0 k 0 (passed_opened l e).rising b)
