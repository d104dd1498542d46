-- The passes over table and values, as the code goes. Assumes nothing.
use Prim.Native.Nat.{ℕ, zero, suc, ◌+◌, ◌-◌, ◌*◌, ◌/◌, ◌%◌, ◌<◌, ◌≤◌}
use mathlib.Core.Path.{◌≡◌, refl, ◌∙◌}
use mathlib.Core.List.{List, [], ◌∷◌}
use mathlib.Core.Bool.{Bool, true, false, ◌&&◌, and-true, and-false}
use native.Mathlib.Omega.{arith}
use native.Mathlib.Nat.{add-zero, zero-add, sub-zero, zero-div}
use borrow.Author.Tests.{le-leb, lt-leb, leb-true, leb-false, eq-eqb, ne_eqb, eqb-true}
use lib.ListN.{length, take, drop}
use lib.Dec.{eqb, leb}
use Rattle.entry.specs.declared.Entry.{Entry}
use Rattle.entry.specs.Fields.{entry_of, count_of}
use Rattle.limits.specs.Limits.{entry_ok}
use Rattle.table.specs.declared.Record.{Record}
use Rattle.table.specs.Records.{record_of, entries, entries_from, counts_of}
use Rattle.table.proofs.RecordsLaws.{entries_step, entries_end, entry_part}
use Rattle.opening.specs.Rules.{rising_from, each_ok, run_ok, runs_ok, table_ok, values_ok}
use Rattle.opening.proofs.RecordLaws.{plain_ok, entry_plain, fine_of}

-- of the records that are left, the least number that may follow, and the next place
abbrev pub ruled_from : List Entry → ℕ → ℕ → Bool
ruled_from es least place = rising_from least es && each_ok es && leb (place + counts_of es) 4096

abbrev good_from : List ℕ → List Entry → ℕ → ℕ → Bool
good_from vs es least place = ruled_from es least place && (eqb (place + counts_of es) (length vs) && runs_ok es vs place)

-- the pass leaves 31999 to the last number
abbrev pub pass_from : List ℕ → List Entry → ℕ → ℕ → Bool
pass_from vs es least place = leb least 32000 && good_from vs es least place

rule_tests : (p q a b d : Bool) → ((p && a) && (q && b) && d) ≡ (p && q && (a && b && d))
rule_tests false q a b d = refl
rule_tests true false false b d = refl
rule_tests true false true b d = refl
rule_tests true true a b d = refl

-- the values of a record are there where the count is right
value_tests : (t q g f r s : Bool) → (q ≡ true → f ≡ true) → (t && g && (q && (r && s))) ≡ (t && f && r && (g && (q && s)))
value_tests false q g f r s h = refl
value_tests true true false f true s h = rw (h refl)
value_tests true true false f false s h = rw (h refl)
value_tests true true true f r s h = rw (h refl)
value_tests true false g false r s h = simp and-false
value_tests true false g true false s h = simp and-false
value_tests true false g true true s h = simp and-false

regroup : (m p f r g : Bool) → (m && p && f && r && g) ≡ (m && (p && f && r) && g)
regroup false p f r g = refl
regroup true p f r g = refl

regroup_two : (a b c : Bool) → (a && (b && c)) ≡ (a && b && c)
regroup_two false b c = refl
regroup_two true b c = refl

module _ (e : Entry) (es : List Entry) (least place : ℕ) where
  rule_step : ruled_from (e ∷ es) least place ≡ (leb least e.number && entry_ok e && ruled_from es (e.number + 1) (place + count_of e))
  unfolding rising_from each_ok counts_of
  rule_step =
      let z : place + (count_of e + counts_of es) ≡ place + count_of e + counts_of es = omega arith in
      rw z (rule_tests (leb least e.number) (entry_ok e) (rising_from (e.number + 1) es) (each_ok es) (leb (place + count_of e + counts_of es) 4096))

  pub rule_low : e.number < least → ruled_from (e ∷ es) least place ≡ false
  rule_low h = rule_step ∙ simp (lt-leb _ _ h)

  pub rule_broken : entry_ok e ≡ false → ruled_from (e ∷ es) least place ≡ false
  rule_broken o = rule_step ∙ simp (o, and-false)

  pub rule_on : least ≤ e.number → entry_ok e ≡ true → ruled_from (e ∷ es) least place ≡ ruled_from es (e.number + 1) (place + count_of e)
  rule_on h o = rule_step ∙ simp (le-leb _ _ h, o)

  -- the record, its values, and what is left
  good_step : (vs : List ℕ) → least ≤ e.number → good_from vs (e ∷ es) least place
      ≡ (leb e.number 31999 && fine_of e vs place && good_from vs es (e.number + 1) (place + count_of e))
  unfolding counts_of runs_ok
  good_step vs h =
      let c = place + count_of e in
      let k = counts_of es in
      let l = length vs in
      let z : place + (count_of e + k) ≡ c + k = omega arith in
      let there : eqb (c + k) l ≡ true → leb c l ≡ true = λ q. le-leb c l (omega (arith, eqb-true (c + k) l q)) in
      rw (rule_step, le-leb least e.number h, z)
      (value_tests (entry_ok e) (eqb (c + k) l) (ruled_from es (e.number + 1) c) (leb c l) (run_ok e vs (count_of e) place) (runs_ok es vs c) there
      ∙ rw (entry_plain e)
      (regroup (leb e.number 31999) (plain_ok e) (leb c l) (run_ok e vs (count_of e) place) (good_from vs es (e.number + 1) c)))

  pub pass_low : (vs : List ℕ) → e.number < least → pass_from vs (e ∷ es) least place ≡ false
  pass_low vs h = rw (rule_low h, and-false (leb least 32000))

  -- the record and its values, and the pass over what is left
  pub pass_step : (vs : List ℕ) → least ≤ e.number
      → pass_from vs (e ∷ es) least place ≡ (fine_of e vs place && pass_from vs es (e.number + 1) (place + count_of e))
  pass_step vs h = rw (good_step vs h) (go (leb e.number 31999) refl)
    where
      rest : Bool
      rest = good_from vs es (e.number + 1) (place + count_of e)

      go : (b : Bool) → leb e.number 31999 ≡ b → (leb least 32000 && (b && fine_of e vs place && rest)) ≡ (fine_of e vs place && (leb (e.number + 1) 32000 && rest))
      go true p = let n = leb-true e.number 31999 p in rw (le-leb least 32000 (omega arith), le-leb (e.number + 1) 32000 (omega arith))
      go false p = let n = leb-false e.number 31999 p in rw (lt-leb (e.number + 1) 32000 (omega arith), and-false (leb least 32000), and-false (fine_of e vs place))

-- no record is left
module _ (least place : ℕ) where
  pub rule_end : ruled_from [] least place ≡ leb place 4096
  unfolding rising_from each_ok counts_of
  rule_end = simp add-zero

  pub pass_end : (vs : List ℕ) → pass_from vs [] least place ≡ (leb least 32000 && leb place 4096 && eqb place (length vs))
  unfolding counts_of runs_ok
  pass_end vs = rw (rule_end, add-zero, and-true (eqb place (length vs))) (regroup_two (leb least 32000) (leb place 4096) (eqb place (length vs)))

-- a record that was read, as an entry; its number is in its head
abbrev pub entry_in : Record → Entry
entry_in r = entry_of r.head r.minimum r.maximum

pub number_in : (r : Record) → (entry_in r).number ≡ r.head / 131072
unfolding entry_of
number_in r = refl

-- all records of a table of n whole ones
pub rule_all : (t : List ℕ) (n : ℕ) → length t ≡ 12 * n → n ≤ 512 → table_ok t ≡ ruled_from (entries_from t n 0) 0 0
unfolding entries
rule_all t n whole few =
    let count : length t / 12 ≡ n = omega arith in
    rw (eq-eqb (length t % 12) 0 (omega arith), le-leb (length t / 12) 512 (omega arith), count, zero-add)

-- the records of a table from a byte place on
abbrev pub entries_at : List ℕ → ℕ → List Entry
entries_at t at = entries_from t (length t / 12 - at / 12) (at / 12)

pub none_test : (n : ℕ) → eqb 0 n ≡ eqb n 0
none_test zero = refl
none_test (suc n) = rw (ne_eqb 0 (suc n) (λ h. omega arith), ne_eqb (suc n) 0 (λ h. omega arith)) refl

whole_first : (w r o n q v : Bool) → ((w && true && r && o && n) && (q && v)) ≡ (w && ((r && o && n) && (q && v)))
whole_first false r o n q v = refl
whole_first true r o n q v = refl

module _ (t : List ℕ) where
  -- the bytes behind the last whole record are asked for apart
  pub pass_all : (vs : List ℕ) → length t ≤ 6144 → (table_ok t && values_ok t vs) ≡ (eqb (length t % 12) 0 && pass_from vs (entries_at t 0) 0 0)
  unfolding entries
  pass_all vs few =
      let es = entries_from t (length t / 12) 0 in
      rw (le-leb (length t / 12) 512 (omega arith), zero-div, sub-zero, zero-add)
      (whole_first (eqb (length t % 12) 0) (rising_from 0 es) (each_ok es) (leb (counts_of es) 4096) (eqb (counts_of es) (length vs)) (runs_ok es vs 0))

  -- no whole record
  pub pass_none : (vs : List ℕ) → length t < 12 → (table_ok t && values_ok t vs) ≡ (eqb (length t) 0 && eqb (length vs) 0)
  pass_none vs few =
      let none : entries_at t 0 ≡ [] = entries_end t (length t / 12) (0 / 12) (omega arith) in
      let short : length t % 12 ≡ length t = omega arith in
      pass_all vs (omega arith) ∙ rw (none, pass_end 0 0 vs, short, none_test (length vs)) refl

  pub pass_whole : (vs : List ℕ) (n : ℕ) → length t ≡ 12 * n → n ≤ 512 → (table_ok t && values_ok t vs) ≡ pass_from vs (entries_from t n 0) 0 0
  unfolding entries
  pass_whole vs n whole few =
      let count : length t / 12 ≡ n = omega arith in
      rw (rule_all t n whole few, count, zero-add)

  pub at_end : (at : ℕ) → at % 12 ≡ 0 → length t < at + 12 → entries_at t at ≡ []
  at_end at here h = entries_end t (length t / 12) (at / 12) (omega arith)

  -- the first is the one that was read there
  pub at_step : (at m : ℕ) (r : Record) → at % 12 ≡ 0 → at + 12 ≤ length t → m ≡ 12 → r ≡ record_of (take m (drop at t))
      → entries_at t at ≡ entry_of r.head r.minimum r.maximum ∷ entries_at t (at + 12)
  at_step at m r here there twelve q =
      let place : 12 * (at / 12) ≡ at = omega arith in
      let more : (at + 12) / 12 ≡ at / 12 + 1 = omega arith in
      let e = rw place at (entry_part t (at / 12) m (omega arith) twelve) in
      entries_step t (length t / 12) (at / 12) (omega arith) ∙ rw (q, more, e)
