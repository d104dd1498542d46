-- The number of a check is exactly the opening check's: 21 where the table breaks a rule, 22 where only its values do, else 0. Assumes
-- nothing.
use Prim.Native.Nat.{ℕ, zero, suc, ◌+◌, ◌/◌, ◌%◌, ◌<◌, ◌≤◌}
use mathlib.Core.Path.{◌≡◌, refl, sym, ap, ◌∙◌}
use mathlib.Core.Logic.{◌↔◌}
use mathlib.Core.List.{List, [], ◌∷◌}
use mathlib.Core.Bool.{Bool, true, false, not, cond, ◌&&◌, and-false, false≢true}
use native.Mathlib.Omega.{arith}
use borrow.Author.Tests.{le-leb, lt-leb, leb-true, leb-false, eqb-true, eqb-false, ltb-true, ltb-false}
use lib.Dec.{ltb, leb, eqb, lit≤}
use lib.ListN.{length, get_or}
use Rattle.std.specs.Prelude.{Option, Some, None, is_none, IfSome, is_ok, Ok, Err}
use Rattle.rows.specs.Rows.{first_of}
use Rattle.rows.proofs.RowsLaws.{first_all}
use Rattle.rows.proofs.BoolLaws.{and_left, and_right, leb_not_ltb}
use Rattle.entry.specs.declared.Entry.{Entry}
use Rattle.entry.specs.Fields.{count_of}
use Rattle.limits.specs.Limits.{fits_in, at_most, is_within, entry_ok}
use Rattle.table.specs.Records.{entries_from, entries, counts_of}
use Rattle.opening.specs.Rules.{rising_from, each_ok, run_ok, runs_ok, table_ok, values_ok}
use Rattle.opening.specs.Answers.{opened_number, content_of}
use Rattle.opening.proofs.PassLaws.{ruled_from, rule_low, rule_broken, rule_on, rule_end, rule_all}
use Rattle.opening.proofs.ContentLaws.{content_passed, content_values, content_table, part_table, long_table}
use Rattle.table_check.specs.declared.Rule.{Rule}
use Rattle.table_check.specs.declared.Rule.TheVariants.{NumberOrder, HighNumber, ManyElements, SpareBit, UpperHalf, LimitOrder, ManyPlaces, OutsideLimits}
use Rattle.table_check.specs.declared.TableCheck.{TableCheck}
use Rattle.table_check.specs.declared.Records.{Records}
use Rattle.table_check.specs.Checks.{told, tells, Checked, rule_rows, record_rule, length_check, records_check, run_check, runs_check, content_check, table_check_of}
use Rattle.table_check.specs.RuleNumbers.{rule_answer}
use Rattle.table_check.proofs.CheckLaws.{records_broken, records_on, records_end, runs_outside, runs_on, runs_end, length_kept, content_part, content_many, content_records, content_count, content_runs}

-- ---- a check's result beside a test

-- nothing is broken where the test holds, and else the answer's number is n
abbrev pub Numbered : Checked → Bool → ℕ → Type 0
Numbered (Ok done) b n = b ≡ true
Numbered (Err r) b n = (b ≡ false) × (r.number ≡ n)

pub numbered_test : (c : Checked) (b : Bool) (n : ℕ) → Numbered c b n → is_ok c ≡ b
numbered_test (Ok done) b n h = sym h
numbered_test (Err r) b n h = sym h.0

pub numbered_ok : (c : Checked) (n : ℕ) → Numbered c true n → c ≡ Ok tt
numbered_ok (Ok done) n h = refl
numbered_ok (Err r) n h = absurd (false≢true (sym h.0))

pub numbered_err : (c : Checked) (n : ℕ) → Numbered c false n → (r : TableCheck) × (c ≡ Err r) × (r.number ≡ n)
numbered_err (Ok done) n h = absurd (false≢true h)
numbered_err (Err r) n h = (r, refl, h.1)

pub numbered_number : (c : Checked) (b : Bool) (n : ℕ) → Numbered c b n → (tells c).number ≡ cond b 0 n
numbered_number (Ok done) b n h = rw h
numbered_number (Err r) b n h = rw h.0 h.1

-- ---- a record

seven_tests : (a b c d f g h : Bool)
    → is_none (first_of ((a, Some NumberOrder) ∷ (b, Some HighNumber) ∷ (c, Some ManyElements) ∷ (not d, Some SpareBit) ∷ (not f, Some UpperHalf) ∷ (not g, Some LimitOrder) ∷ (h, Some ManyPlaces) ∷ []) None)
    ≡ (not a && (not b && not c && d && (f && g)) && not h)
seven_tests true b c d f g h = refl
seven_tests false true c d f g h = refl
seven_tests false false true d f g h = refl
seven_tests false false false false f g h = refl
seven_tests false false false true false g h = refl
seven_tests false false false true true false h = refl
seven_tests false false false true true true true = refl
seven_tests false false false true true true false = refl

-- it keeps its rules exactly where the opening check finds it in order, and the places so far are not over 4096
pub rule_kept : (least place : ℕ) (e : Entry) → is_none (record_rule least place e) ≡ (leb least e.number && entry_ok e && leb (place + count_of e) 4096)
unfolding record_rule entry_ok
rule_kept least place e =
    rw (leb_not_ltb least e.number, leb_not_ltb e.number 31999, leb_not_ltb e.elements 254, leb_not_ltb (place + count_of e) 4096)
    (seven_tests (ltb e.number least) (ltb 31999 e.number) (ltb 254 e.elements) (eqb e.spare 0)
    (fits_in e.double e.minimum && fits_in e.double e.maximum) (at_most e.double e.signed e.minimum e.maximum) (ltb 4096 (place + count_of e)))

-- each of its rules is the table's
rule_answer_lem : (least place : ℕ) (e : Entry) → IfSome (record_rule least place e) (λ r. rule_answer r ≡ 21)
unfolding record_rule
rule_answer_lem least place e =
    first_all (λ (o : Option Rule). IfSome o (λ r. rule_answer r ≡ 21)) (rule_rows least place e) None
    (refl, (refl, (refl, (refl, (refl, (refl, (refl, tt))))))) tt

-- ---- the records

module _ (e : Entry) (es : List Entry) (least place : ℕ) where
  -- places over 4096 stay over it
  over : 4096 < place + count_of e → ruled_from es (e.number + 1) (place + count_of e) ≡ false
  over h = rw (lt-leb (place + count_of e + counts_of es) 4096 (omega arith), and-false (rising_from (e.number + 1) es && each_ok es))

  unruled : (leb least e.number && entry_ok e && leb (place + count_of e) 4096) ≡ false → ruled_from (e ∷ es) least place ≡ false
  unruled = go (leb least e.number) refl (entry_ok e) refl
    where
      go : (a : Bool) → leb least e.number ≡ a → (b : Bool) → entry_ok e ≡ b → (a && b && leb (place + count_of e) 4096) ≡ false → ruled_from (e ∷ es) least place ≡ false
      go false p b q h = rule_low e es least place (leb-false least e.number p)
      go true p false q h = rule_broken e es least place q
      go true p true q h = rule_on e es least place (leb-true least e.number p) q ∙ over (leb-false (place + count_of e) 4096 h)

pub records_numbered : (es : List Entry) (k least place : ℕ) → place ≤ 4096 → Numbered (records_check es k least place) (ruled_from es least place) 21
unfolding told
records_numbered [] k least place h = rw (records_end k least place) (rule_end least place ∙ le-leb place 4096 h)
records_numbered (e ∷ es) k least place h = go (record_rule least place e) refl (records_numbered es (k + 1) (e.number + 1) (place + count_of e))
  where
    go : (o : Option Rule) → record_rule least place e ≡ o
        → (place + count_of e ≤ 4096 → Numbered (records_check es (k + 1) (e.number + 1) (place + count_of e)) (ruled_from es (e.number + 1) (place + count_of e)) 21)
        → Numbered (records_check (e ∷ es) k least place) (ruled_from (e ∷ es) least place) 21
    go None q ih =
        let w = sym (rule_kept least place e) ∙ ap is_none q in
        let a = leb least e.number in
        let m = leb (place + count_of e) 4096 in
        let l = and_left (a && entry_ok e) m w in
        rw (records_on e es k least place q, rule_on e es least place (leb-true least e.number (and_left a (entry_ok e) l)) (and_right a (entry_ok e) l))
        (ih (leb-true (place + count_of e) 4096 (and_right (a && entry_ok e) m w)))
    go (Some r) q ih =
        rw (records_broken e es k least place r q)
        (unruled e es least place (sym (rule_kept least place e) ∙ ap is_none q), rw q at (rule_answer_lem least place e))

-- ---- the values

pub run_numbered : (e : Entry) (vs : List ℕ) (n k place : ℕ) → Numbered (run_check e vs n k place) (run_ok e vs n place) 22
unfolding run_check run_ok told
run_numbered e vs zero k place = refl
run_numbered e vs (suc n) k place = go (is_within e (get_or vs place 0)) (run_numbered e vs n k (suc place))
  where
    go : (b : Bool) → Numbered (run_check e vs n k (suc place)) (run_ok e vs n (suc place)) 22
        → Numbered (cond b (run_check e vs n k (suc place)) (Err (told OutsideLimits k place))) (b && run_ok e vs n (suc place)) 22
    go true ih = ih
    go false ih = (refl, refl)

pub runs_numbered : (es : List Entry) (vs : List ℕ) (k place : ℕ) → Numbered (runs_check es vs k place) (runs_ok es vs place) 22
unfolding runs_ok
runs_numbered [] vs k place = rw (runs_end vs k place) refl
runs_numbered (e ∷ es) vs k place = go (run_check e vs (count_of e) k place) refl (run_numbered e vs (count_of e) k place) (runs_numbered es vs (k + 1) (place + count_of e))
  where
    go : (c : Checked) → run_check e vs (count_of e) k place ≡ c → Numbered c (run_ok e vs (count_of e) place) 22
        → Numbered (runs_check es vs (k + 1) (place + count_of e)) (runs_ok es vs (place + count_of e)) 22
        → Numbered (runs_check (e ∷ es) vs k place) (run_ok e vs (count_of e) place && runs_ok es vs (place + count_of e)) 22
    go (Ok done) q h ih = rw (runs_on e es vs k place q, h) ih
    go (Err r) q h ih = rw (runs_outside e es vs k place r q, h.0) (refl, h.1)

-- ---- table and values

-- the answer number of both
abbrev pub numbered : Bool → Bool → ℕ
numbered table_good values_good = cond table_good (cond values_good 0 22) 21

pub table_records_numbered : (t : List ℕ) → length t % 12 ≡ 0 → length t / 12 ≤ 512 → Numbered (records_check (entries_from t (length t / 12) 0) 0 0 0) (table_ok t) 21
table_records_numbered t whole short = rw (rule_all t (length t / 12) (omega arith) short) (records_numbered (entries_from t (length t / 12) 0) 0 0 0 (lit≤ tt))

pub length_table : (t : List ℕ) (r : TableCheck) → length_check t ≡ Err r → table_ok t ≡ false
length_table t r h = go (eqb (length t % 12) 0) refl (ltb 512 (length t / 12)) refl
  where
    ok_err : ◌≡◌ {A = Checked} (Ok tt) (Err r) → ⊥
    ok_err e = false≢true (sym (ap is_ok e))

    go : (a : Bool) → eqb (length t % 12) 0 ≡ a → (b : Bool) → ltb 512 (length t / 12) ≡ b → table_ok t ≡ false
    go false p b q = part_table t (eqb-false (length t % 12) 0 p)
    go true p true q = long_table t (omega (arith, eqb-true (length t % 12) 0 p, ltb-true 512 (length t / 12) q))
    go true p false q = absurd (ok_err (sym (length_kept t (eqb-true (length t % 12) 0 p) (ltb-false 512 (length t / 12) q)) ∙ h))

-- for the code
pub table_records_test : (t : List ℕ) → length t % 12 ≡ 0 → length t / 12 ≤ 512 → is_ok (records_check (entries_from t (length t / 12) 0) 0 0 0) ≡ table_ok t
table_records_test t whole short = numbered_test _ _ _ (table_records_numbered t whole short)

pub records_test : (r : Records) → is_ok (records_check (entries r.bytes.now) 0 0 0) ≡ table_ok r.bytes.now
unfolding entries
records_test r = table_records_test r.bytes.now (omega (arith, r.whole.0)) (omega (arith, r.whole.0, r.whole.1))

module _ (t vs : List ℕ) where
  abbrev asked : ℕ
  asked = numbered (table_ok t) (values_ok t vs)

  -- where the table's length is right
  module _ (whole : length t % 12 ≡ 0) (short : length t / 12 ≤ 512) where
    abbrev es : List Entry
    es = entries_from t (length t / 12) 0

    r_numbered : Numbered (records_check es 0 0 0) (table_ok t) 21
    r_numbered = table_records_numbered t whole short

    values_answer : table_ok t ≡ true → (tells (content_check t vs)).number ≡ asked
    unfolding entries told
    values_answer o = go (eqb (counts_of es) (length vs)) refl
      where
        fine : records_check es 0 0 0 ≡ Ok tt
        fine = numbered_ok _ 21 (rw o at r_numbered)

        go : (b : Bool) → eqb (counts_of es) (length vs) ≡ b → (tells (content_check t vs)).number ≡ asked
        go true q =
            rw (content_runs t vs whole short fine (eqb-true (counts_of es) (length vs) q), o, q)
            (numbered_number _ _ 22 (runs_numbered es vs 0 0))
        go false q = rw (content_count t vs whole short fine (eqb-false (counts_of es) (length vs) q), o, q) refl

    records_answer : table_ok t ≡ false → (tells (content_check t vs)).number ≡ asked
    records_answer o =
        let m = numbered_err _ 21 (rw o at r_numbered) in
        rw (content_records t vs whole short m.0 m.1, o) m.2

    whole_answer : (tells (content_check t vs)).number ≡ asked
    whole_answer = go (table_ok t) refl
      where
        go : (b : Bool) → table_ok t ≡ b → (tells (content_check t vs)).number ≡ asked
        go true o = values_answer o
        go false o = records_answer o

  part_answer : (length t % 12 ≡ 0 → ⊥) → (tells (content_check t vs)).number ≡ asked
  unfolding told
  part_answer h = rw (content_part t vs h, part_table t h) refl

  many_answer : length t % 12 ≡ 0 → 512 < length t / 12 → (tells (content_check t vs)).number ≡ asked
  unfolding told
  many_answer w h = rw (content_many t vs w h, long_table t (omega arith)) refl

  pub number_is : (table_check_of t vs).number ≡ numbered (table_ok t) (values_ok t vs)
  unfolding table_check_of
  number_is = go (eqb (length t % 12) 0) refl (ltb 512 (length t / 12)) refl
    where
      go : (a : Bool) → eqb (length t % 12) 0 ≡ a → (b : Bool) → ltb 512 (length t / 12) ≡ b → (tells (content_check t vs)).number ≡ asked
      go false p b q = part_answer (eqb-false (length t % 12) 0 p)
      go true p true q = many_answer (eqb-true (length t % 12) 0 p) (ltb-true 512 (length t / 12) q)
      go true p false q = whole_answer (eqb-true (length t % 12) 0 p) (ltb-false 512 (length t / 12) q)

  -- it is the opening check's
  pub number_opening_is : (table_check_of t vs).number ≡ opened_number (content_of t vs None)
  number_opening_is = number_is ∙ go (table_ok t) refl (values_ok t vs) refl
    where
      go : (a : Bool) → table_ok t ≡ a → (b : Bool) → values_ok t vs ≡ b → numbered a b ≡ opened_number (content_of t vs None)
      go false p b q = rw (content_table t vs None p)
      go true p false q = rw (content_values t vs None (rw (p, q)) p)
      go true p true q = rw (content_passed t vs None (rw (p, q)) refl)

  -- each number exactly when
  pub number_21_exactly : ((table_check_of t vs).number ≡ 21) ↔ (table_ok t ≡ false)
  number_21_exactly = rw number_is (go (table_ok t) (values_ok t vs))
    where
      go : (a b : Bool) → (numbered a b ≡ 21) ↔ (a ≡ false)
      go false b = (λ h. refl, λ h. refl)
      go true false = (λ h. absurd (omega arith), λ h. absurd (false≢true (sym h)))
      go true true = (λ h. absurd (omega arith), λ h. absurd (false≢true (sym h)))

  pub number_22_exactly : ((table_check_of t vs).number ≡ 22) ↔ ((table_ok t ≡ true) × (values_ok t vs ≡ false))
  number_22_exactly = rw number_is (go (table_ok t) (values_ok t vs))
    where
      go : (a b : Bool) → (numbered a b ≡ 22) ↔ ((a ≡ true) × (b ≡ false))
      go false b = (λ h. absurd (omega arith), λ h. absurd (false≢true h.0))
      go true false = (λ h. (refl, refl), λ h. refl)
      go true true = (λ h. absurd (omega arith), λ h. absurd (false≢true (sym h.1)))

  pub number_0_exactly : ((table_check_of t vs).number ≡ 0) ↔ ((table_ok t ≡ true) × (values_ok t vs ≡ true))
  number_0_exactly = rw number_is (go (table_ok t) (values_ok t vs))
    where
      go : (a b : Bool) → (numbered a b ≡ 0) ↔ ((a ≡ true) × (b ≡ true))
      go false b = (λ h. absurd (omega arith), λ h. absurd (false≢true h.0))
      go true false = (λ h. absurd (omega arith), λ h. absurd (false≢true h.1))
      go true true = (λ h. (refl, refl), λ h. refl)
