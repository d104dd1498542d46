-- A table and its values, one rule after the other: the first that is broken, and where (document 01, Parameter table; the order is
-- ours). First the table by itself, its length, then its records from the first on; then how many values there are, and each value.
--     told r k p                   rule r is broken, by record k; of a value p is its place
--     none_broken                  all 0: no rule is broken
--     Checked                      a check's result: nothing is broken, or what is told of the first broken rule
--     tells c                      what a check's result tells
--     broken_by o k                the result where record k breaks the rule o, if any
--     or_else a b                  the result a, or b where a finds nothing broken
--     record_rule least place e    the first rule that a record breaks: `least` is the least number that may stand there, `place`
--                                 the first of its places
--     length_check t               the check of a table's length
--     records_check es k least place    records in order, the first of them record k
--     run_check e vs n k place          n values of record k from a place on
--     runs_check es vs k place          the values of records in order, the first of them record k, its values from a place on
--     values_check t vs            how many values there are, and each value
--     content_check t vs                all of it
--     table_check_of t vs               what it tells
use Rattle.std.specs.Prelude.{ℕ, zero, suc, ◌+◌, ◌/◌, ◌%◌, min, List, [], ◌∷◌, Bool, cond, not, ◌&&◌, length, get_or, ltb, eqb, Option, Some, None, Result, Ok, Err}
use Rattle.rows.specs.Rows.{first_of}
use Rattle.entry.specs.declared.Entry.{Entry}
use Rattle.entry.specs.Fields.{count_of}
use Rattle.limits.specs.Limits.{fits_in, at_most, is_within}
use Rattle.table.specs.Records.{entries, counts_of}
use Rattle.table_check.specs.declared.Rule.{Rule}
use Rattle.table_check.specs.declared.Rule.TheVariants.{PartRecord, ManyRecords, NumberOrder, HighNumber, ManyElements, SpareBit, UpperHalf, LimitOrder, ManyPlaces, ValueCount, OutsideLimits}
use Rattle.table_check.specs.declared.TableCheck.{TableCheck}
use Rattle.table_check.specs.RuleNumbers.{rule_number, rule_answer}

unfoldable pub told : Rule → ℕ → ℕ → TableCheck
told r k p = record { number = rule_answer r; rule = rule_number r; «record» = k; place = p }

abbrev pub none_broken : TableCheck
none_broken = record { number = 0; rule = 0; «record» = 0; place = 0 }

abbrev pub Checked : Type 0
Checked = Result (Unit {0}) TableCheck

abbrev pub tells : Checked → TableCheck
tells (Ok done) = none_broken
tells (Err r) = r

abbrev pub broken_by : Option Rule → ℕ → Checked
broken_by None k = Ok tt
broken_by (Some r) k = Err (told r k 0)

abbrev pub or_else : Checked → Checked → Checked
or_else (Ok done) b = b
or_else (Err r) b = Err r

-- ---- the length

-- the record after the last whole one; 512 where there are more
abbrev pub end_of : ℕ → ℕ
end_of n = min n 512

unfoldable pub length_check : List ℕ → Checked
length_check t =
    first_of
    ((not (eqb (length t % 12) 0), Err (told PartRecord (end_of (length t / 12)) 0))
    ∷ (ltb 512 (length t / 12), Err (told ManyRecords 512 0))
    ∷ [])
    (Ok tt)

-- ---- the records

abbrev pub rule_rows : ℕ → ℕ → Entry → List (Bool × Option Rule)
rule_rows least place e =
    (ltb e.number least, Some NumberOrder)
    ∷ (ltb 31999 e.number, Some HighNumber)
    ∷ (ltb 254 e.elements, Some ManyElements)
    ∷ (not (eqb e.spare 0), Some SpareBit)
    ∷ (not (fits_in e.double e.minimum && fits_in e.double e.maximum), Some UpperHalf)
    ∷ (not (at_most e.double e.signed e.minimum e.maximum), Some LimitOrder)
    ∷ (ltb 4096 (place + count_of e), Some ManyPlaces)
    ∷ []

unfoldable pub record_rule : ℕ → ℕ → Entry → Option Rule
record_rule least place e = first_of (rule_rows least place e) None

unfoldable pub records_check : List Entry → ℕ → ℕ → ℕ → Checked
records_check [] k least place = Ok tt
records_check (e ∷ es) k least place =
    or_else (broken_by (record_rule least place e) k) (records_check es (suc k) (e.number + 1) (place + count_of e))

-- ---- the values

unfoldable pub run_check : Entry → List ℕ → ℕ → ℕ → ℕ → Checked
run_check e vs zero k place = Ok tt
run_check e vs (suc n) k place = cond (is_within e (get_or vs place 0)) (run_check e vs n k (suc place)) (Err (told OutsideLimits k place))

unfoldable pub runs_check : List Entry → List ℕ → ℕ → ℕ → Checked
runs_check [] vs k place = Ok tt
runs_check (e ∷ es) vs k place = or_else (run_check e vs (count_of e) k place) (runs_check es vs (suc k) (place + count_of e))

unfoldable pub values_check : List ℕ → List ℕ → Checked
values_check t vs =
    first_of
    ((not (eqb (counts_of (entries t)) (length vs)), Err (told ValueCount (length t / 12) (counts_of (entries t)))) ∷ [])
    (runs_check (entries t) vs 0 0)

-- ---- table and values

unfoldable pub content_check : List ℕ → List ℕ → Checked
content_check t vs = or_else (length_check t) (or_else (records_check (entries t) 0 0 0) (values_check t vs))

unfoldable pub table_check_of : List ℕ → List ℕ → TableCheck
table_check_of t vs = tells (content_check t vs)
