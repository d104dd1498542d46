-- The rules of a parameter table, of the values and of the list that go with it (document 01, Parameter table; Answer numbers 21 and 22;
-- document 02, W-205, number 25).
--     rising_from least es    numbers strictly rising: the first from `least` on, each further one over the one before it
--     each_ok es              each record keeps its own rules
--     table_ok t              whole records, at most 512, numbers rising, each record's rules, at most 4096 places
--     run_ok e vs n place     n values from a place on are within e's limits
--     runs_ok es vs place     the values of records in order, the first record's from a place on
--     values_ok t vs          the exact count, and each value within its record's limits
--     sums_ok ps es place     one place per record: the first is `place`, each further one the sum of the places before it
--     list_ok l t             no list, or one place per record and the sums
use Rattle.std.specs.Prelude.{ℕ, zero, suc, ◌+◌, ◌/◌, ◌%◌, List, [], ◌∷◌, Bool, true, false, ◌&&◌, length, get_or, eqb, leb, Option, Some, None}
use Rattle.entry.specs.declared.Entry.{Entry}
use Rattle.entry.specs.Fields.{count_of}
use Rattle.limits.specs.Limits.{is_within, entry_ok}
use Rattle.table.specs.Records.{entries, counts_of}

unfoldable pub rising_from : ℕ → List Entry → Bool
rising_from least [] = true
rising_from least (e ∷ es) = leb least e.number && rising_from (e.number + 1) es

unfoldable pub each_ok : List Entry → Bool
each_ok [] = true
each_ok (e ∷ es) = entry_ok e && each_ok es

abbrev pub table_ok : List ℕ → Bool
table_ok t =
    eqb (length t % 12) 0
    && leb (length t / 12) 512
    && rising_from 0 (entries t)
    && each_ok (entries t)
    && leb (counts_of (entries t)) 4096

unfoldable pub run_ok : Entry → List ℕ → ℕ → ℕ → Bool
run_ok e vs zero place = true
run_ok e vs (suc n) place = is_within e (get_or vs place 0) && run_ok e vs n (suc place)

unfoldable pub runs_ok : List Entry → List ℕ → ℕ → Bool
runs_ok [] vs place = true
runs_ok (e ∷ es) vs place = run_ok e vs (count_of e) place && runs_ok es vs (place + count_of e)

abbrev pub values_ok : List ℕ → List ℕ → Bool
values_ok t vs = eqb (counts_of (entries t)) (length vs) && runs_ok (entries t) vs 0

unfoldable pub sums_ok : List ℕ → List Entry → ℕ → Bool
sums_ok [] [] place = true
sums_ok [] (e ∷ es) place = false
sums_ok (p ∷ ps) [] place = false
sums_ok (p ∷ ps) (e ∷ es) place = eqb p place && sums_ok ps es (place + count_of e)

abbrev pub list_ok : Option (List ℕ) → List ℕ → Bool
list_ok None t = true
list_ok (Some ps) t = sums_ok ps (entries t) 0
