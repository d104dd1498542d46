-- The records of a table of bytes (document 01, Parameter table): whole records of 12 bytes, their numbers, their places. A record
-- past the table's end reads as zeros (ours).
--     record_of bs            the three double words of a record's 12 bytes; all 0 where there are fewer (ours)
--     entry_in bs             its fields
--     entry_at t k            record k: 32 bits of fields, minimum, maximum
--     entries_from t n k      n records, from record k on
--     entries t               all the whole records of a table
--     find_in t number        the place of the first record with that number
--     counts_of es            the value places that records take
--     first_place t k         the first value place of record k: the sum of the places of the records before it
--     places_from es place    the first places of records in order, the first record's at `place`
--     places_of t             the first places of all records of a table (document 02, W-205)
use Rattle.std.specs.Prelude.{ℕ, zero, suc, ◌+◌, ◌*◌, ◌/◌, List, [], ◌∷◌, cond, length, eqb, ltb, Option, Some, None}
use Rattle.words.specs.Words.{double_at}
use Rattle.entry.specs.declared.Entry.{Entry}
use Rattle.entry.specs.Fields.{entry_of, count_of}
use Rattle.table.specs.declared.Record.{Record}

unfoldable pub record_of : List ℕ → Record
record_of bs =
    cond (ltb (length bs) 12) (record { head = 0; minimum = 0; maximum = 0 })
    (record { head = double_at bs 0; minimum = double_at bs 4; maximum = double_at bs 8 })

abbrev pub entry_in : List ℕ → Entry
entry_in bs = entry_of (record_of bs).head (record_of bs).minimum (record_of bs).maximum

unfoldable pub entry_at : List ℕ → ℕ → Entry
entry_at t k = entry_of (double_at t (12 * k)) (double_at t (12 * k + 4)) (double_at t (12 * k + 8))

unfoldable pub entries_from : List ℕ → ℕ → ℕ → List Entry
entries_from t zero k = []
entries_from t (suc n) k = entry_at t k ∷ entries_from t n (suc k)

unfoldable pub entries : List ℕ → List Entry
entries t = entries_from t (length t / 12) 0

-- the first of the list is record k
unfoldable pub find_from : ℕ → List Entry → ℕ → Option ℕ
find_from number [] k = None
find_from number (e ∷ es) k = cond (eqb e.number number) (Some k) (find_from number es (suc k))

abbrev pub find_in : List ℕ → ℕ → Option ℕ
find_in t number = find_from number (entries t) 0

unfoldable pub counts_of : List Entry → ℕ
counts_of [] = 0
counts_of (e ∷ es) = count_of e + counts_of es

abbrev pub first_place : List ℕ → ℕ → ℕ
first_place t k = counts_of (entries_from t k 0)

unfoldable pub places_from : List Entry → ℕ → List ℕ
places_from [] place = []
places_from (e ∷ es) place = place ∷ places_from es (place + count_of e)

abbrev pub places_of : List ℕ → List ℕ
places_of t = places_from (entries t) 0
