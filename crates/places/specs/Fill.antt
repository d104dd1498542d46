-- The list of first places, filled (document 02, W-205): 21, then 25 for the length, nothing written; else every place of it.
--     filling_rows t n    the lines, of a table and of a list's length: 21, 25
--     filling_of t n      the first that holds
--     filled_by o t ps    the list ps afterwards: as it was where the filling was refused, else the first place of each record
use Rattle.std.specs.Prelude.{ℕ, ◌/◌, Bool, not, List, [], ◌∷◌, length, eqb, Result, Ok, Err}
use Rattle.rows.specs.Rows.{first_of}
use Rattle.slave_answers.specs.declared.OpeningFault.TheVariants.{BadTable, BadPlaces}
use Rattle.table.specs.Records.{places_of}
use Rattle.opening.specs.Rules.{table_ok}
use Rattle.slave_answers.specs.declared.OpeningFault.{OpeningFault}
use Rattle.opening.specs.Answers.{passed}

-- one place per record; what stands in the list does not count
abbrev pub filling_rows : List ℕ → ℕ → List (Bool × Result (Unit {0}) OpeningFault)
filling_rows t n = (not (table_ok t), Err BadTable) ∷ (not (eqb n (length t / 12)), Err BadPlaces) ∷ []

unfoldable pub filling_of : List ℕ → ℕ → Result (Unit {0}) OpeningFault
filling_of t n = first_of (filling_rows t n) passed

abbrev pub filled_by : Result (Unit {0}) OpeningFault → List ℕ → List ℕ → List ℕ
filled_by (Ok done) t ps = places_of t
filled_by (Err fault) t ps = ps
