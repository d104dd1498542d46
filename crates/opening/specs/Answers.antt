-- The answers of the opening check (document 01, Answer numbers; document 02, W-205): 20, 21, 22, 25, 23 in that order, the first line
-- that holds.
--     passed                  nothing is refused
--     opened_number o         the number of an answer, 0 where it passed
--     content_rows t vs ps    the lines of table, values and list: 21, 22, 25
--     content_of t vs ps      their answer
--     opening_rows l          all lines, of what the host lends
--     opening_of l            the answer
use Rattle.std.specs.Prelude.{ℕ, List, [], ◌∷◌, ◌++◌, Bool, not, ltb, Option, Result, Ok, Err}
use Rattle.rows.specs.Rows.{first_of}
use Rattle.setup.specs.SetupRules.{setup_ok}
use Rattle.slave_answers.specs.declared.OpeningFault.TheVariants.{BadSetup, BadTable, BadValues, BadPlaces, ShortBuffer}
use Rattle.slave_answers.specs.SlaveNumbers.{opening_number}
use Rattle.opening.specs.Lent.{Lent}
use Rattle.opening.specs.Rules.{table_ok, values_ok, list_ok}
use Rattle.slave_answers.specs.declared.OpeningFault.{OpeningFault}

-- nothing is refused
abbrev pub passed : Result (Unit {0}) OpeningFault
passed = Ok tt

abbrev pub opened_number : Result (Unit {0}) OpeningFault → ℕ
opened_number (Ok done) = 0
opened_number (Err fault) = opening_number fault

abbrev pub content_rows : List ℕ → List ℕ → Option (List ℕ) → List (Bool × Result (Unit {0}) OpeningFault)
content_rows t vs ps =
    (not (table_ok t), Err BadTable)
    ∷ (not (values_ok t vs), Err BadValues)
    ∷ (not (list_ok ps t), Err BadPlaces)
    ∷ []

abbrev pub opening_rows : Lent → List (Bool × Result (Unit {0}) OpeningFault)
opening_rows l =
    (not (setup_ok l.setup), Err BadSetup)
    ∷ content_rows l.table l.memory.values l.list
    ++ (ltb l.room 256, Err ShortBuffer) ∷ []

unfoldable pub content_of : List ℕ → List ℕ → Option (List ℕ) → Result (Unit {0}) OpeningFault
content_of t vs ps = first_of (content_rows t vs ps) passed

unfoldable pub opening_of : Lent → Result (Unit {0}) OpeningFault
opening_of l = first_of (opening_rows l) passed
