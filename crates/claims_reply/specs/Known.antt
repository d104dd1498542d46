-- The replies K3 and K4 of document 01 ("Telegrams to prove and to run"), and what a master that asked K2 reads in them.
--     lent1082        a slave's set-up, table and values with the parameter of K2, and a buffer of 256 bytes
--     readings1082    each telegram with its reading
use Rattle.std.specs.Prelude.{List, [], ◌∷◌, ℕ, None, Result, Ok}
use Rattle.opening.specs.Lent.{Lent}
use Rattle.read_answers.specs.declared.Content.TheVariants.{Value, Failed}
use Rattle.read_answers.specs.declared.Reading.{Reading}
use Rattle.read_answers.specs.declared.ReadFault.{ReadFault}
use Rattle.claims_known.specs.Telegrams.{setup, status, table1082, value1082, error1082}

abbrev pub lent1082 : Lent
lent1082 = record { setup = setup; table = table1082; memory = record { values = 5000 ∷ [] }; list = None; room = 256 }

abbrev pub readings1082 : List (List ℕ × Result Reading ReadFault)
readings1082 =
    -- K3, value 5000
    (value1082, Ok (record { content = Value 1 5000; process = status }))
    -- K4, no such parameter
    ∷ (error1082, Ok (record { content = Failed 0; process = status }))
    ∷ []
