-- Worked openings, computed from the definitions: each number, and a passing one. Assumes nothing.
use Prim.Native.Nat.{ℕ}
use mathlib.Core.Path.{◌≡◌, refl}
use mathlib.Core.List.{List, [], ◌∷◌, map}
use Rattle.std.specs.Prelude.{Option, Some, None, Err}
use Rattle.setup.specs.SetupRules.{setup_ok}
use Rattle.entry.specs.Fields.{entry_of, count_of}
use Rattle.signs.specs.Signs.{signed_of}
use Rattle.limits.specs.Limits.{number_of, at_most, fits_in, is_within, entry_ok}
use Rattle.table.specs.Records.{entry_at, entries_from, entries, counts_of}
use Rattle.slave_answers.specs.declared.OpeningFault.TheVariants.{BadSetup, BadTable, BadValues, BadPlaces, ShortBuffer}
use Rattle.opening.specs.Rules.{rising_from, each_ok, run_ok, runs_ok, sums_ok}
use Rattle.opening.specs.Lent.{Lent}
use Rattle.opening.specs.Answers.{opening_of, passed}

-- 1000: two words, unsigned, 0 to 10; 1082: a signed word, -100 to 100; 2000: a signed double, -1 to 1
abbrev three_records : List ℕ
three_records =
    0x07 ∷ 0xd0 ∷ 0x40 ∷ 0x80 ∷ 0 ∷ 0 ∷ 0 ∷ 0 ∷ 0 ∷ 0 ∷ 0 ∷ 10
    ∷ 0x08 ∷ 0x74 ∷ 0xc0 ∷ 0 ∷ 0 ∷ 0 ∷ 0xff ∷ 0x9c ∷ 0 ∷ 0 ∷ 0 ∷ 100
    ∷ 0x0f ∷ 0xa1 ∷ 0xc0 ∷ 0 ∷ 0xff ∷ 0xff ∷ 0xff ∷ 0xff ∷ 0 ∷ 0 ∷ 0 ∷ 1
    ∷ []

-- a node, a table, its values, a list and a buffer; four parameter words, two process words
abbrev lent_of : ℕ → List ℕ → List ℕ → Option (List ℕ) → ℕ → Lent
lent_of n t vs ps room =
    record { setup = record { node = n; pkw = 4; pzd = 2 }; table = t; memory = record { values = vs }; list = ps; room = room }

pub known_openings : map opening_of
    (lent_of 31 three_records (0 ∷ 10 ∷ 0xff9c ∷ 0xffff_ffff ∷ []) None 256
    ∷ lent_of 32 [] (1 ∷ []) None 0
    ∷ lent_of 31 (0x07 ∷ three_records) (0 ∷ []) None 0
    ∷ lent_of 31 three_records (0 ∷ 10 ∷ 0xff9b ∷ 0 ∷ []) None 0
    ∷ lent_of 31 three_records (0 ∷ 10 ∷ 0xff9c ∷ []) None 0
    ∷ lent_of 31 three_records (0 ∷ 10 ∷ 100 ∷ 1 ∷ []) None 255
    ∷ lent_of 31 [] [] None 256
    ∷ [])
    ≡ passed ∷ Err BadSetup ∷ Err BadTable ∷ Err BadValues ∷ Err BadValues ∷ Err ShortBuffer ∷ passed ∷ []
unfolding opening_of setup_ok entry_of count_of signed_of number_of at_most fits_in is_within entry_ok entry_at entries_from entries counts_of rising_from each_ok run_ok runs_ok
known_openings = refl

-- the places of the three records are 0, 2 and 3; 25 comes after 22 and before 23
pub known_lists : map opening_of
    (lent_of 31 three_records (0 ∷ 10 ∷ 0xff9c ∷ 1 ∷ []) (Some (0 ∷ 2 ∷ 3 ∷ [])) 256
    ∷ lent_of 31 three_records (0 ∷ 10 ∷ 0xff9c ∷ 1 ∷ []) (Some (1 ∷ 2 ∷ 3 ∷ [])) 0
    ∷ lent_of 31 three_records (0 ∷ 10 ∷ 0xff9c ∷ 1 ∷ []) (Some (0 ∷ 2 ∷ 4 ∷ [])) 0
    ∷ lent_of 31 three_records (0 ∷ 10 ∷ 0xff9c ∷ 1 ∷ []) (Some (0 ∷ 2 ∷ [])) 0
    ∷ lent_of 31 three_records (0 ∷ 10 ∷ 0xff9c ∷ 1 ∷ []) (Some (0 ∷ 2 ∷ 3 ∷ 4 ∷ [])) 0
    ∷ lent_of 31 three_records (0 ∷ 10 ∷ 0xff9c ∷ 1 ∷ []) (Some []) 256
    ∷ lent_of 31 three_records (0 ∷ 10 ∷ 0xff9b ∷ 1 ∷ []) (Some []) 0
    ∷ lent_of 31 three_records (0 ∷ 10 ∷ 0xff9c ∷ 1 ∷ []) (Some (0 ∷ 2 ∷ 3 ∷ [])) 255
    ∷ lent_of 31 [] [] (Some []) 256
    ∷ [])
    ≡ passed ∷ Err BadPlaces ∷ Err BadPlaces ∷ Err BadPlaces ∷ Err BadPlaces ∷ Err BadPlaces ∷ Err BadValues ∷ Err ShortBuffer ∷ passed ∷ []
unfolding opening_of setup_ok entry_of count_of signed_of number_of at_most fits_in is_within entry_ok entry_at entries_from entries counts_of rising_from each_ok run_ok runs_ok sums_ok
known_lists = refl
