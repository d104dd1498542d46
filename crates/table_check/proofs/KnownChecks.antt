-- Worked checks, computed from the definitions: each rule once, and a table with values that pass. Assumes nothing.
use Prim.Native.Nat.{ℕ}
use mathlib.Core.Path.{◌≡◌, refl}
use mathlib.Core.List.{List, [], ◌∷◌, ◌++◌, map}
use Rattle.entry.specs.Fields.{entry_of, count_of}
use Rattle.signs.specs.Signs.{signed_of}
use Rattle.limits.specs.Limits.{number_of, at_most, fits_in, is_within}
use Rattle.table.specs.Records.{entry_at, entries_from, entries, counts_of}
use Rattle.table_check.specs.declared.TableCheck.{TableCheck}
use Rattle.table_check.specs.Checks.{told, length_check, record_rule, records_check, run_check, runs_check, values_check, content_check, table_check_of}

-- 1000: two words, unsigned, 0 to 10; 1082: a signed word, -100 to 100
abbrev first : List ℕ
first = 0x07 ∷ 0xd0 ∷ 0x40 ∷ 0x80 ∷ 0 ∷ 0 ∷ 0 ∷ 0 ∷ 0 ∷ 0 ∷ 0 ∷ 10 ∷ []

abbrev second : List ℕ
second = 0x08 ∷ 0x74 ∷ 0xc0 ∷ 0 ∷ 0 ∷ 0 ∷ 0xff ∷ 0x9c ∷ 0 ∷ 0 ∷ 0 ∷ 100 ∷ []

-- a head of four bytes, and limits of 0 to 1
abbrev headed : List ℕ → List ℕ
headed head = head ++ 0 ∷ 0 ∷ 0 ∷ 0 ∷ 0 ∷ 0 ∷ 0 ∷ 1 ∷ []

abbrev tells : ℕ → ℕ → ℕ → ℕ → TableCheck
tells n r k p = record { number = n; rule = r; «record» = k; place = p }

pub known_checks : map (λ (x : List ℕ × List ℕ). table_check_of x.0 x.1)
    ((first ++ second, 0 ∷ 10 ∷ 0xff9c ∷ [])
    ∷ (first ++ 0x08 ∷ [], 0 ∷ 10 ∷ [])
    ∷ (first ++ first, [])
    ∷ (first ++ headed (0xfa ∷ 0 ∷ 0 ∷ 0 ∷ []), [])
    ∷ (first ++ headed (0x08 ∷ 0x74 ∷ 0x3f ∷ 0xc0 ∷ []), [])
    ∷ (first ++ headed (0x08 ∷ 0x74 ∷ 0 ∷ 0x20 ∷ []), [])
    ∷ (0x08 ∷ 0x74 ∷ 0xc0 ∷ 0 ∷ 0xff ∷ 0xff ∷ 0xff ∷ 0x9c ∷ 0 ∷ 0 ∷ 0 ∷ 100 ∷ [], [])
    ∷ (first ++ 0x08 ∷ 0x74 ∷ 0x40 ∷ 0 ∷ 0 ∷ 0 ∷ 0xff ∷ 0x9c ∷ 0 ∷ 0 ∷ 0 ∷ 100 ∷ [], [])
    ∷ (first ++ second, 0 ∷ 10 ∷ [])
    ∷ (first ++ second, 0 ∷ 10 ∷ 0xff9b ∷ [])
    ∷ (first ++ second, 0 ∷ 11 ∷ 0xff9b ∷ [])
    ∷ ([], [])
    ∷ [])
    ≡ tells 0 0 0 0 ∷ tells 21 1 1 0 ∷ tells 21 3 1 0 ∷ tells 21 4 1 0 ∷ tells 21 5 1 0 ∷ tells 21 6 1 0 ∷ tells 21 7 0 0 ∷ tells 21 8 1 0
    ∷ tells 22 10 2 3 ∷ tells 22 11 1 2 ∷ tells 22 11 0 1 ∷ tells 0 0 0 0 ∷ []
unfolding table_check_of content_check told length_check record_rule records_check run_check runs_check values_check entry_of count_of signed_of number_of at_most fits_in is_within entry_at entries_from entries counts_of
known_checks = refl
