-- The answers 21, 22 and 25, of table, values and list alone. Assumes nothing.
use Prim.Native.Nat.{ℕ, ◌/◌, ◌%◌, ◌<◌, ◌≤◌}
use mathlib.Core.Path.{◌≡◌, refl, ◌∙◌}
use mathlib.Core.List.{List}
use mathlib.Core.Bool.{Bool, true, false, not, cond, ◌&&◌}
use native.Mathlib.Omega.{arith}
use borrow.Author.Tests.{lt-leb, ne_eqb, eqb-true, leb-true}
use lib.ListN.{length}
use lib.Dec.{eqb, leb}
use Rattle.std.specs.Prelude.{Option, Err}
use Rattle.rows.proofs.BoolLaws.{and_right}
use Rattle.table.specs.Records.{entries, counts_of}
use Rattle.slave_answers.specs.declared.OpeningFault.TheVariants.{BadTable, BadValues, BadPlaces}
use Rattle.opening.specs.Rules.{rising_from, each_ok, table_ok, values_ok, list_ok}
use Rattle.opening.specs.Answers.{content_of, passed}

content_tests : (a b g : Bool) → cond (not a) (Err BadTable) (cond (not b) (Err BadValues) (cond (not g) (Err BadPlaces) passed))
    ≡ cond (a && b) (cond g passed (Err BadPlaces)) (cond a (Err BadValues) (Err BadTable))
content_tests false b g = refl
content_tests true false g = refl
content_tests true true false = refl
content_tests true true true = refl

module _ (t vs : List ℕ) (ps : Option (List ℕ)) where
  content_is : content_of t vs ps
      ≡ cond (table_ok t && values_ok t vs) (cond (list_ok ps t) passed (Err BadPlaces)) (cond (table_ok t) (Err BadValues) (Err BadTable))
  unfolding content_of
  content_is = content_tests (table_ok t) (values_ok t vs) (list_ok ps t)

  pub content_passed : (table_ok t && values_ok t vs) ≡ true → list_ok ps t ≡ true → content_of t vs ps ≡ passed
  content_passed h o = content_is ∙ rw (h, o)

  pub content_places : (table_ok t && values_ok t vs) ≡ true → list_ok ps t ≡ false → content_of t vs ps ≡ Err BadPlaces
  content_places h o = content_is ∙ rw (h, o)

  pub content_values : (table_ok t && values_ok t vs) ≡ false → table_ok t ≡ true → content_of t vs ps ≡ Err BadValues
  content_values h o = content_is ∙ rw (h, o)

  pub content_table : table_ok t ≡ false → content_of t vs ps ≡ Err BadTable
  content_table o = content_is ∙ rw o

-- a table of another length, or of more records, breaks a rule
module _ (t : List ℕ) where
  pub part_table : (length t % 12 ≡ 0 → ⊥) → table_ok t ≡ false
  part_table h = simp (ne_eqb _ _ h)

  pub long_table : 6144 < length t → table_ok t ≡ false
  long_table h = go (eqb (length t % 12) 0) refl
    where
      go : (b : Bool) → eqb (length t % 12) 0 ≡ b → table_ok t ≡ false
      go true p = let w = eqb-true (length t % 12) 0 p in simp (p, lt-leb (length t / 12) 512 (omega arith))
      go false p = simp p

  -- and one that breaks none has at most 4096 places
  pub ruled_places : table_ok t ≡ true → counts_of (entries t) ≤ 4096
  ruled_places h =
      let es = entries t in
      leb-true (counts_of es) 4096
      (and_right (eqb (length t % 12) 0 && leb (length t / 12) 512 && rising_from 0 es && each_ok es) (leb (counts_of es) 4096) h)
