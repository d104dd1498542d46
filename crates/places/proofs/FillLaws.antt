-- The list of first places, filled. Assumes nothing.
use Prim.Native.Nat.{ℕ, ◌+◌, ◌/◌, ◌<◌, ◌≤◌}
use mathlib.Core.Path.{◌≡◌, sym, ◌∙◌}
use mathlib.Core.Bool.{true, false}
use mathlib.Core.List.{List}
use native.Mathlib.Omega.{arith}
use native.Mathlib.Decide.{ℕ_discrete}
use borrow.Author.Tests.{eq-eqb, ne_eqb}
use lib.ListN.{length, get_or, set}
use lib.Seq.{get_or-set_same, get_or-set_other}
use Rattle.std.specs.Prelude.{Err}
use Rattle.slave_answers.specs.declared.OpeningFault.TheVariants.{BadTable, BadPlaces}
use Rattle.entry.specs.Fields.{count_of}
use Rattle.table.specs.Records.{entry_at, entries, first_place, places_of}
use Rattle.table.proofs.RecordsLaws.{places_fit}
use Rattle.table.proofs.PlacesLaws.{places_at}
use Rattle.opening.specs.Rules.{table_ok}
use Rattle.opening.proofs.ContentLaws.{ruled_places}
use Rattle.places.specs.Fill.{filling_of}
use Rattle.opening.specs.Answers.{passed}

module _ (t : List ℕ) (n : ℕ) where
  pub fill_table : table_ok t ≡ false → filling_of t n ≡ Err BadTable
  unfolding filling_of
  fill_table h = rw h

  pub fill_length : table_ok t ≡ true → (n ≡ length t / 12 → ⊥) → filling_of t n ≡ Err BadPlaces
  unfolding filling_of
  fill_length h o = rw (h, ne_eqb n (length t / 12) o)

  pub fill_passed : table_ok t ≡ true → n ≡ length t / 12 → filling_of t n ≡ passed
  unfolding filling_of
  fill_passed h o = rw (h, eq-eqb n (length t / 12) o)

-- a first place is a 16-bit number
pub place_small : (t : List ℕ) (k : ℕ) → table_ok t ≡ true → k < length t / 12 → first_place t k + count_of (entry_at t k) ≤ 4096
unfolding entries
place_small t k h b = omega (arith, places_fit t (length t / 12) k b, ruled_places t h)

-- the places before k are those of the records
abbrev pub Filled : List ℕ → List ℕ → ℕ → Type 0
Filled t ps k = (i : ℕ) → i < k → get_or ps i 0 ≡ get_or (places_of t) i 0

pub filled_more : (t ps : List ℕ) (k place : ℕ) → k < length ps → k < length t / 12 → place ≡ first_place t k → Filled t ps k → Filled t (set ps k place) (k + 1)
filled_more t ps k place b r p f i h = go (ℕ_discrete i k)
  where
    go : Dec (i ≡ k) → get_or (set ps k place) i 0 ≡ get_or (places_of t) i 0
    go (yes e) = rw e (get_or-set_same ps k place 0 b ∙ p ∙ sym (places_at t k r))
    go (no d) = get_or-set_other ps k i place 0 d ∙ f i (omega arith)
