-- Laws of the first places of a table's records. Assumes nothing.
use Prim.Native.Nat.{ℕ, zero, suc, ◌+◌, ◌/◌, ◌<◌}
use mathlib.Core.Path.{◌≡◌, refl, ap, ◌∙◌}
use mathlib.Core.List.{List, [], ◌∷◌}
use native.Mathlib.Omega.{arith}
use native.Mathlib.Nat.{zero-add, add-zero}
use lib.ListN.{length, get_or}
use Rattle.entry.specs.declared.Entry.{Entry}
use Rattle.entry.specs.Fields.{count_of}
use Rattle.table.proofs.RecordsLaws.{counts_split}
use Rattle.table.specs.Records.{entry_at, entries_from, entries, counts_of, first_place, places_from, places_of}

-- record by record
module _ (place : ℕ) where
  pub places_none : places_from [] place ≡ []
  unfolding places_from
  places_none = refl

  pub places_more : (e : Entry) (es : List Entry) → places_from (e ∷ es) place ≡ place ∷ places_from es (place + count_of e)
  unfolding places_from
  places_more e es = refl

-- one for each record
entries_length : (t : List ℕ) (n k : ℕ) → length (entries_from t n k) ≡ n
unfolding entries_from
entries_length t zero k = refl
entries_length t (suc n) k = ap suc (entries_length t n (suc k))

from_length : (es : List Entry) (place : ℕ) → length (places_from es place) ≡ length es
unfolding places_from
from_length [] place = refl
from_length (e ∷ es) place = ap suc (from_length es (place + count_of e))

pub places_length : (t : List ℕ) → length (places_of t) ≡ length t / 12
unfolding entries
places_length t = from_length (entries_from t (length t / 12) 0) 0 ∙ entries_length t (length t / 12) 0

-- the k-th is the sum of the places of the records before record k
from_at : (t : List ℕ) (n j place k : ℕ) → k < n → get_or (places_from (entries_from t n j) place) k 0 ≡ place + counts_of (entries_from t k j)
unfolding places_from entries_from counts_of
from_at t zero j place k h = absurd (omega arith)
from_at t (suc n) j place zero h = omega arith
from_at t (suc n) j place (suc k) h = omega (arith, from_at t n (suc j) (place + count_of (entry_at t j)) k (omega arith))

pub places_at : (t : List ℕ) (k : ℕ) → k < length t / 12 → get_or (places_of t) k 0 ≡ first_place t k
unfolding entries
places_at t k h = from_at t (length t / 12) 0 0 k h ∙ zero-add _

-- the next record's is that of its places behind
pub place_next : (t : List ℕ) (k : ℕ) → first_place t (k + 1) ≡ first_place t k + count_of (entry_at t k)
unfolding entries_from counts_of
place_next t k = counts_split t k 1 0 ∙ simp (zero-add, add-zero)
