-- Laws of a parameter task: what it means is in the table, and its place among the values. Assumes nothing.
use mathlib.Core.Path.{◌≡◌, refl}
use mathlib.Core.Bool.{Bool, true, false}
use mathlib.Core.List.{List}
use Prim.Native.Nat.{ℕ, ◌+◌, ◌-◌, ◌*◌, ◌/◌, ◌≤◌}
use native.Mathlib.Omega.{arith}
use borrow.Author.Tests.{le-ltb, ne_eqb}
use lib.Dec.{eqb}
use lib.ListN.{length}
use Rattle.std.specs.Prelude.{Option, Some, None}
use Rattle.area.specs.declared.Area.{Area}
use Rattle.area.specs.Read.{area_at}
use Rattle.entry.specs.Fields.{count_of}
use Rattle.table.specs.Records.{find_in, entry_at, entries, first_place, counts_of}
use Rattle.table.proofs.RecordsLaws.{found_below, places_fit, one_each}
use Rattle.page.specs.Page.{base_of, full_number, named}
use Rattle.errors.specs.declared.ParameterError.TheVariants.{NoParameter}
use Rattle.deed.specs.declared.Deed.{Deed}
use Rattle.deed.specs.declared.Deed.TheVariants.{Reply, Fetch, Write}
use Rattle.deed.specs.Deed.{error_area, deed_on, DeedFits}
use Rattle.deed.proofs.DeedLaws.{deed_fits}
use Rattle.slave.specs.declared.Plan.{Plan}
use Rattle.slave.specs.Perform.{found_of, replying, plan_on, plan_in, plan_at}

-- ---- what is found is one of the records, and its places are among the values

pub found_whole : (t : List ℕ) (number k : ℕ) → find_in t number ≡ Some k → 12 * k + 12 ≤ length t
unfolding entries
found_whole t number k e = omega (arith, (found_below number t (length t / 12) 0 k e).below)

pub found_fits : (t : List ℕ) (number k : ℕ) → find_in t number ≡ Some k → first_place t k + count_of (entry_at t k) ≤ counts_of (entries t)
unfolding entries
found_fits t number k e = places_fit t (length t / 12) k (omega (arith, (found_below number t (length t / 12) 0 k e).below))

-- where there are no more places than records, record k's is place k
pub places_single : (t : List ℕ) (k : ℕ) → 12 * k ≤ length t → counts_of (entries t) ≤ length t / 12 → k ≡ first_place t k
unfolding entries
places_single t k h c = one_each t (length t / 12) k (omega arith) c

-- ---- a base of 2000 to 2047 is error 0

module _ (n : ℕ) (t : List ℕ) (a : Area) where
  pub plan_unnamed : (a.pke / 4096 ≡ 0 → ⊥) → 2000 ≤ base_of a.pke → plan_in n t a ≡ replying (error_area a NoParameter)
  unfolding plan_in found_of
  plan_unnamed i h = rw (ne_eqb (a.pke / 4096) 0 i, le-ltb _ _ h)

-- ---- the place of a plan is one of the values

pub fits_more : (d : Deed) (m n : ℕ) → m ≤ n → DeedFits d m → DeedFits d n
fits_more (Reply area) m n h f = tt
fits_more (Fetch area element) m n h f = omega (arith, h, f)
fits_more (Write area element) m n h f = omega (arith, h, f)

-- the record that an area names is one that the search found
pub named_found : (t : List ℕ) (a : Area) (k : ℕ) → found_of t a ≡ Some k → find_in t (full_number a.pke a.ind) ≡ Some k
unfolding found_of
named_found t a k e = go (named a.pke) refl
  where
    go : (b : Bool) → named a.pke ≡ b → find_in t (full_number a.pke a.ind) ≡ Some k
    go true p = rw p at e
    go false p = let z : ◌≡◌ {A = ℕ} 0 1 = cc in absurd (omega arith)

-- so its record is whole
pub named_whole : (t : List ℕ) (a : Area) (k : ℕ) → found_of t a ≡ Some k → 12 * k + 12 ≤ length t
named_whole t a k e = found_whole t (full_number a.pke a.ind) k (named_found t a k e)

module _ (n : ℕ) (t : List ℕ) (count : ℕ) (enough : counts_of (entries t) ≤ count) where
  abbrev Fits : Plan → Type 0
  Fits p = DeedFits p.deed (count - p.first)

  on_fits : (a : Area) (f : Option ℕ) → found_of t a ≡ f → Fits (plan_on n t a f)
  on_fits a None e = tt
  on_fits a (Some k) e =
      fits_more (deed_on n a (entry_at t k)) (count_of (entry_at t k)) (count - first_place t k)
      (omega (arith, found_fits t (full_number a.pke a.ind) k (named_found t a k e), enough)) (deed_fits n a (entry_at t k))

  in_fits : (a : Area) → Fits (plan_in n t a)
  unfolding plan_in
  in_fits a = go (eqb (a.pke / 4096) 0) refl
    where
      go : (b : Bool) → eqb (a.pke / 4096) 0 ≡ b → Fits (plan_in n t a)
      go true p = rw p tt
      go false p = rw p (on_fits a (found_of t a) refl)

  pub plan_fits : (rx : List ℕ) → Fits (plan_at n t rx)
  unfolding plan_at
  plan_fits rx = go (eqb n 0) refl
    where
      go : (b : Bool) → eqb n 0 ≡ b → Fits (plan_at n t rx)
      go true p = rw p tt
      go false p = rw p (in_fits (area_at rx n))
