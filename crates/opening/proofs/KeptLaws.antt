-- A change of one place to a value within its record's limits keeps the opening check passing. Assumes nothing.
use Prim.Native.Nat.{ℕ, zero, suc, ◌+◌, ◌/◌, ◌<◌, ◌≤◌}
use mathlib.Core.Path.{◌≡◌, refl, sym, ◌∙◌}
use mathlib.Core.List.{List, [], ◌∷◌}
use mathlib.Core.Bool.{true}
use native.Mathlib.Omega.{arith}
use native.Mathlib.Decide.{ℕ_discrete}
use native.Mathlib.Nat.{add-zero}
use lib.ListN.{length, get_or, set, length-set}
use lib.Seq.{get_or-set_same, get_or-set_other}
use Rattle.rows.proofs.BoolLaws.{and_left, and_right, and_both}
use Rattle.entry.specs.declared.Entry.{Entry}
use Rattle.entry.specs.Fields.{count_of}
use Rattle.limits.specs.Limits.{is_within}
use Rattle.table.specs.Records.{entry_at, entries_from, entries, counts_of, first_place}
use Rattle.table.proofs.RecordsLaws.{places_fit}
use Rattle.opening.specs.Rules.{run_ok, runs_ok}
use Rattle.opening.specs.Lent.{Lent, stored, lending}
use Rattle.opening.specs.Answers.{opening_of, passed}
use Rattle.opening.proofs.AnswersLaws.{passed_opened, opened_passes}

-- what a value at place q has to keep, of records whose places start at p
abbrev Allows : List Entry → ℕ → ℕ → ℕ → Type 0
Allows [] p q v = Unit {0}
Allows (e ∷ es) p q v = (p ≤ q → q < p + count_of e → is_within e v ≡ true) × Allows es (p + count_of e) q v

module _ (vs : List ℕ) (q v : ℕ) (there : q < length vs) where
  one_set : (e : Entry) (p : ℕ) → (p ≡ q → is_within e v ≡ true) → is_within e (get_or vs p 0) ≡ true → is_within e (get_or (set vs q v) p 0) ≡ true
  one_set e p ok h = go (ℕ_discrete p q)
    where
      go : Dec (p ≡ q) → is_within e (get_or (set vs q v) p 0) ≡ true
      go (yes s) = rw (s, get_or-set_same vs q v 0 there) (ok s)
      go (no s) = rw (get_or-set_other vs q p v 0 s) h

  run_set : (e : Entry) (n p : ℕ) → (p ≤ q → q < p + n → is_within e v ≡ true) → run_ok e vs n p ≡ true → run_ok e (set vs q v) n p ≡ true
  unfolding run_ok
  run_set e zero p ok h = refl
  run_set e (suc n) p ok h =
      let x = is_within e (get_or vs p 0) in
      let y = run_ok e vs n (suc p) in
      and_both
      (one_set e p (λ s. ok (omega arith) (omega arith)) (and_left x y h))
      (run_set e n (suc p) (λ a b. ok (omega arith) (omega arith)) (and_right x y h))

  runs_set : (es : List Entry) (p : ℕ) → Allows es p q v → runs_ok es vs p ≡ true → runs_ok es (set vs q v) p ≡ true
  unfolding runs_ok
  runs_set [] p ok h = refl
  runs_set (e ∷ es) p ok h =
      let x = run_ok e vs (count_of e) p in
      let y = runs_ok es vs (p + count_of e) in
      and_both
      (run_set e (count_of e) p ok.0 (and_left x y h))
      (runs_set es (p + count_of e) ok.1 (and_right x y h))

-- a place before them all is none of theirs
allows_past : (es : List Entry) (p q v : ℕ) → q < p → Allows es p q v
allows_past [] p q v h = tt
allows_past (e ∷ es) p q v h = ((λ a b. absurd (omega arith)), allows_past es (p + count_of e) q v (omega arith))

-- a place of the m-th of them
allows_at : (t : List ℕ) (m n j p i v : ℕ) → m < n → i < count_of (entry_at t (j + m)) → is_within (entry_at t (j + m)) v ≡ true
    → Allows (entries_from t n j) p (p + counts_of (entries_from t m j) + i) v
unfolding entries_from counts_of
allows_at t m zero j p i v a b c = absurd (omega arith)
allows_at t zero (suc n) j p i v a b c =
    let b' = rw add-zero at b in
    ((λ x y. rw add-zero at c), allows_past (entries_from t n (suc j)) _ _ v (omega arith))
allows_at t (suc m) (suc n) j p i v a b c =
    let s : j + suc m ≡ suc j + m = omega arith in
    let r = entries_from t m (suc j) in
    let e = entry_at t j in
    let z : p + (count_of e + counts_of r) + i ≡ p + count_of e + counts_of r + i = omega arith in (
      (λ x y. absurd (omega arith)),
      rw z (allows_at t m n (suc j) (p + count_of e) i v (omega arith) (rw s at b) (rw s at c)),
    )

-- the place of element i of record k
module _ (t vs : List ℕ) (k i : ℕ) (below : k < length t / 12) (element : i < count_of (entry_at t k)) (count : counts_of (entries t) ≡ length vs) where
  pub place_below : first_place t k + i < length vs
  unfolding entries
  place_below = let f = places_fit t (length t / 12) k below in omega arith

  pub runs_kept : (v : ℕ) → is_within (entry_at t k) v ≡ true → runs_ok (entries t) vs 0 ≡ true → runs_ok (entries t) (set vs (first_place t k + i) v) 0 ≡ true
  unfolding entries
  runs_kept v w h =
      let n = length t / 12 in
      let z : 0 + counts_of (entries_from t k 0) + i ≡ first_place t k + i = omega arith in
      let s : 0 + k ≡ k = omega arith in
      let ok = rw z at (allows_at t k n 0 0 i v below (rw s element) (rw s w)) in
      runs_set vs (first_place t k + i) v place_below (entries_from t n 0) 0 ok h

-- 20 to 23 and 25 stay passed after a change of one place to a value within its record's limits
pub change_keeps_opening : (l : Lent) (k i v : ℕ) → opening_of l ≡ passed → k < length l.table / 12 → i < count_of (entry_at l.table k)
    → is_within (entry_at l.table k) v ≡ true → opening_of (lending l (stored l.memory (first_place l.table k + i) v)) ≡ passed
change_keeps_opening l k i v e a b c =
    let t = l.table in
    let vs = l.memory.values in
    let o = passed_opened l e in
    opened_passes
    (lending l (stored l.memory (first_place t k + i) v))
    (record {
      setup_good = o.setup_good;
      whole = o.whole;
      short = o.short;
      rising = o.rising;
      ruled = o.ruled;
      places = o.places;
      count = o.count ∙ sym (length-set vs (first_place t k + i) v);
      limits = runs_kept t vs k i a b o.count v c o.limits;
      list_right = o.list_right;
      buffer = o.buffer;
    })
