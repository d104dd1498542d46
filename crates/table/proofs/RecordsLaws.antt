-- Laws of the records of a table. Assumes nothing.
use Prim.Native.Nat.{ℕ, zero, suc, ◌+◌, ◌-◌, ◌*◌, ◌/◌, ◌%◌, ◌<◌, ◌≤◌}
use mathlib.Core.Path.{◌≡◌, refl, sym, ap, ◌∙◌}
use mathlib.Core.List.{List, [], ◌∷◌}
use mathlib.Core.Bool.{Bool, true, false, cond}
use lib.Dec.{eqb}
use lib.ListN.{length, take, drop, length-drop}
use lib.Seq.{get_or-take, get_or-drop, length-take-le}
use native.Mathlib.Omega.{arith}
use native.Mathlib.Numerals.{add-one}
use native.Mathlib.Nat.{zero-add, add-zero, suc-add}
use borrow.Author.Tests.{le-ltb, eq-eqb, ne_eqb, eqb-true, eqb-false}
use Rattle.std.specs.Prelude.{Option, Some, None}
use Rattle.words.specs.Words.{byte_at, double_at, Bytes}
use Rattle.entry.specs.declared.Entry.{Entry}
use Rattle.entry.specs.Fields.{entry_of, count_of}
use Rattle.entry.proofs.CountLaws.{count_le, count_ge}
use Rattle.table.specs.Records.{record_of, entry_in, entry_at, entries_from, find_from, counts_of}

-- the step of every loop over the records
pub entries_step : (t : List ℕ) (n k : ℕ) → k < n → entries_from t (n - k) k ≡ entry_at t k ∷ entries_from t (n - (k + 1)) (k + 1)
unfolding entries_from
entries_step t n k h =
    let e : n - k ≡ suc (n - (k + 1)) = omega arith in
    rw (e, add-one)

pub entries_end : (t : List ℕ) (n k : ℕ) → n ≤ k → entries_from t (n - k) k ≡ []
unfolding entries_from
entries_end t n k h =
    let e : n - k ≡ 0 = omega arith in
    rw e

-- two tests for equality of one outcome
eqb_iff : (x y u v : ℕ) → (x ≡ y → u ≡ v) → (u ≡ v → x ≡ y) → eqb x y ≡ eqb u v
eqb_iff x y u v f g = go (eqb x y) refl
  where
    go : (b : Bool) → eqb x y ≡ b → eqb x y ≡ eqb u v
    go true e = e ∙ sym (eq-eqb u v (f (eqb-true x y e)))
    go false e = e ∙ sym (ne_eqb u v (λ q. eqb-false x y e (g q)))

-- the number is in the first two bytes of a record: eight bits of it in the first, seven in the second
module _ (t : List ℕ) (k number : ℕ) (b : Bytes t) where
  pub number_same : byte_at t (12 * k) ≡ number / 128 → eqb (byte_at t (12 * k + 1) / 2) (number % 128) ≡ eqb (entry_at t k).number number
  unfolding entry_at entry_of
  number_same h =
      let r = b (12 * k + 2) in
      let s = b (12 * k + 2 + 1) in
      let o = b (12 * k + 1) in
      eqb_iff (byte_at t (12 * k + 1) / 2) (number % 128) (double_at t (12 * k) / 131072) number (λ q. omega arith) (λ q. omega arith)

  pub number_other : (byte_at t (12 * k) ≡ number / 128 → ⊥) → false ≡ eqb (entry_at t k).number number
  unfolding entry_at entry_of
  number_other h =
      let r = b (12 * k + 2) in
      let s = b (12 * k + 2 + 1) in
      let o = b (12 * k + 1) in
      sym (ne_eqb (double_at t (12 * k) / 131072) number (λ q. h (omega arith)))

-- ---- a record by its twelve bytes

-- a byte of a part, and a double word
byte_part : (t : List ℕ) (m a i j : ℕ) → i < m → j ≡ a + i → byte_at (take m (drop a t)) i ≡ byte_at t j
byte_part t m a i j h e = get_or-take m (drop a t) i 0 h ∙ get_or-drop a t i 0 ∙ ap (byte_at t) (sym e)

double_part : (t : List ℕ) (m a i j : ℕ) → i + 4 ≤ m → j ≡ a + i → double_at (take m (drop a t)) i ≡ double_at t j
double_part t m a i j h e =
    rw (byte_part t m a i j (omega arith) e, byte_part t m a (i + 1) (j + 1) (omega arith) (omega arith), byte_part t m a (i + 2) (j + 2) (omega arith) (omega arith), byte_part t m a (i + 2 + 1) (j + 2 + 1) (omega arith) (omega arith))

-- record k is that of its part of the table
module _ (t : List ℕ) (k m : ℕ) (there : 12 * k + 12 ≤ length t) (twelve : m ≡ 12) where
  abbrev part : List ℕ
  part = take m (drop (12 * k) t)

  pub record_part : record_of part ≡ record { head = double_at t (12 * k); minimum = double_at t (12 * k + 4); maximum = double_at t (12 * k + 8) }
  unfolding record_of
  record_part =
      let long : 12 ≤ length part = omega (arith, length-take-le m (drop (12 * k) t) (simp length-drop (omega arith))) in
      rw (le-ltb (length part) 12 long, double_part t m (12 * k) 0 (12 * k) (omega arith) (omega arith), double_part t m (12 * k) 4 (12 * k + 4) (omega arith) refl, double_part t m (12 * k) 8 (12 * k + 8) (omega arith) refl)

  pub entry_part : entry_in part ≡ entry_at t k
  unfolding entry_at
  entry_part = rw record_part

pub count_at_le : (t : List ℕ) (k : ℕ) → count_of (entry_at t k) ≤ 255
unfolding entry_at
count_at_le t k = count_le (double_at t (12 * k)) (double_at t (12 * k + 4)) (double_at t (12 * k + 8))

-- the search, record by record
module _ (number : ℕ) (e : Entry) (es : List Entry) (k : ℕ) where
  pub find_here : e.number ≡ number → find_from number (e ∷ es) k ≡ Some k
  unfolding find_from
  find_here h = simp (eq-eqb _ _ h)

  pub find_on : (e.number ≡ number → ⊥) → find_from number (e ∷ es) k ≡ find_from number es (k + 1)
  unfolding find_from
  find_on h = simp (ne_eqb _ _ h, add-one)

pub find_none : (number k : ℕ) → find_from number [] k ≡ None
unfolding find_from
find_none number k = refl

-- what is found is one of the records, and has that number
pub record Finds (t : List ℕ) (number k n : ℕ) : Type 0 where
  pub below : k < n
  pub is : (entry_at t k).number ≡ number

found_go : (t : List ℕ) (number j k n : ℕ) (rest : Option ℕ) (b : Bool) → eqb (entry_at t j).number number ≡ b → cond b (Some j) rest ≡ Some k
    → (rest ≡ Some k → Finds t number k (suc j + n)) → Finds t number k (j + suc n)
found_go t number j k n rest true q e h =
    let s : j ≡ k = cc in
    record { below = omega arith; is = ap (λ (i : ℕ). (entry_at t i).number) (sym s) ∙ eqb-true (entry_at t j).number number q }
found_go t number j k n rest false q e h = let f = h e in record { below = omega arith; is = f.is }

pub found_below : (number : ℕ) (t : List ℕ) (n j k : ℕ) → find_from number (entries_from t n j) j ≡ Some k → Finds t number k (j + n)
unfolding find_from entries_from
found_below number t zero j k e = let z : ◌≡◌ {A = ℕ} 0 1 = cc in absurd (omega arith)
found_below number t (suc n) j k e =
    found_go t number j k n (find_from number (entries_from t n (suc j)) (suc j)) (eqb (entry_at t j).number number) refl e (found_below number t n (suc j) k)

-- the places of records
pub counts_none : counts_of [] ≡ 0
unfolding counts_of
counts_none = refl

pub counts_more : (e : Entry) (es : List Entry) → counts_of (e ∷ es) ≡ count_of e + counts_of es
unfolding counts_of
counts_more e es = refl

-- the records before k, and those from k on
pub counts_split : (t : List ℕ) (k n j : ℕ) → counts_of (entries_from t (k + n) j) ≡ counts_of (entries_from t k j) + counts_of (entries_from t n (j + k))
unfolding counts_of entries_from
counts_split t zero n j = simp (zero-add, add-zero)
counts_split t (suc k) n j =
    let ih = counts_split t k n (suc j) in
    let e : j + suc k ≡ suc j + k = omega arith in
    rw (suc-add, e, ih) (omega arith)

-- the places of record k are among all
pub places_fit : (t : List ℕ) (n k : ℕ) → k < n → counts_of (entries_from t k 0) + count_of (entry_at t k) ≤ counts_of (entries_from t n 0)
places_fit t n k h =
    let e : n ≡ k + (n - k) = omega arith in
    let s = rw (← e, zero-add) at (counts_split t k (n - k) 0) in
    let m = ap counts_of (entries_step t n k h) ∙ counts_more (entry_at t k) (entries_from t (n - (k + 1)) (k + 1)) in
    omega arith

-- where there are no more places than records, each takes one
counts_least : (t : List ℕ) (n j : ℕ) → n ≤ counts_of (entries_from t n j)
unfolding counts_of entries_from
counts_least t zero j = omega arith
counts_least t (suc n) j = omega (arith, count_ge (entry_at t j), counts_least t n (suc j))

pub one_each : (t : List ℕ) (n k : ℕ) → k ≤ n → counts_of (entries_from t n 0) ≤ n → k ≡ counts_of (entries_from t k 0)
one_each t n k h c =
    let e : n ≡ k + (n - k) = omega arith in
    let s = rw (← e, zero-add) at (counts_split t k (n - k) 0) in
    omega (arith, counts_least t k 0, counts_least t (n - k) k)
