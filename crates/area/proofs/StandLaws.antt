-- Words that stand at a place of a list of bytes are read from there: one law over any list of words, and over any list of values.
-- Assumes nothing.
use mathlib.Core.Path.{◌≡◌, refl, ap, ◌∙◌}
use mathlib.Core.Bool.{Bool, true, false, cond}
use mathlib.Core.List.{List, [], ◌∷◌, ◌++◌}
use Prim.Native.Nat.{ℕ, zero, suc, ◌+◌, ◌-◌, ◌*◌, ◌^◌, ◌≤◌, ◌<◌}
use native.Mathlib.Nat.{add-zero}
use native.Mathlib.Omega.{arith}
use lib.Dec.{ltb, lit<}
use lib.ListN.{length, get_or, length-append, get_or-append}
use lib.Seq.{get_or-append-add, get_or-take}
use borrow.Author.Tests.{ltb-true}
use Rattle.words.specs.Words.{word_at}
use Rattle.words.specs.declared.Words.{Words}
use Rattle.area.specs.declared.Area.{Area}
use Rattle.area.specs.Net.{bytes_of, words_of, value_words, pwes, area_words, fixed_words, process_words}
use Rattle.area.specs.Read.{value_at, values_at, words_at, area_at, first_words, process_at}
use Rattle.area.proofs.WordLaws.{AllWords, AllFit, length_value, length_process}

-- the words ws stand at place p
abbrev pub Stands : List ℕ → ℕ → List ℕ → Type 0
Stands t p ws = (i : ℕ) → i < length ws → word_at t (p + i * 2) ≡ get_or ws i 0

-- word i of words written as bytes, whatever stands behind them
pub word_there : (ws rest : List ℕ) (i : ℕ) → AllWords ws → i < length ws → word_at (bytes_of ws ++ rest) (i * 2) ≡ get_or ws i 0
word_there [] rest i h b = absurd (omega arith)
word_there (w ∷ ws) rest zero h b = omega (arith, h 0)
word_there (w ∷ ws) rest (suc i) h b =
    let e : suc i * 2 ≡ suc (suc (i * 2)) = omega arith in
    let f : suc (suc (i * 2)) + 1 ≡ suc (suc (i * 2 + 1)) = omega arith in
    rw (e, f) (word_there ws rest i (λ j. h (suc j)) (omega arith))

module _ (t : List ℕ) (p : ℕ) (ws ps : List ℕ) (s : Stands t p (ws ++ ps)) where
  pub stands_first : Stands t p ws
  stands_first i b = s i (omega (arith, length-append ws ps)) ∙ get_or-append ws ps 0 i b

  pub stands_next : (q : ℕ) → q ≡ p + length ws * 2 → Stands t q ps
  stands_next q e i b =
      let f : q + i * 2 ≡ p + (length ws + i) * 2 = omega arith in
      rw f (s (length ws + i) (omega (arith, length-append ws ps))) ∙ get_or-append-add ws ps i 0

-- the words as a list
pub words_stand : (t : List ℕ) (p : ℕ) (ws : List ℕ) → Stands t p ws → words_at t p (length ws) ≡ ws
words_stand t p [] s = refl
words_stand t p (w ∷ ws) s =
    let here : word_at t p ≡ w = rw add-zero at (s 0 (omega arith)) in
    rw (here, words_stand t (p + 2) ws (stands_next t p (w ∷ []) ws s (p + 2) (omega arith)))

-- a value of at most two words
pub value_stands : (t : List ℕ) (p k v : ℕ) → k ≤ 2 → v < 65536 ^ k → Stands t p (value_words k v) → value_at t p k ≡ v
unfolding value_at
value_stands t p zero v two f s =
    let g : v < 1 = f in
    omega arith
value_stands t p (suc zero) v two f s =
    let g : v < 65536 = f in
    omega (arith, s 0 (lit< tt))
value_stands t p (suc (suc zero)) v two f s =
    let g : v < 4294967296 = f in
    omega (arith, s 0 (lit< tt), s 1 (lit< tt))
value_stands t p (suc (suc (suc k))) v two f s = absurd (omega arith)

-- values one after another
pub values_stand : (t : List ℕ) (p k : ℕ) (vs : List ℕ) → k ≤ 2 → AllFit k vs → Stands t p (pwes k vs) → values_at t p k (length vs) ≡ vs
values_stand t p k [] two f s = refl
values_stand t p k (v ∷ vs) two f s =
    rw (
      value_stands t p k v two (f 0) (stands_first t p (value_words k v) (pwes k vs) s),
      values_stand t (p + k * 2) k vs two (λ i. f (suc i)) (stands_next t p (value_words k v) (pwes k vs) s (p + k * 2) (omega (arith, length_value k v))),
    )

-- PKE, IND and the values of an area
module _ (t : List ℕ) (j pke ind : ℕ) (vs : List ℕ) (s : Stands t 3 (area_words (suc j) pke ind vs)) where
  pub pke_stands : word_at t 3 ≡ pke
  pke_stands = s 0 (omega arith)

  pub ind_stands : word_at t 5 ≡ ind
  ind_stands = s 1 (omega arith)

  pub many_stand : suc j ≤ 2 → AllFit (suc j) vs → values_at t 7 (suc j) (length vs) ≡ vs
  many_stand two f = values_stand t 7 (suc j) vs two f (stands_next t 3 (pke ∷ ind ∷ []) (pwes (suc j) vs) s 7 refl)

-- an area with one value
one_fits : (k v : ℕ) → v < 65536 ^ k → AllFit k (v ∷ [])
one_fits k v f zero = f
one_fits k v f (suc i) = omega (arith, f)

pub area_stands : (t : List ℕ) (k : ℕ) (a : Area) → k ≤ 2 → 1 ≤ k → a.value < 65536 ^ k → Stands t 3 (area_words k a.pke a.ind (a.value ∷ []))
    → record { pke = word_at t 3; ind = word_at t 5; value = value_at t 7 k } ≡ a
area_stands t zero a two one f s = absurd (omega arith)
area_stands t (suc j) a two one f s =
    let vs = a.value ∷ [] in
    let pke = pke_stands t j a.pke a.ind vs s in
    let ind = ind_stands t j a.pke a.ind vs s in
    let value = ap (λ (l : List ℕ). get_or l 0 0) (many_stand t j a.pke a.ind vs s two (one_fits (suc j) a.value f)) in
    λ i. record { pke = pke i; ind = ind i; value = value i }

-- the area of a fixed setting, of three words and of four
pub fixed_stands : (t : List ℕ) (n : ℕ) (a : Area) → 3 ≤ n → n ≤ 4 → a.value < 65536 ^ (n - 2) → Stands t 3 (fixed_words n a) → area_at t n ≡ a
unfolding area_at
fixed_stands t n a three four f s = area_stands t (n - 2) a (omega arith) (omega arith) f s

-- process words behind an area of n words, as the four that a host has
module _ (t : List ℕ) (n pzd : ℕ) (w : Words) (four : pzd ≤ 4) (s : Stands t (n * 2 + 3) (process_words pzd w)) where
  pub word_stood : (i p : ℕ) → i < pzd → p ≡ n * 2 + 3 + i * 2 → word_at t p ≡ get_or (words_of w) i 0
  word_stood i p b e = rw e (s i (omega (arith, length_process pzd w four))) ∙ get_or-take pzd (words_of w) i 0 b

  taken : (i p x : ℕ) → p ≡ n * 2 + 3 + i * 2 → cond (ltb i pzd) (word_at t p) x ≡ cond (ltb i pzd) (get_or (words_of w) i 0) x
  taken i p x e = go (ltb i pzd) refl
    where
      go : (b : Bool) → ltb i pzd ≡ b → cond b (word_at t p) x ≡ cond b (get_or (words_of w) i 0) x
      go true f = word_stood i p (ltb-true i pzd f) e
      go false f = refl

  pub process_stood : (old : Words) → process_at t n pzd old ≡ first_words pzd w old
  unfolding process_at
  process_stood old =
      let p1 = taken 0 (n * 2 + 3) old.w1 (omega arith) in
      let p2 = taken 1 (n * 2 + 3 + 2) old.w2 (omega arith) in
      let p3 = taken 2 (n * 2 + 3 + 4) old.w3 (omega arith) in
      let p4 = taken 3 (n * 2 + 3 + 6) old.w4 (omega arith) in
      λ i. record { w1 = p1 i; w2 = p2 i; w3 = p3 i; w4 = p4 i }
