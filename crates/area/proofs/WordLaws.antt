-- Lists of words: how many there are, and that each is a word. Assumes nothing.
use mathlib.Core.Path.{◌≡◌, refl, ap, ◌∙◌}
use mathlib.Core.Logic.{◌⊎◌, inl, inr}
use mathlib.Core.List.{List, [], ◌∷◌, ◌++◌}
use Prim.Native.Nat.{ℕ, zero, suc, ◌+◌, ◌-◌, ◌*◌, ◌/◌, ◌%◌, ◌^◌, ◌≤◌, ◌<◌}
use native.Mathlib.Omega.{arith}
use lib.Dec.{lit<}
use lib.ListN.{length, get_or, take, length-append}
use lib.Seq.{length-take-le}
use Rattle.words.specs.declared.Words.{Words}
use Rattle.area.specs.declared.Area.{Area}
use Rattle.area.specs.Net.{bytes_of, words_of, value_words, pwes, area_words, fixed_words, process_words, net_of}
use Rattle.area.specs.Read.{Worded}

-- ---- how many

pub bytes_append : (ws vs : List ℕ) → bytes_of (ws ++ vs) ≡ bytes_of ws ++ bytes_of vs
bytes_append [] vs = refl
bytes_append (w ∷ ws) vs = ap (λ (l : List ℕ). w / 256 ∷ w % 256 ∷ l) (bytes_append ws vs)

pub length_bytes : (ws : List ℕ) → length (bytes_of ws) ≡ length ws * 2
length_bytes [] = refl
length_bytes (w ∷ ws) = omega (arith, length_bytes ws)

pub length_value : (k v : ℕ) → length (value_words k v) ≡ k
length_value zero v = refl
length_value (suc k) v = length-append (value_words k (v / 65536)) (v % 65536 ∷ []) ∙ omega (arith, length_value k (v / 65536))

pub length_pwes : (k : ℕ) (vs : List ℕ) → length (pwes k vs) ≡ length vs * k
length_pwes k [] = omega arith
length_pwes k (v ∷ vs) = length-append (value_words k v) (pwes k vs) ∙ omega (arith, length_value k v, length_pwes k vs)

pub length_area : (k pke ind : ℕ) (vs : List ℕ) → 1 ≤ k → length (area_words k pke ind vs) ≡ length vs * k + 2
length_area zero pke ind vs h = absurd (omega arith)
length_area (suc k) pke ind vs h = omega (arith, length_pwes (suc k) vs)

-- with a word to a value and more there is an area
pub area_is : (k pke ind : ℕ) (vs : List ℕ) → 1 ≤ k → area_words k pke ind vs ≡ pke ∷ ind ∷ pwes k vs
area_is zero pke ind vs h = absurd (omega arith)
area_is (suc k) pke ind vs h = refl

-- the sizes of an area with one value: none, or PKE, IND and a word at least
abbrev pub Sized : ℕ → Type 0
Sized n = (n ≡ 0) ⊎ (3 ≤ n)

pub length_fixed : (n : ℕ) (a : Area) → Sized n → length (fixed_words n a) ≡ n
length_fixed n a (inl e) = rw e
length_fixed n a (inr h) = omega (arith, length_area (n - 2) a.pke a.ind (a.value ∷ []) (omega arith))

pub length_process : (pzd : ℕ) (w : Words) → pzd ≤ 4 → length (process_words pzd w) ≡ pzd
length_process pzd w few = length-take-le pzd (words_of w) few

pub length_net : (ws ps : List ℕ) → length (net_of ws ps) ≡ (length ws + length ps) * 2
unfolding net_of
length_net ws ps = length_bytes (ws ++ ps) ∙ omega (arith, length-append ws ps)

-- ---- every element is a word

abbrev pub AllWords : List ℕ → Type 0
AllWords ws = (i : ℕ) → get_or ws i 0 < 65536

pub all_none : AllWords []
all_none i = lit< tt

pub all_cons : (x : ℕ) (xs : List ℕ) → x < 65536 → AllWords xs → AllWords (x ∷ xs)
all_cons x xs h g zero = h
all_cons x xs h g (suc i) = g i

pub all_append : (xs ys : List ℕ) → AllWords xs → AllWords ys → AllWords (xs ++ ys)
all_append [] ys h g i = g i
all_append (x ∷ xs) ys h g zero = h 0
all_append (x ∷ xs) ys h g (suc i) = all_append xs ys (λ j. h (suc j)) g i

all_take : (n : ℕ) (xs : List ℕ) → AllWords xs → AllWords (take n xs)
all_take zero xs h i = lit< tt
all_take (suc n) [] h i = lit< tt
all_take (suc n) (x ∷ xs) h zero = h 0
all_take (suc n) (x ∷ xs) h (suc i) = all_take n xs (λ j. h (suc j)) i

all_value : (k v : ℕ) → AllWords (value_words k v)
all_value zero v = all_none
all_value (suc k) v = all_append (value_words k (v / 65536)) (v % 65536 ∷ []) (all_value k (v / 65536)) (all_cons (v % 65536) [] (omega arith) all_none)

all_pwes : (k : ℕ) (vs : List ℕ) → AllWords (pwes k vs)
all_pwes k [] = all_none
all_pwes k (v ∷ vs) = all_append (value_words k v) (pwes k vs) (all_value k v) (all_pwes k vs)

pub all_area : (k pke ind : ℕ) (vs : List ℕ) → pke < 65536 → ind < 65536 → AllWords (area_words k pke ind vs)
all_area zero pke ind vs p q = all_none
all_area (suc k) pke ind vs p q = all_cons pke (ind ∷ pwes (suc k) vs) p (all_cons ind (pwes (suc k) vs) q (all_pwes (suc k) vs))

-- PKE and IND are words
pub record Headed (a : Area) : Type 0 where
  pub pke_word : a.pke < 65536
  pub ind_word : a.ind < 65536

pub all_fixed : (n : ℕ) (a : Area) → Headed a → AllWords (fixed_words n a)
all_fixed n a h = all_area (n - 2) a.pke a.ind (a.value ∷ []) h.pke_word h.ind_word

pub all_process : (pzd : ℕ) (w : Words) → Worded w → AllWords (process_words pzd w)
all_process pzd w h =
    all_take pzd (words_of w)
    (all_cons w.w1 (w.w2 ∷ w.w3 ∷ w.w4 ∷ []) h.first
    (all_cons w.w2 (w.w3 ∷ w.w4 ∷ []) h.second (all_cons w.w3 (w.w4 ∷ []) h.third (all_cons w.w4 [] h.fourth all_none))))

-- each value fits its words
abbrev pub AllFit : ℕ → List ℕ → Type 0
AllFit k vs = (i : ℕ) → get_or vs i 0 < 65536 ^ k
