-- The net bytes of a telegram, over the words of its two areas (document 01, Frame and Parameter area).
--     bytes_of ws                words as bytes, high byte first
--     words_of w                 four words as a list
--     value_words k v            a value over k words, high word first
--     pwes k vs                  values one after another, each over k words
--     area_words k pke ind vs    a parameter area whose values have k words each: PKE, IND and the values; no area where k is 0
--     fixed_words n a            the parameter area of a setting of n words, 0, 3 or 4: one value, over the n - 2 words that are left
--     process_words pzd w        the first pzd of four process words
--     net_of ws ps               the net bytes: the words of the parameter area, then those of the process area
use Rattle.std.specs.Prelude.{ℕ, zero, suc, ◌-◌, ◌/◌, ◌%◌, List, [], ◌∷◌, ◌++◌, take}
use Rattle.words.specs.declared.Words.{Words}
use Rattle.area.specs.declared.Area.{Area}

abbrev pub bytes_of : List ℕ → List ℕ
bytes_of [] = []
bytes_of (w ∷ ws) = w / 256 ∷ w % 256 ∷ bytes_of ws

abbrev pub words_of : Words → List ℕ
words_of w = w.w1 ∷ w.w2 ∷ w.w3 ∷ w.w4 ∷ []

abbrev pub value_words : ℕ → ℕ → List ℕ
value_words zero v = []
value_words (suc k) v = value_words k (v / 65536) ++ v % 65536 ∷ []

abbrev pub pwes : ℕ → List ℕ → List ℕ
pwes k [] = []
pwes k (v ∷ vs) = value_words k v ++ pwes k vs

abbrev pub area_words : ℕ → ℕ → ℕ → List ℕ → List ℕ
area_words zero pke ind vs = []
area_words (suc k) pke ind vs = pke ∷ ind ∷ pwes (suc k) vs

abbrev pub fixed_words : ℕ → Area → List ℕ
fixed_words n a = area_words (n - 2) a.pke a.ind (a.value ∷ [])

abbrev pub process_words : ℕ → Words → List ℕ
process_words pzd w = take pzd (words_of w)

unfoldable pub net_of : List ℕ → List ℕ → List ℕ
net_of ws ps = bytes_of (ws ++ ps)
