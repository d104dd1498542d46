-- The areas of a telegram, read from its bytes (document 01, Parameter area): the net bytes start at place 3.
--     value_at t p k            the value over k words from place p on, high word first; a value has two words at most
--     values_at t p k m         m such values, one after another
--     words_at t p m            m words from place p on
--     area_at t n               the parameter area of n words, with one value
--     first_words pzd w old     the first pzd of four words; the rest are the old ones
--     four_at t p               the four words from place p on
--     process_at t n pzd old    the first pzd process words, behind an area of n words; the rest are the old ones
--     empty_area                an area whose words are all 0
--     Worded w                  each of the four is a word
use Rattle.std.specs.Prelude.{ℕ, zero, suc, ◌+◌, ◌-◌, ◌*◌, ◌%◌, ◌<◌, List, [], ◌∷◌, cond, ltb}
use Rattle.words.specs.Words.{word_at, double_of}
use Rattle.words.specs.declared.Words.{Words}
use Rattle.area.specs.declared.Area.{Area}

unfoldable pub value_at : List ℕ → ℕ → ℕ → ℕ
value_at t p zero = 0
value_at t p (suc k) = double_of (value_at t p k % 65536) (word_at t (p + k * 2))

abbrev pub values_at : List ℕ → ℕ → ℕ → ℕ → List ℕ
values_at t p k zero = []
values_at t p k (suc m) = value_at t p k ∷ values_at t (p + k * 2) k m

abbrev pub words_at : List ℕ → ℕ → ℕ → List ℕ
words_at t p zero = []
words_at t p (suc m) = word_at t p ∷ words_at t (p + 2) m

unfoldable pub area_at : List ℕ → ℕ → Area
area_at t n = record { pke = word_at t 3; ind = word_at t 5; value = value_at t 7 (n - 2) }

abbrev pub first_words : ℕ → Words → Words → Words
first_words pzd w old = record {
  w1 = cond (ltb 0 pzd) w.w1 old.w1;
  w2 = cond (ltb 1 pzd) w.w2 old.w2;
  w3 = cond (ltb 2 pzd) w.w3 old.w3;
  w4 = cond (ltb 3 pzd) w.w4 old.w4;
}

abbrev pub four_at : List ℕ → ℕ → Words
four_at t p = record { w1 = word_at t p; w2 = word_at t (p + 2); w3 = word_at t (p + 4); w4 = word_at t (p + 6) }

unfoldable pub process_at : List ℕ → ℕ → ℕ → Words → Words
process_at t n pzd old = first_words pzd (four_at t (n * 2 + 3)) old

abbrev pub empty_area : Area
empty_area = record { pke = 0; ind = 0; value = 0 }

pub record Worded (w : Words) : Type 0 where
  pub first : w.w1 < 65536
  pub second : w.w2 < 65536
  pub third : w.w3 < 65536
  pub fourth : w.w4 < 65536
