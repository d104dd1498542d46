-- Known views: what the definitions give beside what is to be shown.
--     fields_of s    what is shown, as a list: there, parameter, double, signed, writable, elements, minimum, maximum
--     viewed t       the number at the start, then the fields of each record shown in five looks
--     views          the list
use Rattle.std.specs.Prelude.{ℕ, List, [], ◌∷◌, ◌++◌, map}
use Rattle.view.specs.View.{cursor_at, open_of, show_of, step_of}
use Rattle.view.specs.declared.Cursor.{Cursor}
use Rattle.view.specs.declared.Shown.{Shown}
use Rattle.claims_view.specs.Walks.{walk_of}

abbrev pub fields_of : Shown → List ℕ
fields_of s =
    s.there
    ∷ s.parameter
    ∷ s.is_double
    ∷ s.is_signed
    ∷ s.writable
    ∷ s.elements
    ∷ s.minimum
    ∷ s.maximum
    ∷ []

abbrev pub viewed : List ℕ → List (List ℕ)
viewed t = ((open_of t).number ∷ []) ∷ map fields_of (walk_of t 5 (open_of t))

-- the fields at a cursor, whatever stands in it
abbrev pub shown_at : List ℕ → Cursor → List (List ℕ)
shown_at t c = fields_of (show_of t c) ∷ []

-- number and record of the cursor one step on
abbrev pub stepped_to : List ℕ → Cursor → List (List ℕ)
stepped_to t c = ((step_of t c).number ∷ (step_of t c).at ∷ []) ∷ []

-- 1000: two words, unsigned, writable, 0 to 10
abbrev pub words : List ℕ
words = 0x07 ∷ 0xd0 ∷ 0x40 ∷ 0x80 ∷ 0 ∷ 0 ∷ 0 ∷ 0 ∷ 0 ∷ 0 ∷ 0 ∷ 10 ∷ []

-- 1082: a signed word, writable, -100 to 100
abbrev pub word : List ℕ
word = 0x08 ∷ 0x74 ∷ 0xc0 ∷ 0 ∷ 0 ∷ 0 ∷ 0xff ∷ 0x9c ∷ 0 ∷ 0 ∷ 0 ∷ 100 ∷ []

-- 2000: a signed double, not writable, -1 to 1
abbrev pub double : List ℕ
double = 0x0f ∷ 0xa1 ∷ 0x80 ∷ 0 ∷ 0xff ∷ 0xff ∷ 0xff ∷ 0xff ∷ 0 ∷ 0 ∷ 0 ∷ 1 ∷ []

abbrev pub three : List ℕ
three = words ++ word ++ double

-- what the definitions give, and what is to be shown
abbrev pub Case : Type 0
Case = List (List ℕ) × List (List ℕ)

abbrev pub views : List Case
views =
    -- no record, one, three
    (viewed [], (0 ∷ []) ∷ [])
    ∷ (viewed double, (0 ∷ []) ∷ (1 ∷ 2000 ∷ 1 ∷ 1 ∷ 0 ∷ 0 ∷ 0xffff_ffff ∷ 1 ∷ []) ∷ [])
    ∷ (
      viewed three,
      (0 ∷ [])
          ∷ (1 ∷ 1000 ∷ 0 ∷ 0 ∷ 1 ∷ 2 ∷ 0 ∷ 10 ∷ [])
          ∷ (1 ∷ 1082 ∷ 0 ∷ 1 ∷ 1 ∷ 0 ∷ 0xff9c ∷ 100 ∷ [])
          ∷ (1 ∷ 2000 ∷ 1 ∷ 1 ∷ 0 ∷ 0 ∷ 0xffff_ffff ∷ 1 ∷ [])
          ∷ [],
    )
    -- numbers that fall, a number twice, a part of a record: 21, and nothing
    ∷ (viewed (word ++ words), (21 ∷ []) ∷ [])
    ∷ (viewed (word ++ word), (21 ∷ []) ∷ [])
    ∷ (viewed (words ++ 0 ∷ []), (21 ∷ []) ∷ [])
    -- a cursor from the host: the second record, past the last, a number that is not 0
    ∷ (shown_at three (cursor_at 0 1), (1 ∷ 1082 ∷ 0 ∷ 1 ∷ 1 ∷ 0 ∷ 0xff9c ∷ 100 ∷ []) ∷ [])
    ∷ (shown_at three (cursor_at 0 3), (0 ∷ 0 ∷ 0 ∷ 0 ∷ 0 ∷ 0 ∷ 0 ∷ 0 ∷ []) ∷ [])
    ∷ (shown_at three (cursor_at 7 1), (0 ∷ 0 ∷ 0 ∷ 0 ∷ 0 ∷ 0 ∷ 0 ∷ 0 ∷ []) ∷ [])
    ∷ (stepped_to three (cursor_at 0 2), (0 ∷ 3 ∷ []) ∷ [])
    ∷ (stepped_to three (cursor_at 0 3), (0 ∷ 3 ∷ []) ∷ [])
    ∷ (stepped_to three (cursor_at 0 0xffff_ffff), (0 ∷ 0xffff_ffff ∷ []) ∷ [])
    ∷ (stepped_to three (cursor_at 7 1), (7 ∷ 1 ∷ []) ∷ [])
    ∷ []
