-- Known figures: what the definitions give beside what document 02, W-204, says, the double by its bits.
--     figures      the list: a unit, a word and a reference; number, raw word and bits of the double
use Rattle.std.specs.Prelude.{ℕ, List, [], ◌∷◌}
use Rattle.std.specs.Float.{binary64}
use Rattle.std.specs.Float.Ieee.{to_bits}
use Rattle.figure.specs.Figures.{figure_of, figure_number, figure_raw, figure_value}
use Rattle.figure.specs.declared.Unit.{Unit}
use Rattle.figure.specs.declared.Unit.TheVariants.{Hertz, Percent, Raw}

-- number, raw word and bits of what is shown
abbrev pub shown : Unit → ℕ → ℕ → List ℕ
shown unit w ref =
    let f = figure_of unit w ref in
    figure_number f ∷ figure_raw f ∷ to_bits binary64 (figure_value f) ∷ []

-- what the definitions give, and what is to be shown
abbrev pub Case : Type 0
Case = List ℕ × List ℕ

abbrev pub figures : List Case
figures =
    -- 4000 is the reference: 50.0 and 100.0
    (shown Hertz 0x4000 50, 0 ∷ 0 ∷ 0x4049_0000_0000_0000 ∷ [])
    ∷ (shown Percent 0x4000 0, 0 ∷ 0 ∷ 0x4059_0000_0000_0000 ∷ [])
    -- the word is signed: C000 is -50.0 and -100.0
    ∷ (shown Hertz 0xC000 50, 0 ∷ 0 ∷ 0xC049_0000_0000_0000 ∷ [])
    ∷ (shown Percent 0xC000 0, 0 ∷ 0 ∷ 0xC059_0000_0000_0000 ∷ [])
    -- -32768: -1300.0 at 650, and -200.0
    ∷ (shown Hertz 0x8000 650, 0 ∷ 0 ∷ 0xC094_5000_0000_0000 ∷ [])
    ∷ (shown Percent 0x8000 0, 0 ∷ 0 ∷ 0xC069_0000_0000_0000 ∷ [])
    -- -1: -1 / 16384 at 1, and -100 / 16384
    ∷ (shown Hertz 0xFFFF 1, 0 ∷ 0 ∷ 0xBF10_0000_0000_0000 ∷ [])
    ∷ (shown Percent 0xFFFF 0, 0 ∷ 0 ∷ 0xBF79_0000_0000_0000 ∷ [])
    -- 0 is positive zero
    ∷ (shown Hertz 0 650, 0 ∷ 0 ∷ 0 ∷ [])
    ∷ (shown Percent 0 0, 0 ∷ 0 ∷ 0 ∷ [])
    -- 7FFF: 1299.9603271484375 at 650, and 199.993896484375
    ∷ (shown Hertz 0x7FFF 650, 0 ∷ 0 ∷ 0x4094_4FD7_6000_0000 ∷ [])
    ∷ (shown Percent 0x7FFF 0, 0 ∷ 0 ∷ 0x4068_FFCE_0000_0000 ∷ [])
    -- the raw word as it came
    ∷ (shown Raw 0x8000 0, 0 ∷ 0x8000 ∷ 0 ∷ [])
    -- references 0, 651 and 2^32 - 1: 50 for hertz, and no figure
    ∷ (shown Hertz 0x4000 0, 50 ∷ 0 ∷ 0 ∷ [])
    ∷ (shown Hertz 0x4000 651, 50 ∷ 0 ∷ 0 ∷ [])
    ∷ (shown Hertz 0x4000 0xFFFF_FFFF, 50 ∷ 0 ∷ 0 ∷ [])
    ∷ (shown Percent 0x4000 651, 0 ∷ 0 ∷ 0x4059_0000_0000_0000 ∷ [])
    ∷ (shown Raw 0x4000 0xFFFF_FFFF, 0 ∷ 0x4000 ∷ 0 ∷ [])
    ∷ []
