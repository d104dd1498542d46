-- What a figure says of the two whole numbers, the word's product and 16384 (document 02, W-204).
--     Times16384 x z        the double x times 16384 is z: nothing is rounded
--     Shows unit w ref f    what f says where the word w is shown as that unit
use Rattle.std.specs.Prelude.{ℕ, ◌≡◌, true, false, ℤ, nat_abs, Float, Result, Ok, Err}
use Rattle.std.specs.Float.Ieee.Exact.{HasValue}
use Rattle.figure.specs.Figures.{product_of, is_minus, reference_ok}
use Rattle.figure.specs.declared.Unit.{Unit}
use Rattle.figure.specs.declared.Unit.TheVariants as U
use Rattle.figure.specs.declared.Figure.{Figure}
use Rattle.figure.specs.declared.Figure.TheVariants as F
use Rattle.figure.specs.declared.FigureFault.{FigureFault}
use Rattle.figure.specs.declared.FigureFault.TheVariants.{BadReference}

-- x is finite and has z's sign, that of zero being plus; and of its digits m and exponent e, m × 2^e × 16384 is z without its sign
abbrev pub Times16384 : Float → ℤ → Type 0
Times16384 x z = HasValue x (is_minus z) (nat_abs z) 16384

-- no figure for hertz exactly where the reference is out of range, and a figure always for the others
abbrev pub Shows : Unit → ℕ → ℕ → Result Figure FigureFault → Type 0
Shows U.Hertz w ref (Ok (F.Hertz x)) = (reference_ok ref ≡ true) × Times16384 x (product_of w ref)
Shows U.Hertz w ref (Err BadReference) = reference_ok ref ≡ false
Shows U.Hertz w ref (Ok (F.Percent x)) = ⊥
Shows U.Hertz w ref (Ok (F.Raw x)) = ⊥
Shows U.Percent w ref (Ok (F.Percent x)) = Times16384 x (product_of w 100)
Shows U.Percent w ref (Ok (F.Hertz x)) = ⊥
Shows U.Percent w ref (Ok (F.Raw x)) = ⊥
Shows U.Percent w ref (Err BadReference) = ⊥
Shows U.Raw w ref (Ok (F.Raw x)) = x ≡ w
Shows U.Raw w ref (Ok (F.Hertz x)) = ⊥
Shows U.Raw w ref (Ok (F.Percent x)) = ⊥
Shows U.Raw w ref (Err BadReference) = ⊥
