-- The figure that a panel shows of a process word (document 02, W-204). By 004 hexadecimal 4000, which is 16384, is the reference.
--     product_of w by         the word, signed, times the multiplier: the reference for hertz, 100 for percent
--     is_minus z              z is below zero; zero is not
--     over16384 z             z / 16384 as a double
--     reference_ok ref        1 to 650 whole hertz
--     figure_of unit w ref    what is shown, or 50
--     fault_number f          the document's number of a refusal
--     figure_number f         the number of what is shown: 50 where there is no figure, else 0
--     figure_raw f            the raw word, where it is shown, else 0
--     figure_value f          the double, where one is shown, else positive zero
use Rattle.std.specs.Prelude.{ℕ, Bool, true, false, cond, ◌&&◌, leb, ℤ, pos, negsuc, ◌*ℤ◌, nat_abs, Float, Result, Ok, Err}
use Rattle.std.specs.Float.{fin, binary64}
use Rattle.std.specs.Float.Ieee.{round}
use Rattle.signs.specs.Signs.{signed_of}
use Rattle.figure.specs.declared.Unit.{Unit}
use Rattle.figure.specs.declared.Unit.TheVariants as U
use Rattle.figure.specs.declared.Figure.{Figure}
use Rattle.figure.specs.declared.Figure.TheVariants as F
use Rattle.figure.specs.declared.FigureFault.{FigureFault}
use Rattle.figure.specs.declared.FigureFault.TheVariants.{BadReference}

abbrev pub product_of : ℕ → ℕ → ℤ
product_of w by = signed_of false w *ℤ pos by

abbrev pub is_minus : ℤ → Bool
is_minus (pos n) = false
is_minus (negsuc n) = true

-- the double that is nearest to |z| / 16384, with z's sign; the product of a word with a multiplier of up to 650 is never rounded:
-- `scaled_exact` (claims_figure, FigureExact)
unfoldable pub over16384 : ℤ → Float
over16384 z = round binary64 (is_minus z) (nat_abs z) 16384

abbrev pub reference_ok : ℕ → Bool
reference_ok ref = leb 1 ref && leb ref 650

unfoldable pub figure_of : Unit → ℕ → ℕ → Result Figure FigureFault
figure_of U.Hertz w ref = cond (reference_ok ref) (Ok (F.Hertz (over16384 (product_of w ref)))) (Err BadReference)
figure_of U.Percent w ref = Ok (F.Percent (over16384 (product_of w 100)))
figure_of U.Raw w ref = Ok (F.Raw w)

abbrev pub fault_number : FigureFault → ℕ
fault_number BadReference = 50

abbrev pub figure_number : Result Figure FigureFault → ℕ
figure_number (Ok figure) = 0
figure_number (Err fault) = fault_number fault

abbrev pub figure_raw : Result Figure FigureFault → ℕ
figure_raw (Ok (F.Hertz value)) = 0
figure_raw (Ok (F.Percent value)) = 0
figure_raw (Ok (F.Raw word)) = word
figure_raw (Err fault) = 0

abbrev pub figure_value : Result Figure FigureFault → Float
figure_value (Ok (F.Hertz value)) = value
figure_value (Ok (F.Percent value)) = value
figure_value (Ok (F.Raw word)) = fin false 0 (pos 0)
figure_value (Err fault) = fin false 0 (pos 0)
