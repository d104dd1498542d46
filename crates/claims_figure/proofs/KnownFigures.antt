-- The known figures, computed. Assumes nothing.
use mathlib.Core.Path.{◌≡◌, refl}
use mathlib.Core.List.{map}
use lib.Ieee.{round, to_bits}
use Rattle.signs.specs.Signs.{signed_of}
use Rattle.figure.specs.Figures.{over16384, figure_of}
use Rattle.claims_figure.specs.Known.{Case, figures}

pub figures_hold : map (λ (k : Case). k.0) figures ≡ map (λ (k : Case). k.1) figures
unfolding round to_bits signed_of over16384 figure_of
figures_hold = refl
