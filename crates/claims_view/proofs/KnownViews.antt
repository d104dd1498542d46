-- The known views, computed. Assumes nothing.
use mathlib.Core.Path.{◌≡◌, refl}
use mathlib.Core.List.{map}
use Rattle.entry.specs.Fields.{entry_of, count_of}
use Rattle.signs.specs.Signs.{signed_of}
use Rattle.limits.specs.Limits.{number_of, at_most, fits_in, is_within, entry_ok}
use Rattle.table.specs.Records.{entry_at, entries_from, entries, counts_of}
use Rattle.opening.specs.Rules.{rising_from, each_ok}
use Rattle.view.specs.View.{shown_of, open_of, is_there, show_of, step_of}
use Rattle.claims_view.specs.Walks.{walk_of}
use Rattle.claims_view.specs.Known.{Case, views}

pub views_hold : map (λ (k : Case). k.0) views ≡ map (λ (k : Case). k.1) views
unfolding entry_of count_of signed_of number_of at_most fits_in is_within entry_ok entry_at entries_from entries counts_of rising_from each_ok shown_of open_of is_there show_of step_of walk_of
views_hold = refl
