-- `places::fill` meets its contract. Assumes nothing.
use Rattle.std.proofs.Common.{◌≡◌, ℕ, ◌+◌, ◌-◌, ◌*◌, ◌/◌, ◌<◌, List, length, refl, sym, ap, ◌∙◌, arith}
use Rattle.std.proofs.Math.Seq.{ext_get_or}
use Rattle.entry.specs.Fields.{count_of}
use Rattle.table.specs.Records.{entries_from, counts_of, first_place, places_of}
use Rattle.table.proofs.RecordsLaws.{entry_part}
use Rattle.table.proofs.PlacesLaws.{places_length, place_next}
use Rattle.places.proofs.FillLaws.{fill_passed, filled_more}
use Rattle.places.proofs.fill.Goals as goal

-- the first record's is 0
firstly : (t : List ℕ) → 0 ≡ first_place t 0
unfolding entries_from counts_of
firstly t = refl

pub loop-k-init : goal.loop-k-init
loop-k-init c = record { next = firstly _; filled = λ i h. absurd (omega arith) }

pub loop-k-preserved : goal.loop-k-preserved
loop-k-preserved c =
    let t = c.args.table.now in
    let l = c.loop-k in
    let k = l.k in
    let there : k < length t / 12 = omega arith in
    let count = c.count_places-place.ensures ∙ ap count_of (c.entry_in-e.ensures ∙ entry_part t k (12 * k + 12 - 12 * k) (omega arith) (omega arith)) in
    record {
      next = rw (l.invariant.next, count) (sym (place_next t k));
      filled = filled_more t l.places k l.place (omega arith) there l.invariant.next l.invariant.filled;
    }

pub returns-clause-places_after : goal.returns-clause-places_after
returns-clause-places_after c =
    let t = c.args.table.now in
    let l = c.loop-k in
    let all = ext_get_or 0 l.places (places_of t) (l.auto.places ∙ c.if-n-table.false ∙ sym (places_length t)) (λ i h. l.invariant.filled i (omega arith)) in
    rw (fill_passed t _ (sym c.if-not-is_table.ensures) c.if-n-table.false) all
