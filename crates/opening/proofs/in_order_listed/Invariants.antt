-- What the pass of `opening::in_order_listed` keeps: what is asked is the record that was read, its values and its place, and the
-- pass over what is left. Assumes nothing.
use Rattle.std.proofs.Common.{◌≡◌, ◌&&◌, ◌∷◌, ◌+◌, ◌-◌, ◌*◌, ◌<◌, ◌≤◌, drop}
use Rattle.entry.specs.Fields.{count_of}
use Rattle.table.specs.Records.{entries, entries_from}
use Rattle.opening.specs.Rules.{table_ok, values_ok, sums_ok}
use Rattle.opening.proofs.RecordLaws.{fine_of}
use Rattle.opening.proofs.PassLaws.{pass_from, entry_in}
use Rattle.opening.proofs.in_order_listed.Given as goal

abbrev pub invariant-loop-k : goal.invariant-loop-k
invariant-loop-k l =
    let e = entry_in l.current in
    let rest = entries_from l.t (l.n - (l.k + 1)) (l.k + 1) in
    record {
      in_range : l.k < l.n;
      places_few : l.place ≤ 255 * l.k;
      left : (table_ok l.t && values_ok l.t l.values && sums_ok l.places (entries l.t) 0)
          ≡ ((fine_of e l.values l.place && pass_from l.values rest (e.number + 1) (l.place + count_of e)) && sums_ok (drop l.k l.places) (e ∷ rest) l.place);
    }

abbrev pub decreases-loop-k : goal.decreases-loop-k
decreases-loop-k l = l.n - l.k
