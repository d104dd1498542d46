-- What the pass of `opening::in_order` keeps: what is asked is the record that was read, its values, and the pass over what is
-- left. Assumes nothing.
use Rattle.std.proofs.Common.{◌≡◌, ◌&&◌, ◌+◌, ◌-◌, ◌*◌, ◌/◌, ◌%◌, ◌≤◌, eqb, length}
use Rattle.entry.specs.Fields.{count_of}
use Rattle.opening.specs.Rules.{table_ok, values_ok}
use Rattle.opening.proofs.RecordLaws.{fine_of}
use Rattle.opening.proofs.PassLaws.{pass_from, entries_at, entry_in}
use Rattle.opening.proofs.in_order.Given as goal

abbrev pub invariant-loop-taken : goal.invariant-loop-taken
invariant-loop-taken l =
    let e = entry_in l.current in
    record {
      whole : l.at % 12 ≡ 0;
      there : l.at + 12 ≤ length l.t;
      places_few : l.place ≤ 255 * (l.at / 12);
      left : (table_ok l.t && values_ok l.t l.values)
          ≡ (eqb (length l.t % 12) 0 && (fine_of e l.values l.place && pass_from l.values (entries_at l.t (l.at + 12)) (e.number + 1) (l.place + count_of e)));
    }

abbrev pub decreases-loop-taken : goal.decreases-loop-taken
decreases-loop-taken l = length l.t - l.at
