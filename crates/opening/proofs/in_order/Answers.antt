-- `opening::in_order` meets its contract. Assumes nothing.
use Rattle.std.proofs.Common.{◌≡◌, ℕ, ◌+◌, ◌-◌, ◌%◌, ◌<◌, ◌≤◌, Bool, true, ◌&&◌, List, [], ◌∷◌, eqb, length, take, drop, Some, refl, sym, ap, ◌∙◌, arith}
use mathlib.Core.Bool.{and-false}
use borrow.Author.Tests.{eq-eqb}
use Rattle.std.specs.Bool.{then_some}
use Rattle.entry.specs.Fields.{count_of}
use Rattle.entry.proofs.CountLaws.{count_le}
use Rattle.table.specs.declared.Record.{Record}
use Rattle.table.specs.Records.{record_of}
use Rattle.opening.specs.Rules.{table_ok, values_ok}
use Rattle.opening.proofs.RecordLaws.{fine_of, some_given}
use Rattle.opening.proofs.PassLaws.{pass_from, pass_low, pass_step, pass_end, entries_at, entry_in, number_in, pass_all, at_end, at_step}
use Rattle.opening.proofs.in_order.Goals as goal

abbrev asked : List ℕ → List ℕ → Bool
asked t vs = table_ok t && values_ok t vs

abbrev whole : List ℕ → Bool
whole t = eqb (length t % 12) 0

-- the record that was read and its values are in order, and n places were counted
module _ (t vs : List ℕ) (at place n : ℕ) (r : Record) (here : at % 12 ≡ 0)
    (left : asked t vs ≡ (whole t && (fine_of (entry_in r) vs place && pass_from vs (entries_at t (at + 12)) ((entry_in r).number + 1) (place + count_of (entry_in r)))))
    (run : Some n ≡ then_some (fine_of (entry_in r) vs place) (count_of (entry_in r))) where
  taken : (fine_of (entry_in r) vs place ≡ true) × (n ≡ count_of (entry_in r))
  taken = some_given (fine_of (entry_in r) vs place) n (count_of (entry_in r)) run

  went : asked t vs ≡ (whole t && pass_from vs (entries_at t (at + 12)) ((entry_in r).number + 1) (place + n))
  went = left ∙ rw (taken.0, ← taken.1)

  -- no record is left
  ended : length t < at + 12 + 12 → asked t vs ≡ (whole t && pass_from vs [] ((entry_in r).number + 1) (place + n))
  ended h = went ∙ rw (at_end t (at + 12) (omega arith) h)

  -- the record that was read is the next
  on : (next : Record) (m : ℕ) → at + 12 + 12 ≤ length t → m ≡ 12 → next ≡ record_of (take m (drop (at + 12) t))
      → asked t vs ≡ (whole t && pass_from vs (entry_in next ∷ entries_at t (at + 12 + 12)) ((entry_in r).number + 1) (place + n))
  on next m there twelve q = went ∙ rw (at_step t (at + 12) m next (omega arith) there twelve q)

pub loop-taken-init : goal.loop-taken-init
loop-taken-init c =
    let t = c.args.t.now in
    let vs = c.args.values.now in
    let r = c.record_of-current.result in
    let first = at_step t 0 12 r (omega arith) (omega arith) refl c.record_of-current.ensures in
    record {
      whole = refl;
      there = omega arith;
      places_few = omega arith;
      left = pass_all t vs (omega arith) ∙ rw first (ap (λ (b : Bool). whole t && b) (pass_step (entry_in r) (entries_at t 12) 0 0 vs (omega arith)));
    }

pub returns-then-current-most : goal.returns-then-current-most
returns-then-current-most c =
    let t = c.args.t.now in
    let vs = c.args.values.now in
    let l = c.loop-taken in
    let next = c.record_of-current-in-loop-taken in
    let more = on t vs l.at l.place c.in-Some.taken l.current l.invariant.whole l.invariant.left c.in-Some.ensures next.result (l.at + 12 + 12 - (l.at + 12)) (omega arith) (omega arith) next.ensures in
    let low : (entry_in next.result).number < (entry_in l.current).number + 1 = omega (arith, number_in next.result, number_in l.current) in
    sym (more ∙ rw (pass_low (entry_in next.result) _ ((entry_in l.current).number + 1) _ vs low, and-false (whole t)))

pub loop-taken-preserved : goal.loop-taken-preserved
loop-taken-preserved c =
    let t = c.args.t.now in
    let vs = c.args.values.now in
    let l = c.loop-taken in
    let next = c.record_of-current-in-loop-taken in
    let more = on t vs l.at l.place c.in-Some.taken l.current l.invariant.whole l.invariant.left c.in-Some.ensures next.result (l.at + 12 + 12 - (l.at + 12)) (omega arith) (omega arith) next.ensures in
    let up : (entry_in l.current).number + 1 ≤ (entry_in next.result).number = omega (arith, number_in next.result, number_in l.current) in
    record {
      whole = omega arith;
      there = omega arith;
      places_few = omega (arith, count_le l.current.head l.current.minimum l.current.maximum, (some_given _ _ _ c.in-Some.ensures).1);
      left = more ∙ ap (λ (b : Bool). whole t && b) (pass_step (entry_in next.result) _ ((entry_in l.current).number + 1) _ vs up);
    }

pub returns : goal.returns
returns c =
    let t = c.args.t.now in
    let vs = c.args.values.now in
    let l = c.loop-taken in
    let all = ended t vs l.at l.place c.in-Some.taken l.current l.invariant.whole l.invariant.left c.in-Some.ensures (omega arith) in
    c.ends_well.ensures ∙ sym (all ∙ rw (eq-eqb (length t % 12) 0 (omega arith), pass_end _ _ vs, number_in l.current))
