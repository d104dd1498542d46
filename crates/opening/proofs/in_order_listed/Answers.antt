-- `opening::in_order_listed` meets its contract. Assumes nothing.
use Rattle.std.proofs.Common.{◌≡◌, ℕ, ◌+◌, ◌-◌, ◌*◌, ◌<◌, ◌≤◌, Bool, true, false, ◌&&◌, List, [], ◌∷◌, length, get_or, drop, refl, sym, ap, ◌∙◌, arith}
use Rattle.std.proofs.Math.Numerals.{add-one}
use Rattle.std.proofs.Math.Seq.{drop-cons, drop-length}
use mathlib.Core.Bool.{and-true, and-false}
use Rattle.entry.specs.declared.Entry.{Entry}
use Rattle.entry.specs.Fields.{count_of}
use Rattle.entry.proofs.CountLaws.{count_le}
use Rattle.table.specs.declared.Record.{Record}
use Rattle.table.specs.Records.{entry_at, entries, entries_from}
use Rattle.table.proofs.RecordsLaws.{entries_step, entries_end, entry_part}
use Rattle.opening.specs.Rules.{table_ok, values_ok, sums_ok}
use Rattle.opening.proofs.RecordLaws.{fine_of}
use Rattle.opening.proofs.PassLaws.{pass_from, pass_low, pass_step, pass_end, entry_in, number_in}
use Rattle.opening.proofs.SumsLaws.{listed_none, listed_first, refuted, sums_on, sums_off, sums_end, listed_length}
use Rattle.opening.proofs.in_order_listed.Goals as goal

abbrev asked : List ℕ → List ℕ → List ℕ → Bool
asked t vs ps = table_ok t && values_ok t vs && sums_ok ps (entries t) 0

-- the records that are left
abbrev rest : List ℕ → List ℕ → ℕ → List Entry
rest t ps k = entries_from t (length ps - k) k

-- the list from its place on
listed : (ps : List ℕ) (k : ℕ) → k < length ps → drop k ps ≡ get_or ps k 0 ∷ drop (k + 1) ps
listed ps k h = rw (add-one k) (drop-cons ps k 0 h)

module _ (t vs ps : List ℕ) (k place : ℕ) (r : Record) (below : k < length ps)
    (left : asked t vs ps
    ≡ ((fine_of (entry_in r) vs place && pass_from vs (rest t ps (k + 1)) ((entry_in r).number + 1) (place + count_of (entry_in r))) && sums_ok (drop k ps) (entry_in r ∷ rest t ps (k + 1)) place)) where
  -- the place is not the list's
  elsewhere : (get_or ps k 0 ≡ place → ⊥) → asked t vs ps ≡ false
  elsewhere h =
      let fine = fine_of (entry_in r) vs place && pass_from vs (rest t ps (k + 1)) ((entry_in r).number + 1) (place + count_of (entry_in r)) in
      left ∙ rw (listed ps k below, sums_off _ _ _ _ _ h) (and-false fine)

  -- the place is the list's, the record and its values are in order, and n places were counted
  module _ (n : ℕ) (same : get_or ps k 0 ≡ place) (fine : fine_of (entry_in r) vs place ≡ true) (taken : n ≡ count_of (entry_in r)) where
    went : asked t vs ps ≡ (pass_from vs (rest t ps (k + 1)) ((entry_in r).number + 1) (place + n) && sums_ok (drop (k + 1) ps) (rest t ps (k + 1)) (place + n))
    went = left ∙ rw (listed ps k below, sums_on _ _ _ _ _ same, fine, ← taken)

    -- no record is left
    ended : length ps ≤ k + 1 → asked t vs ps ≡ pass_from vs [] ((entry_in r).number + 1) (place + n)
    ended h =
        let all : k + 1 ≡ length ps = omega arith in
        went
        ∙ rw (entries_end t (length ps) (k + 1) h, all, drop-length ps, sums_end (place + n), and-true (pass_from vs [] ((entry_in r).number + 1) (place + n)))

    -- the record that was read is the next
    on : (next : Record) → k + 1 < length ps → entry_in next ≡ entry_at t (k + 1)
        → asked t vs ps ≡ (pass_from vs (entry_in next ∷ rest t ps (k + 1 + 1)) ((entry_in r).number + 1) (place + n) && sums_ok (drop (k + 1) ps) (entry_in next ∷ rest t ps (k + 1 + 1)) (place + n))
    on next more is = went ∙ rw (entries_step t (length ps) (k + 1) more, is)

pub returns-then-n-gt512 : goal.returns-then-n-gt512
returns-then-n-gt512 c =
    refuted _ (λ h. let n = (listed_length c.args.t.now c.args.values.now c.args.places.now h).1 in omega arith)

pub returns-then-t-n : goal.returns-then-t-n
returns-then-t-n c =
    refuted _ (λ h. let n = (listed_length c.args.t.now c.args.values.now c.args.places.now h).0 in omega arith)

pub returns-then-n-eq0 : goal.returns-then-n-eq0
returns-then-n-eq0 c = c.is_empty.ensures ∙ sym (listed_none c.args.t.now c.args.values.now c.args.places.now (omega arith) c.if-n-eq0.true)

pub loop-k-init : goal.loop-k-init
loop-k-init c =
    let t = c.args.t.now in
    let first = ap entry_in c.record_of-current.ensures ∙ entry_part t 0 12 (omega arith) refl in
    record {
      in_range = omega arith;
      places_few = omega arith;
      left = listed_first t c.args.values.now c.args.places.now c.if-t-n.false (entry_in c.record_of-current.result) (omega arith) (omega arith) first;
    }

pub returns-then-places-k : goal.returns-then-places-k
returns-then-places-k c =
    let l = c.loop-k in
    sym (elsewhere c.args.t.now c.args.values.now c.args.places.now l.k l.place l.current l.invariant.in_range l.invariant.left c.if-places-k.true)

pub returns-then-current-most : goal.returns-then-current-most
returns-then-current-most c =
    let t = c.args.t.now in
    let vs = c.args.values.now in
    let ps = c.args.places.now in
    let l = c.loop-k in
    let k = l.k + 1 in
    let next = c.record_of-current-in-loop-k in
    let taken = c.count_places-count.ensures ∙ ap count_of c.entry_of.ensures in
    let is = ap entry_in next.ensures ∙ entry_part t k (12 * k + 12 - 12 * k) (omega arith) (omega arith) in
    let more = on t vs ps l.k l.place l.current l.invariant.in_range l.invariant.left _ c.if-places-k.false (sym c.if-not-record_holds.ensures) taken next.result c.if-n-k.false is in
    let low : (entry_in next.result).number < (entry_in l.current).number + 1 = omega (arith, number_in next.result, number_in l.current) in
    sym (more ∙ rw (pass_low (entry_in next.result) _ ((entry_in l.current).number + 1) _ vs low))

pub loop-k-preserved : goal.loop-k-preserved
loop-k-preserved c =
    let t = c.args.t.now in
    let vs = c.args.values.now in
    let ps = c.args.places.now in
    let l = c.loop-k in
    let k = l.k + 1 in
    let next = c.record_of-current-in-loop-k in
    let taken = c.count_places-count.ensures ∙ ap count_of c.entry_of.ensures in
    let is = ap entry_in next.ensures ∙ entry_part t k (12 * k + 12 - 12 * k) (omega arith) (omega arith) in
    let more = on t vs ps l.k l.place l.current l.invariant.in_range l.invariant.left _ c.if-places-k.false (sym c.if-not-record_holds.ensures) taken next.result c.if-n-k.false is in
    let up : (entry_in l.current).number + 1 ≤ (entry_in next.result).number = omega (arith, number_in next.result, number_in l.current) in
    record {
      in_range = omega arith;
      places_few = omega (arith, taken, count_le l.current.head l.current.minimum l.current.maximum);
      left = more ∙ rw (pass_step (entry_in next.result) _ ((entry_in l.current).number + 1) _ vs up);
    }

pub returns : goal.returns
returns c =
    let vs = c.args.values.now in
    let l = c.loop-k in
    let taken = c.count_places-count.ensures ∙ ap count_of c.entry_of.ensures in
    let all = ended c.args.t.now vs c.args.places.now l.k l.place l.current l.invariant.in_range l.invariant.left _ c.if-places-k.false (sym c.if-not-record_holds.ensures) taken c.if-n-k.true in
    c.ends_well.ensures ∙ sym (all ∙ rw (pass_end _ _ vs, number_in l.current))
