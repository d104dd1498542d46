-- Laws of a record's limits. Assumes nothing.
use Prim.Native.Nat.{ℕ, ◌≤◌}
use mathlib.Core.Path.{◌≡◌}
use mathlib.Core.Bool.{true, ◌&&◌}
use lib.Dec.{eqb, leb}
use borrow.Author.Tests.{le-leb, eq-eqb, leb-true, eqb-true}
use Rattle.rows.proofs.BoolLaws.{and_left, and_right, and_both}
use Rattle.entry.specs.declared.Entry.{Entry}
use Rattle.limits.specs.Limits.{at_most, fits_in, is_within, limits_ok, entry_ok}

-- the facts of a record that keeps the rules, both ways
pub record Ruled (e : Entry) : Type 0 where
  pub numbers : e.number ≤ 31999
  pub elements_few : e.elements ≤ 254
  pub spare_none : e.spare ≡ 0
  pub low_fits : fits_in e.double e.minimum ≡ true
  pub high_fits : fits_in e.double e.maximum ≡ true
  pub ordered : at_most e.double e.signed e.minimum e.maximum ≡ true

pub ok_ruled : (e : Entry) → entry_ok e ≡ true → Ruled e
unfolding entry_ok
ok_ruled e h =
    let a = leb e.number 31999 in
    let b = leb e.elements 254 in
    let c = eqb e.spare 0 in
    let d = fits_in e.double e.minimum in
    let f = fits_in e.double e.maximum in
    let g = at_most e.double e.signed e.minimum e.maximum in
    let h3 = and_left (a && b && c) (limits_ok e) h in
    let h2 = and_left (a && b) c h3 in
    let limits = and_right (a && b && c) (limits_ok e) h in
    let fit = and_left (d && f) g limits in
    record {
      numbers = leb-true e.number 31999 (and_left a b h2);
      elements_few = leb-true e.elements 254 (and_right a b h2);
      spare_none = eqb-true e.spare 0 (and_right (a && b) c h3);
      low_fits = and_left d f fit;
      high_fits = and_right d f fit;
      ordered = and_right (d && f) g limits;
    }

pub ruled_passes : (e : Entry) → Ruled e → entry_ok e ≡ true
unfolding entry_ok
ruled_passes e f =
    and_both
    (and_both (and_both (le-leb _ _ f.numbers) (le-leb _ _ f.elements_few)) (eq-eqb _ _ f.spare_none))
    (and_both (and_both f.low_fits f.high_fits) f.ordered)

-- a value within the limits of a word has no upper half
pub within_fits : (e : Entry) (v : ℕ) → is_within e v ≡ true → fits_in e.double v ≡ true
unfolding is_within
within_fits e v h =
    let a = fits_in e.double v in
    let b = at_most e.double e.signed e.minimum v in
    and_left a b (and_left (a && b) (at_most e.double e.signed v e.maximum) h)
