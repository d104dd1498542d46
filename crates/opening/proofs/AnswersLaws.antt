-- The answers of the opening check: each number exactly when, the facts of a passing check both ways. Assumes nothing.
use Prim.Native.Nat.{ℕ, ◌/◌, ◌%◌, ◌<◌, ◌≤◌}
use mathlib.Core.Path.{◌≡◌, refl, ◌∙◌}
use mathlib.Core.List.{[], ◌∷◌}
use mathlib.Core.Bool.{Bool, true, false, not, cond, ◌&&◌}
use native.Mathlib.Omega.{arith}
use borrow.Author.Tests.{lt-ltb, le-ltb, le-leb, eq-eqb, ltb-false, leb-true, eqb-true}
use lib.ListN.{length}
use lib.Dec.{eqb, leb, ltb}
use Rattle.std.specs.Prelude.{Result, Err}
use Rattle.rows.specs.Rows.{first_of, Chosen}
use Rattle.rows.proofs.RowsLaws.{first_chosen, chosen_first}
use Rattle.rows.proofs.BoolLaws.{and_left, and_right}
use Rattle.setup.specs.SetupRules.{setup_ok}
use Rattle.table.specs.Records.{entries, counts_of}
use Rattle.slave_answers.specs.declared.OpeningFault.{OpeningFault}
use Rattle.slave_answers.specs.declared.OpeningFault.TheVariants.{BadSetup, BadTable, BadValues, BadPlaces, ShortBuffer}
use Rattle.opening.specs.Rules.{rising_from, each_ok, runs_ok, table_ok, values_ok, list_ok}
use Rattle.opening.specs.Lent.{Lent}
use Rattle.opening.specs.Answers.{opening_rows, opening_of, content_of, passed}

-- three tests refuse: so do they with a fourth after them
content_refuse : (a b g d : Bool) (f : OpeningFault) → first_of ((not a, Err BadTable) ∷ (not b, Err BadValues) ∷ (not g, Err BadPlaces) ∷ []) passed ≡ Err f
    → first_of ((not a, Err BadTable) ∷ (not b, Err BadValues) ∷ (not g, Err BadPlaces) ∷ (d, Err ShortBuffer) ∷ []) passed ≡ Err f
content_refuse false b g d f e = e
content_refuse true false g d f e = e
content_refuse true true false d f e = e
content_refuse true true true d f e = let z : ◌≡◌ {A = ℕ} 0 1 = cc in absurd (omega arith)

-- three tests pass: the fourth decides
content_pass : (a b g d : Bool) → first_of ((not a, Err BadTable) ∷ (not b, Err BadValues) ∷ (not g, Err BadPlaces) ∷ []) passed ≡ passed
    → first_of ((not a, Err BadTable) ∷ (not b, Err BadValues) ∷ (not g, Err BadPlaces) ∷ (d, Err ShortBuffer) ∷ []) passed ≡ cond d (Err ShortBuffer) passed
content_pass false b g d e = let z : ◌≡◌ {A = ℕ} 0 1 = cc in absurd (omega arith)
content_pass true false g d e = let z : ◌≡◌ {A = ℕ} 0 1 = cc in absurd (omega arith)
content_pass true true false d e = let z : ◌≡◌ {A = ℕ} 0 1 = cc in absurd (omega arith)
content_pass true true true d e = refl

module _ (l : Lent) where
  -- the Bools of its lines
  abbrev table_good : Bool
  table_good = table_ok l.table

  abbrev values_good : Bool
  values_good = values_ok l.table l.memory.values

  abbrev list_good : Bool
  list_good = list_ok l.list l.table

  abbrev room_short : Bool
  room_short = ltb l.room 256

  pub open_setup : setup_ok l.setup ≡ false → opening_of l ≡ Err BadSetup
  unfolding opening_of
  open_setup a = rw a

  pub open_content : (f : OpeningFault) → setup_ok l.setup ≡ true → content_of l.table l.memory.values l.list ≡ Err f → opening_of l ≡ Err f
  unfolding opening_of content_of
  open_content f a e = rw a (content_refuse table_good values_good list_good room_short f e)

  pub open_buffer : setup_ok l.setup ≡ true → content_of l.table l.memory.values l.list ≡ passed → l.room < 256 → opening_of l ≡ Err ShortBuffer
  unfolding opening_of content_of
  open_buffer a e h = rw a (content_pass table_good values_good list_good room_short e ∙ rw (lt-ltb l.room 256 h))

  pub open_passed : setup_ok l.setup ≡ true → content_of l.table l.memory.values l.list ≡ passed → 256 ≤ l.room → opening_of l ≡ passed
  unfolding opening_of content_of
  open_passed a e h = rw a (content_pass table_good values_good list_good room_short e ∙ rw (le-ltb l.room 256 h))

  -- a number is given exactly when its line holds and no earlier one does
  pub opening_chosen : Chosen (opening_rows l) passed (opening_of l)
  unfolding opening_of
  opening_chosen = first_chosen (opening_rows l) passed

  pub chosen_opening : (r : Result (Unit {0}) OpeningFault) → Chosen (opening_rows l) passed r → r ≡ opening_of l
  unfolding opening_of
  chosen_opening r c = chosen_first (opening_rows l) passed r c

-- the facts of what is lent, where it passed
pub record Opened (l : Lent) : Type 0 where
  pub setup_good : setup_ok l.setup ≡ true
  pub whole : length l.table % 12 ≡ 0
  pub short : length l.table ≤ 6144
  pub rising : rising_from 0 (entries l.table) ≡ true
  pub ruled : each_ok (entries l.table) ≡ true
  pub places : counts_of (entries l.table) ≤ 4096
  pub count : counts_of (entries l.table) ≡ length l.memory.values
  pub limits : runs_ok (entries l.table) l.memory.values 0 ≡ true
  pub list_right : list_ok l.list l.table ≡ true
  pub buffer : 256 ≤ l.room

-- a passing check fails each of its rows
all_passed : (a b c g d : Bool)
    → first_of ((not a, Err BadSetup) ∷ (not b, Err BadTable) ∷ (not c, Err BadValues) ∷ (not g, Err BadPlaces) ∷ (d, Err ShortBuffer) ∷ []) passed ≡ passed
    → (a ≡ true) × (b ≡ true) × (c ≡ true) × (g ≡ true) × (d ≡ false)
all_passed true true true true false e = (refl, refl, refl, refl, refl)
all_passed false b c g d e = let z : ◌≡◌ {A = ℕ} 0 1 = cc in absurd (omega arith)
all_passed true false c g d e = let z : ◌≡◌ {A = ℕ} 0 1 = cc in absurd (omega arith)
all_passed true true false g d e = let z : ◌≡◌ {A = ℕ} 0 1 = cc in absurd (omega arith)
all_passed true true true false d e = let z : ◌≡◌ {A = ℕ} 0 1 = cc in absurd (omega arith)
all_passed true true true true true e = let z : ◌≡◌ {A = ℕ} 0 1 = cc in absurd (omega arith)

module _ (l : Lent) where
  pub passed_opened : opening_of l ≡ passed → Opened l
  unfolding opening_of
  passed_opened e =
      let t = l.table in
      let vs = l.memory.values in
      let p = all_passed (setup_ok l.setup) (table_ok t) (values_ok t vs) (list_ok l.list t) (ltb l.room 256) e in
      let a = eqb (length t % 12) 0 in
      let b = leb (length t / 12) 512 in
      let r = rising_from 0 (entries t) in
      let o = each_ok (entries t) in
      let n = leb (counts_of (entries t)) 4096 in
      let h4 = and_left (a && b && r && o) n p.1 in
      let h3 = and_left (a && b && r) o h4 in
      let h2 = and_left (a && b) r h3 in
      let w = eqb-true (length t % 12) 0 (and_left a b h2) in
      let f = leb-true (length t / 12) 512 (and_right a b h2) in
      let q = eqb (counts_of (entries t)) (length vs) in
      let v = runs_ok (entries t) vs 0 in
      record {
        setup_good = p.0;
        whole = w;
        short = omega arith;
        rising = and_right (a && b) r h3;
        ruled = and_right (a && b && r) o h4;
        places = leb-true (counts_of (entries t)) 4096 (and_right (a && b && r && o) n p.1);
        count = eqb-true (counts_of (entries t)) (length vs) (and_left q v p.2);
        limits = and_right q v p.2;
        list_right = p.3;
        buffer = ltb-false l.room 256 p.4;
      }

  pub opened_passes : Opened l → opening_of l ≡ passed
  unfolding opening_of
  opened_passes o =
      let t = l.table in
      let vs = l.memory.values in
      let f = le-leb (length t / 12) 512 (omega arith) in
      rw (o.setup_good, eq-eqb (length t % 12) 0 o.whole, f, o.rising, o.ruled, le-leb _ _ o.places, eq-eqb (counts_of (entries t)) (length vs) o.count, o.limits, o.list_right, le-ltb l.room 256 o.buffer)
