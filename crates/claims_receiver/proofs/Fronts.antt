-- Bytes that start with a whole telegram, and those that do not. Assumes nothing.
use Prim.Native.Nat.{ℕ, ◌+◌, ◌≤◌}
use mathlib.Core.Path.{◌≡◌, refl}
use mathlib.Core.Bool.{Bool, true, false, ◌&&◌, cond}
use mathlib.Core.List.{List, [], ◌∷◌}
use lib.Dec.{leb, eqb}
use lib.ListN.{length, take}
use borrow.Author.Tests.{eq-eqb, le-leb, eqb-true, leb-true}
use Rattle.rows.proofs.BoolLaws.{and_left, and_right}
use Rattle.words.specs.Words.{byte_at}
use Rattle.claims_receiver.specs.Telegrams.{is_front, telegram_in}

-- the tests of `is_front` one by one
pub record Front (room : ℕ) (b : List ℕ) : Type 0 where
  pub start : byte_at b 0 ≡ 2
  pub low : 3 ≤ byte_at b 1
  pub high : byte_at b 1 ≤ 254
  pub fits : byte_at b 1 + 2 ≤ room
  pub long : byte_at b 1 + 2 ≤ length b

module _ (room : ℕ) (b : List ℕ) where
  abbrev long : Bool
  long = leb (byte_at b 1 + 2) (length b)

  abbrev fits_long : Bool
  fits_long = leb (byte_at b 1 + 2) room && long

  abbrev high_on : Bool
  high_on = leb (byte_at b 1) 254 && fits_long

  abbrev low_on : Bool
  low_on = leb 3 (byte_at b 1) && high_on

  pub is_front_lem : is_front room b ≡ true → Front room b
  is_front_lem e =
      let p1 = and_right (eqb (byte_at b 0) 2) low_on e in
      let p2 = and_right (leb 3 (byte_at b 1)) high_on p1 in
      let p3 = and_right (leb (byte_at b 1) 254) fits_long p2 in
      record {
        start = eqb-true _ _ (and_left (eqb (byte_at b 0) 2) low_on e);
        low = leb-true _ _ (and_left (leb 3 (byte_at b 1)) high_on p1);
        high = leb-true _ _ (and_left (leb (byte_at b 1) 254) fits_long p2);
        fits = leb-true _ _ (and_left (leb (byte_at b 1 + 2) room) long p3);
        long = leb-true _ _ (and_right (leb (byte_at b 1 + 2) room) long p3);
      }

  pub front_there : Front room b → telegram_in room b ≡ take (byte_at b 1 + 2) b ∷ []
  front_there f = rw (eq-eqb _ _ f.start, le-leb _ _ f.low, le-leb _ _ f.high, le-leb _ _ f.fits, le-leb _ _ f.long)

  pub front_none : (Front room b → ⊥) → telegram_in room b ≡ []
  front_none never = go (is_front room b) refl
    where
      go : (x : Bool) → is_front room b ≡ x → cond x (take (byte_at b 1 + 2) b ∷ []) [] ≡ []
      go true e = absurd (never (is_front_lem e))
      go false e = refl
