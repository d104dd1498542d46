-- Pieces written one after another, and the listing by what the bytes decode to. Assumes nothing.
use mathlib.Core.Path.{◌≡◌, refl, ap, ◌∙◌}
use mathlib.Core.Bool.{true}
use mathlib.Core.List.{List, [], ◌++◌}
use Prim.Native.Nat.{ℕ, ◌≤◌}
use lib.ListN.{length}
use Rattle.std.specs.Prelude.{Result, Ok}
use Rattle.store.specs.Placed.{put_all, joined}
use Rattle.store.proofs.StoreLaws.{all_append}
use Rattle.address.specs.Address.{decoded_of}
use Rattle.address.specs.declared.Telegram.{Telegram}
use Rattle.address.specs.declared.Fault.{Fault}
use Rattle.address.proofs.DecodedLaws.{is_telegram, telegram_framed}
use Rattle.listing.specs.Listing.{pieces_of, listing}

-- `out` is l with the pieces xss written from a place on, and `at` is the place behind them
pub record Wrote (l : List ℕ) (from : ℕ) (xss : List (List ℕ)) (out : List ℕ) (at : ℕ) : Type 0 where
  pub place : at ≡ (put_all l from xss).place
  pub bytes : out ≡ (put_all l from xss).bytes

pub none : (l : List ℕ) (from : ℕ) → Wrote l from [] l from
none l from = record { place = refl; bytes = refl }

pub more : {l : List ℕ} {from : ℕ} {xss : List (List ℕ)} {out : List ℕ} {at : ℕ} → Wrote l from xss out at → (yss : List (List ℕ)) {out' : List ℕ} {at' : ℕ} → at' ≡ (put_all out at yss).place → out' ≡ (put_all out at yss).bytes → Wrote l from (xss ++ yss) out' at'
more {l} {from} {xss} w yss p e = record {
  place = p ∙ rw (w.place, w.bytes, all_append l from xss yss);
  bytes = e ∙ rw (w.place, w.bytes, all_append l from xss yss);
}

-- ---- by what the bytes decode to

pub listing_by : (t : List ℕ) (d : Result Telegram Fault) → decoded_of t ≡ d → listing t ≡ joined (pieces_of t d)
unfolding listing
listing_by t d e = ap (λ (x : Result Telegram Fault). joined (pieces_of t x)) e

-- one of the three kinds has at least five bytes
pub telegram_long : (t : List ℕ) → is_telegram (decoded_of t) ≡ true → 5 ≤ length t
telegram_long t h = (telegram_framed t (decoded_of t) refl h).counted.long

pub ok_long : (t : List ℕ) (telegram : Telegram) → decoded_of t ≡ Ok telegram → 5 ≤ length t
ok_long t telegram e = telegram_long t (ap is_telegram e)
