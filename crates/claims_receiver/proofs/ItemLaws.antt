-- The first item of a list: what it makes of the telegrams that stand in it, and of those that are heard. Assumes nothing.
use Prim.Native.Nat.{ℕ}
use mathlib.Core.Path.{◌≡◌}
use mathlib.Core.Bool.{true, false}
use mathlib.Core.List.{List, [], ◌∷◌, ◌++◌}
use Rattle.step.specs.Step.{Stepped, is_pause, step_of}
use Rattle.claims_receiver.specs.Telegrams.{bytes_in, telegram_in, telegrams_in}
use Rattle.claims_receiver.specs.Heard.{heard_of, telegram_of}

pub bytes_pause : (x : ℕ) (xs : List ℕ) → is_pause x ≡ true → bytes_in (x ∷ xs) ≡ []
unfolding bytes_in
bytes_pause x xs e = rw e

pub bytes_byte : (x : ℕ) (xs : List ℕ) → is_pause x ≡ false → bytes_in (x ∷ xs) ≡ x ∷ bytes_in xs
unfolding bytes_in
bytes_byte x xs e = rw e

pub telegrams_pause : (room x : ℕ) (xs : List ℕ) → is_pause x ≡ true → telegrams_in room (x ∷ xs) ≡ telegram_in room (bytes_in xs) ++ telegrams_in room xs
unfolding telegrams_in
telegrams_pause room x xs e = rw e

pub telegrams_byte : (room x : ℕ) (xs : List ℕ) → is_pause x ≡ false → telegrams_in room (x ∷ xs) ≡ telegrams_in room xs
unfolding telegrams_in
telegrams_byte room x xs e = rw e

pub heard_by : (s x : ℕ) (xs page : List ℕ) (t : Stepped) → step_of s x page ≡ t
    → (heard_of s (x ∷ xs) page).telegrams ≡ telegram_of t.move.length t.page ++ (heard_of t.move.state xs t.page).telegrams
unfolding heard_of
heard_by s x xs page t e = rw e
