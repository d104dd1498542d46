-- What is handed out is exactly what stands in the items: one telegram for each pause that a whole one directly follows (document 02,
-- W-201). Assumes nothing.
--     handed_out_exactly    from the start, disarmed
--     from_a_pause          from any state and page: what a pause and the items after it hand out
use Prim.Native.Nat.{ℕ}
use mathlib.Core.Path.{◌≡◌, refl, ◌∙◌}
use mathlib.Core.Bool.{Bool, true, false}
use mathlib.Core.List.{List, [], ◌∷◌, ◌++◌}
use native.Mathlib.Omega.{arith}
use lib.ListN.{length}
use borrow.Author.Tests.{leb-true, leb-false}
use Rattle.step.specs.Step.{is_pause}
use Rattle.step.proofs.StepLaws.{step_pause}
use Rattle.claims_receiver.specs.Telegrams.{bytes_in, telegrams_in}
use Rattle.claims_receiver.specs.Heard.{heard_of}
use Rattle.claims_receiver.proofs.ItemLaws.{bytes_pause, bytes_byte, telegrams_pause, telegrams_byte, heard_by}
use Rattle.claims_receiver.proofs.Pending.{pending, pending_none, kept_outside}
use Rattle.claims_receiver.proofs.ByteLaws.{Exact, after_byte}

exact_more : (x : ℕ) (xs : List ℕ) → Exact xs → Exact (x ∷ xs)
exact_more x xs rest s page kept = go (is_pause x) refl
  where
    go : (a : Bool) → is_pause x ≡ a → (heard_of s (x ∷ xs) page).telegrams ≡ pending s page (bytes_in (x ∷ xs)) ++ telegrams_in (length page) (x ∷ xs)
    go true e =
        rw (bytes_pause x xs e, telegrams_pause (length page) x xs e, pending_none s page kept)
        (heard_by s x xs page _ (step_pause s x page (leb-true 256 x e)) ∙ rest 1 page (kept_outside 1 page (omega arith)))
    go false e = rw (bytes_byte x xs e, telegrams_byte (length page) x xs e) (after_byte x xs (leb-false 256 x e) rest s page kept)

pub exact : (xs : List ℕ) → Exact xs
unfolding heard_of bytes_in telegrams_in
exact [] s page kept = rw (pending_none s page kept)
exact (x ∷ xs) s page kept = exact_more x xs (exact xs) s page kept

-- ---- the theorems

pub handed_out_exactly : (xs page : List ℕ) → (heard_of 0 xs page).telegrams ≡ telegrams_in (length page) xs
handed_out_exactly xs page = exact xs 0 page (kept_outside 0 page (omega arith))

pub from_a_pause : (s x : ℕ) (xs page : List ℕ) → is_pause x ≡ true → (heard_of s (x ∷ xs) page).telegrams ≡ telegrams_in (length page) (x ∷ xs)
from_a_pause s x xs page e =
    rw (telegrams_pause (length page) x xs e)
    (heard_by s x xs page _ (step_pause s x page (leb-true 256 x e)) ∙ exact xs 1 page (kept_outside 1 page (omega arith)))
