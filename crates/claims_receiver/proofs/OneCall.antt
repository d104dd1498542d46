-- One call that is lent a pause and a whole telegram, from any state (document 02, W-201): it hands out that telegram, and ends with
-- its last byte, whatever comes behind it. Assumes nothing.
use Prim.Native.Nat.{ℕ, suc, ◌+◌, ◌≤◌}
use mathlib.Core.Path.{◌≡◌, refl, sym, ◌∙◌}
use mathlib.Core.Bool.{true}
use mathlib.Core.List.{List, [], ◌∷◌, ◌++◌}
use native.Mathlib.Nat.{zero-add}
use native.Mathlib.Omega.{arith}
use lib.ListN.{length, drop, set, length-set}
use lib.Seq.{sets, sets-eq, get_or-set_same, get_or-set_other}
use borrow.Author.Tests.{leb-true}
use Rattle.words.specs.Words.{byte_at, Bytes}
use Rattle.step.specs.Step.{held_in, is_pause}
use Rattle.step.proofs.StepLaws.{step_pause, step_open, step_lge, step_last, step_next}
use Rattle.receiver.specs.Receive.{Reception, run_from}
use Rattle.receiver.proofs.RunLaws.{goes_on, ends}
use Rattle.claims_receiver.specs.Telegrams.{Whole}

-- a call that takes n items and hands out l bytes
abbrev pub done : ℕ → ℕ → List ℕ → Reception
done n l page = record { received = record { taken = n; length = l; receiver = record { state = 0 } }; page = page }

same_call : {n n' l l' : ℕ} {page page' : List ℕ} → n ≡ n' → l ≡ l' → page ≡ page' → done n l page ≡ done n' l' page'
same_call e f g = rw (e, f, g)

-- the bytes behind LGE
run_body : (x : ℕ) (xs rest : List ℕ) (n s lge : ℕ) (page : List ℕ) → 3 ≤ s → byte_at page 1 ≡ lge → held_in s + length (x ∷ xs) ≡ lge + 2 → lge ≤ 254
    → lge + 2 ≤ length page → Bytes (x ∷ xs) → run_from n s (x ∷ (xs ++ rest)) page ≡ done (n + length (x ∷ xs)) (lge + 2) (sets page (held_in s) (x ∷ xs))
run_body x [] rest n s lge page front is count high fits b =
    ends n s x rest page _ (step_last s x page front (b 0) (omega arith) (omega arith)) (λ q. omega arith) ∙ same_call refl (omega arith) refl
run_body x (y ∷ xs) rest n s lge page front is count high fits b =
    let still : byte_at (set page (held_in s) x) 1 ≡ lge = get_or-set_other page (held_in s) 1 x 0 (λ q. omega arith) ∙ is in
    let next : held_in (s + 1) ≡ suc (held_in s) = omega arith in
    let more = run_body y xs rest (n + 1) (s + 1) lge (set page (held_in s) x) (omega arith) still (omega arith) high (simp length-set fits) (λ i. b (suc i)) in
    goes_on n s x (y ∷ (xs ++ rest)) page _ (step_next s x page front (b 0) (omega arith) (λ q. omega arith) (omega arith)) refl
    ∙ more ∙ same_call (omega arith) refl (rw next)

pub telegram_handed_out : (n s p : ℕ) (t rest page : List ℕ) → is_pause p ≡ true → Whole t → length t ≤ length page
    → run_from n s (p ∷ (t ++ rest)) page ≡ done (n + 1 + length t) (length t) (t ++ drop (length t) page)
telegram_handed_out n s p [] rest page e w fits = let q = w.count in absurd (omega arith)
telegram_handed_out n s p (a ∷ []) rest page e w fits = let q = w.count in absurd (omega arith)
telegram_handed_out n s p (a ∷ lge ∷ []) rest page e w fits = let q = w.count in let l = w.low in absurd (omega arith)
telegram_handed_out n s p (a ∷ lge ∷ x ∷ xs) rest page e w fits =
    let body = x ∷ xs in
    let behind = body ++ rest in
    let count : suc (suc (length body)) ≡ lge + 2 = w.count in
    let room : length (set page 0 2) ≡ length page = simp length-set in
    let kept : byte_at (set (set page 0 2) 1 lge) 1 ≡ lge = get_or-set_same (set page 0 2) 1 lge 0 (omega arith) in
    rw w.start
    (goes_on n s p (2 ∷ lge ∷ behind) page _ (step_pause s p page (leb-true 256 p e)) refl
    ∙ goes_on (n + 1) 1 2 (lge ∷ behind) page _ (step_open page (omega arith)) refl
    ∙ goes_on (n + 1 + 1) 2 lge behind (set page 0 2) _ (step_lge lge (set page 0 2) w.low w.high (omega arith)) refl
    ∙ run_body x xs rest (n + 1 + 1 + 1) 3 lge (set (set page 0 2) 1 lge) (omega arith) kept (omega arith) w.high (simp length-set (omega arith)) (λ i. w.bytes (suc (suc i)))
    ∙ same_call (omega arith) (sym count) (sets-eq (2 ∷ lge ∷ body) page 0 (omega arith) ∙ rw zero-add))
