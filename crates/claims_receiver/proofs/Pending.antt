-- What is still to come of a telegram that a receiver has begun. Assumes nothing.
use Prim.Native.Nat.{ℕ, suc, ◌+◌, ◌<◌, ◌≤◌}
use mathlib.Core.Path.{◌≡◌, refl, ap, ◌∙◌}
use mathlib.Core.Bool.{Bool, true, false, cond}
use mathlib.Core.List.{List, [], ◌∷◌, ◌++◌, append-nil}
use native.Mathlib.Omega.{arith}
use lib.Dec.{eqb}
use lib.ListN.{length, take, set, length-set, get_or-append}
use lib.Seq.{length-take-le, take-suc-set, append_snoc, get_or-take}
use borrow.Author.Tests.{ne_eqb}
use Rattle.words.specs.Words.{byte_at}
use Rattle.step.specs.Step.{held_in}
use Rattle.claims_receiver.specs.Telegrams.{telegram_in}
use Rattle.claims_receiver.proofs.Fronts.{Front, front_none}

-- What a receiver that wrote the page itself keeps: inside a telegram the page starts with its front, and its last byte is not there yet.
pub record Kept (s : ℕ) (page : List ℕ) : Type 0 where
  pub first : 2 ≤ s → byte_at page 0 ≡ 2
  pub room : held_in s ≤ length page
  pub low : 3 ≤ s → 3 ≤ byte_at page 1
  pub high : 3 ≤ s → byte_at page 1 ≤ 254
  pub fits : 3 ≤ s → byte_at page 1 + 2 ≤ length page
  pub short : 3 ≤ s → s ≤ byte_at page 1 + 2

-- what is still to be handed out of the telegram that is begun
abbrev pub pending : ℕ → List ℕ → List ℕ → List (List ℕ)
pending s page b = cond (eqb s 0) [] (telegram_in (length page) (take (held_in s) page ++ b))

-- a byte of the page, where what is begun stands in front of others
pub front_byte : (k i : ℕ) (page b : List ℕ) → i < k → k ≤ length page → byte_at (take k page ++ b) i ≡ byte_at page i
front_byte k i page b h g = get_or-append (take k page) b 0 i (rw (length-take-le k page g) h) ∙ get_or-take k page i 0 h

-- one byte more of it
pub pending_more : (s x : ℕ) (b page : List ℕ) → 0 < s → held_in s < length page → pending (s + 1) (set page (held_in s) x) b ≡ pending s page (x ∷ b)
pending_more s x b page h r =
    let held : held_in (s + 1) ≡ suc (held_in s) = omega arith in
    rw (ne_eqb (s + 1) 0 (λ e. omega arith), ne_eqb s 0 (λ e. omega arith), held, length-set page (held_in s) x, take-suc-set page (held_in s) x r, append_snoc (take (held_in s) page) x b)

-- no byte more: what is begun is not whole
pub pending_none : (s : ℕ) (page : List ℕ) → Kept s page → pending s page [] ≡ []
pending_none s page kept = go (eqb s 0)
  where
    k : ℕ
    k = held_in s

    b : List ℕ
    b = take k page ++ []

    count : length b ≡ k
    count = ap length (append-nil (take k page)) ∙ length-take-le k page kept.room

    never : Front (length page) b → ⊥
    never f =
        let low = f.low in
        let long = f.long in
        let c = count in
        let same = front_byte k 1 page [] (omega arith) kept.room in
        let short = kept.short (omega arith) in
        omega arith

    go : (x : Bool) → cond x [] (telegram_in (length page) b) ≡ []
    go true = refl
    go false = front_none (length page) b never

-- disarmed and armed, nothing is begun
pub kept_outside : (s : ℕ) (page : List ℕ) → s ≤ 1 → Kept s page
kept_outside s page h =
    record { first = λ q. absurd (omega arith); room = omega arith; low = λ q. absurd (omega arith); high = λ q. absurd (omega arith); fits = λ q. absurd (omega arith); short = λ q. absurd (omega arith) }
