-- What single items do: a pause, an ignored byte, and the bytes of a whole telegram one by one. Assumes nothing.
use Prim.Native.Nat.{ℕ, zero, suc, ◌+◌, ◌<◌, ◌≤◌}
use mathlib.Core.Path.{◌≡◌, refl}
use mathlib.Core.Bool.{Bool, true, false, not, cond}
use mathlib.Core.List.{List}
use native.Mathlib.Omega.{arith}
use lib.Dec.{ltb, leb, eqb}
use lib.ListN.{length, set}
use borrow.Author.Tests.{le-ltb, le-leb, lt-leb, eq-eqb, ne_eqb, ltb-false, leb-false, eqb-true}
use Rattle.rows.specs.Rows.{first_of}
use Rattle.words.specs.Words.{byte_at}
use Rattle.step.specs.Step.{held_in, onward, handed, lge_rows, promised, step_of}

pub step_pause : (s x : ℕ) (page : List ℕ) → 256 ≤ x → step_of s x page ≡ onward 1 page
unfolding step_of
step_pause s x page h = rw (le-leb 256 x h)

pub step_ignored : (x : ℕ) (page : List ℕ) → x < 256 → step_of 0 x page ≡ onward 0 page
unfolding step_of
step_ignored x page h = rw (lt-leb 256 x h)

pub step_open : (page : List ℕ) → 0 < length page → step_of 1 2 page ≡ onward 2 (set page 0 2)
unfolding step_of
step_open page h = rw (lt-leb (length page) 0 h)

pub step_lge : (x : ℕ) (page : List ℕ) → 3 ≤ x → x ≤ 254 → x + 2 ≤ length page → step_of 2 x page ≡ onward 3 (set page 1 x)
unfolding step_of
step_lge x page h g f =
    rw (lt-leb 256 x (omega arith), lt-leb (length page) 1 (omega arith), le-ltb x 3 h, le-ltb 254 x g, le-ltb (length page) (x + 2) f)

-- the second byte is LGE
pub step_second : (s x : ℕ) (page : List ℕ) → s ≡ 2 → x < 256 → held_in s < length page → step_of s x page ≡ first_of (lge_rows x page) (promised x page)
unfolding step_of
step_second s x page two byte room = rw (two, lt-leb 256 x byte, lt-leb (length page) 1 (omega arith))

-- a state that is none of the first three is behind LGE
pub behind_lge : (s : ℕ) → (s ≡ 0 → ⊥) → (s ≡ 1 → ⊥) → (s ≡ 2 → ⊥) → 3 ≤ s
behind_lge zero p q r = absurd (p refl)
behind_lge (suc zero) p q r = absurd (q refl)
behind_lge (suc (suc zero)) p q r = absurd (r refl)
behind_lge (suc (suc (suc n))) p q r = omega arith

-- a byte behind LGE
module _ (s x : ℕ) (page : List ℕ) (front : 3 ≤ s) (byte : x < 256) (room : held_in s < length page) where
  pub step_last : s ≡ byte_at page 1 + 2 → step_of s x page ≡ handed s (set page (held_in s) x)
  unfolding step_of
  step_last e =
      rw (lt-leb 256 x byte, ne_eqb s 0 (λ q. omega arith), lt-leb (length page) (held_in s) room, ne_eqb s 1 (λ q. omega arith), ne_eqb s 2 (λ q. omega arith), eq-eqb _ _ e)

  pub step_next : (s ≡ byte_at page 1 + 2 → ⊥) → s < 256 → step_of s x page ≡ onward (s + 1) (set page (held_in s) x)
  unfolding step_of
  step_next e f =
      rw (lt-leb 256 x byte, ne_eqb s 0 (λ q. omega arith), lt-leb (length page) (held_in s) room, ne_eqb s 1 (λ q. omega arith), ne_eqb s 2 (λ q. omega arith), ne_eqb _ _ e, lt-leb 256 s f)

-- no telegram is whole before its third byte
pub step_early : (s x : ℕ) (page : List ℕ) → s ≤ 2 → (step_of s x page).move.length ≡ 0
unfolding step_of
step_early zero x page h = go (leb 256 x)
  where
    go : (a : Bool) → (cond a (onward 1 page) (onward 0 page)).move.length ≡ 0
    go true = refl
    go false = refl
step_early (suc zero) x page h = go (leb 256 x) (leb (length page) 0) (not (eqb x 2))
  where
    go : (a b c : Bool) → (cond a (onward 1 page) (cond b (onward 0 page) (cond c (onward 0 page) (onward 2 (set page 0 2))))).move.length ≡ 0
    go true b c = refl
    go false true c = refl
    go false false true = refl
    go false false false = refl
step_early (suc (suc zero)) x page h = go (leb 256 x) (leb (length page) 1) (ltb x 3) (ltb 254 x) (ltb (length page) (x + 2))
  where
    go : (a b c d e : Bool)
        → (cond a (onward 1 page) (cond b (onward 0 page) (cond c (onward 0 page) (cond d (onward 0 page) (cond e (onward 0 page) (onward 3 (set page 1 x))))))).move.length ≡ 0
    go true b c d e = refl
    go false true c d e = refl
    go false false true d e = refl
    go false false false true e = refl
    go false false false false true = refl
    go false false false false false = refl
step_early (suc (suc (suc n))) x page h = absurd (omega arith)

-- ---- what disarms

-- the first byte: not 02, or no room for it
pub step_not_open : (x : ℕ) (page : List ℕ) → x < 256 → (x ≡ 2 → 0 < length page → ⊥) → step_of 1 x page ≡ onward 0 page
unfolding step_of
step_not_open x page byte never = rw (lt-leb 256 x byte) (go (leb (length page) 0) refl (eqb x 2) refl)
  where
    go : (a : Bool) → leb (length page) 0 ≡ a → (b : Bool) → eqb x 2 ≡ b
        → cond a (onward 0 page) (cond (not b) (onward 0 page) (onward 2 (set page 0 2))) ≡ onward 0 page
    go true e b f = refl
    go false e false f = refl
    go false e true f = absurd (never (eqb-true x 2 f) (leb-false (length page) 0 e))

-- LGE: outside 3 to 254, or its telegram does not fit
pub step_not_lge : (x : ℕ) (page : List ℕ) → x < 256 → (3 ≤ x → x ≤ 254 → x + 2 ≤ length page → ⊥) → step_of 2 x page ≡ onward 0 page
unfolding step_of
step_not_lge x page byte never = rw (lt-leb 256 x byte) (go (leb (length page) 1) (ltb x 3) (ltb 254 x) (ltb (length page) (x + 2)) refl refl refl)
  where
    go : (a b c d : Bool) → ltb x 3 ≡ b → ltb 254 x ≡ c → ltb (length page) (x + 2) ≡ d
        → cond a (onward 0 page) (cond b (onward 0 page) (cond c (onward 0 page) (cond d (onward 0 page) (onward 3 (set page 1 x))))) ≡ onward 0 page
    go true b c d e f g = refl
    go false true c d e f g = refl
    go false false true d e f g = refl
    go false false false true e f g = refl
    go false false false false e f g = absurd (never (ltb-false x 3 e) (ltb-false 254 x f) (ltb-false (length page) (x + 2) g))
