-- The value by its words, the parameter area of three and of four words, the first process word. Assumes nothing.
use mathlib.Core.Path.{◌≡◌, refl, ap}
use mathlib.Core.List.{List}
use Prim.Native.Nat.{ℕ, zero, suc, ◌+◌, ◌*◌, ◌≤◌}
use native.Mathlib.Omega.{arith}
use borrow.Author.Tests.{lt-ltb}
use Rattle.words.specs.Words.{word_at, double_at, double_of, Bytes}
use Rattle.words.specs.declared.Words.{Words}
use Rattle.area.specs.Read.{value_at, area_at, process_at}

-- a value over two words and more is that of the last two
pub value_last : (t : List ℕ) (p k q : ℕ) → Bytes t → 2 ≤ k → q + 4 ≡ p + k * 2 → value_at t p k ≡ double_at t q
unfolding value_at
value_last t p zero q h two at = absurd (omega arith)
value_last t p (suc zero) q h two at = absurd (omega arith)
value_last t p (suc (suc k)) q h two at =
    let e : p + suc k * 2 ≡ q + 2 = omega arith in
    let f : p + k * 2 ≡ q = omega arith in
    rw (e, f) (ap (λ (x : ℕ). double_of x (word_at t (q + 2))) (omega (arith, h q, h (q + 1))))

-- a value over one word is that word
pub value_one : (t : List ℕ) → value_at t 7 1 ≡ word_at t 7
unfolding value_at
value_one t = omega arith

-- the area of three words, and of four
pub area_three : (t : List ℕ) → area_at t 3 ≡ record { pke = word_at t 3; ind = word_at t 5; value = word_at t 7 }
unfolding area_at
area_three t = rw (value_one t)

pub area_four : (t : List ℕ) → Bytes t → area_at t 4 ≡ record { pke = word_at t 3; ind = word_at t 5; value = double_at t 7 }
unfolding area_at
area_four t bytes = rw (value_last t 7 2 7 bytes (omega arith) refl)

-- the first of the process words
pub process_first : (t : List ℕ) (n pzd : ℕ) (old : Words) → (pzd ≡ 0 → ⊥) → (process_at t n pzd old).w1 ≡ word_at t (n * 2 + 3)
unfolding process_at
process_first t n pzd old some = rw (lt-ltb 0 pzd (omega arith))
