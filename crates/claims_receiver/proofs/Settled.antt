-- What a call leaves is a state: its number is read as itself. Assumes nothing.
use Prim.Native.Nat.{ℕ, ◌+◌, ◌-◌, ◌<◌, ◌≤◌}
use mathlib.Core.Path.{◌≡◌, refl}
use mathlib.Core.Bool.{Bool, true, false, not, cond}
use mathlib.Core.List.{List, [], ◌∷◌}
use native.Mathlib.Omega.{arith}
use lib.Dec.{ltb, leb, eqb}
use lib.ListN.{length, set, length-set}
use borrow.Author.Tests.{le-ltb, ne_eqb, ltb-false, leb-false, eqb-false}
use Rattle.words.specs.Words.{byte_at}
use Rattle.step.specs.Step.{Stepped, onward, step_of, settled_of}
use Rattle.receiver.specs.Receive.{Reception, run_from, received_of}

-- by the test, and by what it says
pub by_test : {A : Type 0} (P : A → Type 0) (b : Bool) {a r : A} → (b ≡ true → P a) → (b ≡ false → P r) → P (cond b a r)
by_test P true p q = p refl
by_test P false p q = q refl

abbrev pub Settled : ℕ → ℕ → Type 0
Settled s room = settled_of s room ≡ s

pub zero_settled : (room : ℕ) → Settled 0 room
unfolding settled_of
zero_settled room = refl

in_settled : (s room : ℕ) → 0 < s → s ≤ 256 → s - 1 ≤ room → Settled s room
unfolding settled_of
in_settled s room h g f = rw (le-ltb 256 s g, ne_eqb s 0 (λ e. omega arith), le-ltb room (s - 1) f)

-- a number once read is read as itself
pub read_settled : (s room : ℕ) → Settled (settled_of s room) room
unfolding settled_of
read_settled s room =
    by_test (λ (r : ℕ). Settled r room) (ltb 256 s) (λ _. zero_settled room)
    (λ a. by_test (λ (r : ℕ). Settled r room) (eqb s 0) (λ _. zero_settled room)
    (λ b. by_test (λ (r : ℕ). Settled r room) (ltb room (s - 1)) (λ _. zero_settled room)
    (λ d. let n = eqb-false s 0 b in in_settled s room (omega arith) (ltb-false 256 s a) (ltb-false room (s - 1) d))))

-- what any step leaves is a state
abbrev Left : Stepped → Type 0
Left t = Settled t.move.state (length t.page)

none_left : (page : List ℕ) → Left (onward 0 page)
none_left page = zero_settled (length page)

some_left : (s i v : ℕ) (page : List ℕ) → 0 < s → s ≤ 256 → s - 1 ≤ length page → Left (onward s (set page i v))
some_left s i v page h g f = in_settled s _ h g (simp length-set f)

pub step_settled : (s x : ℕ) (page : List ℕ) → Left (step_of s x page)
unfolding step_of
step_settled s x page =
    by_test Left (leb 256 x) (λ _. in_settled 1 (length page) (omega arith) (omega arith) (omega arith))
    (λ _. by_test Left (eqb s 0) (λ _. none_left page)
    (λ b. by_test Left (leb (length page) (s - 1)) (λ _. none_left page)
    (λ d. let p = leb-false (length page) (s - 1) d in
    by_test Left (eqb s 1)
    (λ e. by_test Left (not (eqb x 2)) (λ _. none_left page) (λ _. some_left 2 0 2 page (omega arith) (omega arith) (omega arith)))
    (λ _. by_test Left (eqb s 2)
    (λ _. by_test Left (ltb x 3) (λ _. none_left page)
    (λ _. by_test Left (ltb 254 x) (λ _. none_left page)
    (λ _. by_test Left (ltb (length page) (x + 2)) (λ _. none_left page)
    (λ f. let q = ltb-false (length page) (x + 2) f in some_left 3 1 x page (omega arith) (omega arith) (omega arith)))))
    (λ _. by_test Left (eqb s (byte_at page 1 + 2)) (λ _. zero_settled _)
    (λ _. by_test Left (leb 256 s) (λ _. zero_settled _)
    (λ g. let q = leb-false 256 s g in some_left (s + 1) (s - 1) x page (omega arith) (omega arith) (omega arith))))))))

-- and so what a call leaves
run_settled : (n s : ℕ) (xs page : List ℕ) → Settled s (length page) → Settled (run_from n s xs page).received.receiver.state (length (run_from n s xs page).page)
unfolding run_from
run_settled n s [] page h = h
run_settled n s (x ∷ xs) page h =
    by_test (λ (r : Reception). Settled r.received.receiver.state (length r.page)) (eqb (step_of s x page).move.length 0)
    (λ _. run_settled (n + 1) (step_of s x page).move.state xs (step_of s x page).page (step_settled s x page))
    (λ _. step_settled s x page)

pub call_settled : (s : ℕ) (xs page : List ℕ) → Settled (received_of s xs page).received.receiver.state (length (received_of s xs page).page)
call_settled s xs page = run_settled 0 _ xs page (read_settled s (length page))
