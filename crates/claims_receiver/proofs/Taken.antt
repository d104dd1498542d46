-- What a host reckons with after any call, from any state, items and page. Assumes nothing.
--     taken_most     no more items are taken than were lent
--     taken_all      without a telegram all are taken
--     taken_some     of one item or more, at least one is taken: a host that feeds the rest again comes to an end
--     length_most    the telegram lies inside the page
--     pause_alone    a single pause: one item taken, no telegram, armed, and the page as it was; so `uss_pause` is a call like any other
use Prim.Native.Nat.{ℕ, ◌+◌, ◌<◌, ◌≤◌}
use mathlib.Core.Path.{◌≡◌, refl}
use mathlib.Core.Bool.{true, not}
use mathlib.Core.List.{List, [], ◌∷◌}
use native.Mathlib.Omega.{arith}
use lib.Dec.{ltb, leb, eqb}
use lib.ListN.{length}
use borrow.Author.Tests.{leb-true, leb-false, eqb-false}
use Rattle.words.specs.Words.{byte_at}
use Rattle.step.specs.Step.{Stepped, held_in, is_pause, step_of, settled_of}
use Rattle.step.proofs.StepLaws.{step_pause}
use Rattle.receiver.specs.Receive.{Reception, waiting, run_from, received_of}
use Rattle.receiver.proofs.RunLaws.{single}
use Rattle.claims_receiver.proofs.Settled.{by_test}
use Rattle.claims_receiver.proofs.Noise.{step_length}

-- the telegram that an item completes lies inside the page
step_most : (s x : ℕ) (page : List ℕ) → (step_of s x page).move.length ≤ length page
unfolding step_of
step_most s x page =
    let Inside : Stepped → Type 0 = λ (t : Stepped). t.move.length ≤ length page in
    let none : 0 ≤ length page = omega arith in
    by_test Inside (leb 256 x) (λ _. none)
    (λ _. by_test Inside (eqb s 0) (λ _. none)
    (λ _. by_test Inside (leb (length page) (held_in s)) (λ _. none)
    (λ d. by_test Inside (eqb s 1) (λ _. by_test Inside (not (eqb x 2)) (λ _. none) (λ _. none))
    (λ _. by_test Inside (eqb s 2)
    (λ _. by_test Inside (ltb x 3) (λ _. none) (λ _. by_test Inside (ltb 254 x) (λ _. none) (λ _. by_test Inside (ltb (length page) (x + 2)) (λ _. none) (λ _. none))))
    (λ _. by_test Inside (eqb s (byte_at page 1 + 2)) (λ _. let p = leb-false (length page) (held_in s) d in omega arith)
    (λ _. by_test Inside (leb 256 s) (λ _. none) (λ _. none)))))))

-- of a call that has taken n items already
record Bounded (n : ℕ) (xs page : List ℕ) (r : Reception) : Type 0 where
  most : r.received.taken ≤ n + length xs
  all : r.received.length ≡ 0 → r.received.taken ≡ n + length xs
  least : n ≤ r.received.taken
  some : 0 < length xs → n < r.received.taken
  inside : r.received.length ≤ length page

run_bounded : (n s : ℕ) (xs page : List ℕ) → Bounded n xs page (run_from n s xs page)
unfolding run_from
run_bounded n s [] page = record { most = omega arith; all = λ e. omega arith; least = omega arith; some = λ h. absurd (omega arith); inside = omega arith }
run_bounded n s (x ∷ xs) page =
    let t = step_of s x page in
    let b = run_bounded (n + 1) t.move.state xs t.page in
    by_test (Bounded n (x ∷ xs) page) (eqb t.move.length 0)
    (λ _. record { most = omega (arith, b.most); all = λ e. omega (arith, b.all e); least = omega (arith, b.least); some = λ h. omega (arith, b.least); inside = omega (arith, b.inside, step_length s x page) })
    (λ f. record { most = omega arith; all = λ e. absurd (eqb-false t.move.length 0 f e); least = omega arith; some = λ h. omega arith; inside = step_most s x page })

-- a call, from any number
module _ (s : ℕ) (xs page : List ℕ) where
  bounded : Bounded 0 xs page (received_of s xs page)
  bounded = run_bounded 0 (settled_of s (length page)) xs page

  pub taken_most : (received_of s xs page).received.taken ≤ length xs
  taken_most = omega (arith, bounded.most)

  pub taken_all : (received_of s xs page).received.length ≡ 0 → (received_of s xs page).received.taken ≡ length xs
  taken_all e = omega (arith, bounded.all e)

  pub taken_some : 0 < length xs → 0 < (received_of s xs page).received.taken
  taken_some h = bounded.some h

  pub length_most : (received_of s xs page).received.length ≤ length page
  length_most = bounded.inside

pub pause_alone : (s p : ℕ) (page : List ℕ) → is_pause p ≡ true → received_of s (p ∷ []) page ≡ waiting 1 1 page
pause_alone s p page e = single (settled_of s (length page)) (p ∷ []) page _ refl (step_pause _ p page (leb-true 256 p e))
