-- A call of the receiver, one item on: from place i of the items it goes on, or ends, as the step of that item says.
-- Assumes nothing.
use Prim.Native.Nat.{ℕ, zero, suc, ◌+◌, ◌-◌, ◌<◌, ◌≤◌}
use mathlib.Core.Path.{◌≡◌, refl, sym, ap, subst, ◌∙◌}
use mathlib.Core.Bool.{Bool, true, false, cond}
use mathlib.Core.List.{List, [], ◌∷◌, ◌++◌, map, append_assoc, append-nil}
use Rattle.std.specs.Ordering.{ord_min, nat_cmp}
use Rattle.std.proofs.lemmas.Bool.Decides.{nat_tests}
use Rattle.std.proofs.lemmas.List.{get_or-map}
use native.Mathlib.Omega.{arith}
use native.Mathlib.Nat.{add-zero}
use native.Mathlib.Numerals.{add-one}
use lib.ListN.{length, get_or, set, take, drop, length-set, length-drop, drop_of_length-le}
use lib.Seq.{drop-cons, drop-drop, length-take-le, sets, sets-eq, get_or-set_other}
use lib.Dec.{eqb}
use borrow.Author.Tests.{eq-eqb, ne_eqb, eqb-true}
use Rattle.words.specs.Words.{byte_at, Bytes}
use Rattle.store.specs.Placed.{put_out}
use Rattle.store.proofs.StoreLaws.{put_front}
use Rattle.step.specs.declared.Move.{Move}
use Rattle.step.specs.Step.{Stepped, held_in, step_of, settled_of}
use Rattle.step.proofs.StepLaws.{step_ignored, step_next}
use Rattle.receiver.specs.declared.Received.{Received}
use Rattle.receiver.specs.Receive.{Reception, ended, waiting, run_from, call_from, received_of, Leaves}

-- by the step t of the first item
module _ (n s x : ℕ) (xs page : List ℕ) (t : Stepped) (is : step_of s x page ≡ t) where
  pub goes_on : t.move.length ≡ 0 → run_from n s (x ∷ xs) page ≡ run_from (n + 1) t.move.state xs t.page
  unfolding run_from
  goes_on none = rw (is, eq-eqb _ _ none)

  pub ends : (t.move.length ≡ 0 → ⊥) → run_from n s (x ∷ xs) page ≡ ended (n + 1) t
  unfolding run_from
  ends some = rw (is, ne_eqb _ _ some)

-- the same at place i of the items
module _ (s i : ℕ) (xs page : List ℕ) (here : i < length xs) (t : Stepped) (is : step_of s (get_or xs i 0) page ≡ t) where
  pub call_on : t.move.length ≡ 0 → call_from i s xs page ≡ call_from (i + 1) t.move.state xs t.page
  call_on none = rw (drop-cons xs i 0 here, add-one i) (rw (add-one i) at (goes_on i s _ (drop (suc i) xs) page t is none))

  pub call_ends : (t.move.length ≡ 0 → ⊥) → call_from i s xs page ≡ ended (i + 1) t
  call_ends some = rw (drop-cons xs i 0 here) (ends i s _ _ page t is some)

-- no item is left
pub call_waits : (s i : ℕ) (xs page : List ℕ) → length xs ≤ i → call_from i s xs page ≡ waiting i s page
unfolding run_from
call_waits s i xs page h = rw (drop_of_length-le xs h)

-- a call with a single item ends with its step
pub single : (s : ℕ) (xs page : List ℕ) (t : Stepped) → length xs ≡ 1 → step_of s (get_or xs 0 0) page ≡ t → run_from 0 s xs page ≡ ended 1 t
unfolding run_from
single s [] page t one is = absurd (omega arith)
single s (x ∷ []) page t one is = rw is (go (eqb t.move.length 0) refl)
  where
    go : (b : Bool) → eqb t.move.length 0 ≡ b → cond b (waiting 1 t.move.state t.page) (ended 1 t) ≡ ended 1 t
    go true e = rw (eqb-true t.move.length 0 e)
    go false e = refl
single s (x ∷ y ∷ xs) page t one is = absurd (omega arith)

-- the step of an item, by what the code's call of it returned and left
pub as_step : (s x : ℕ) (page : List ℕ) (r : Move) (page' : List ℕ) → r ≡ (step_of s x page).move → page' ≡ (step_of s x page).page
    → step_of s x page ≡ record { move = r; page = page' }
as_step s x page r page' e f = rw (e, f)

-- the same for the item x at place i of items that have numbers
pub as_item : {A : Type 0} (f : A → ℕ) (xs : List A) (i s : ℕ) (page : List ℕ) (x : A) {n : ℕ} (r : Move) (page' : List ℕ) → i < length xs
    → x ≡ get_or xs i x → n ≡ f x → r ≡ (step_of s n page).move → page' ≡ (step_of s n page).page
    → step_of s (get_or (map f xs) i 0) page ≡ record { move = r; page = page' }
as_item f xs i s page x r page' here at is e g =
    let q = is ∙ sym (get_or-map f xs i x 0 here ∙ ap f (sym at)) in
    as_step s _ page r page' (rw q at e) (rw q at g)

-- the smaller of two counts
pub within : (a b : ℕ) {n : ℕ} → n ≡ ord_min nat_cmp a b → (n ≤ a) × (n ≤ b)
within a b e = grind (arith, nat_tests)

-- result and page of a call, by what the whole call is
pub leaves : {a b : Reception} → a ≡ b → Leaves a b.received b.page
leaves q = record { answers = sym (ap (λ (o : Reception). o.received) q); page_is = sym (ap (λ (o : Reception). o.page) q) }

-- by what is left of the call
pub leaves_through : {a b : Reception} {r : Received} {page : List ℕ} → a ≡ b → Leaves b r page → Leaves a r page
leaves_through {r = r} {page = page} e l = subst (λ (o : Reception). Leaves o r page) (sym e) l

-- a call starts from the state that its number says
pub settled_leaves : (s : ℕ) {s' : ℕ} (xs page : List ℕ) {r : Received} {page' : List ℕ} → s' ≡ settled_of s (length page)
    → Leaves (run_from 0 s' xs page) r page' → Leaves (received_of s xs page) r page'
settled_leaves s xs page {r} {page'} e l = subst (λ (k : ℕ). Leaves (run_from 0 k xs page) r page') e l

-- a byte that is ignored
pub skip_more : (i : ℕ) (xs page : List ℕ) → i < length xs → get_or xs i 0 < 256 → call_from i 0 xs page ≡ call_from (i + 1) 0 xs page
skip_more i xs page here byte = call_on 0 i xs page here _ (step_ignored _ page byte) refl

-- all that is left are bytes, and all are ignored
pub skip_all : (n i : ℕ) (xs page : List ℕ) → i + n ≡ length xs → Bytes xs → call_from i 0 xs page ≡ call_from (length xs) 0 xs page
skip_all zero i xs page e b = ap (λ (k : ℕ). call_from k 0 xs page) (omega arith)
skip_all (suc n) i xs page e b = skip_more i xs page (omega arith) (b i) ∙ skip_all n (i + 1) xs page (omega arith) b

-- no byte yet, and then the byte at place j of those that are put behind others, before the last one of the telegram
pub fill_none : (s i : ℕ) (xs page : List ℕ) → call_from i s xs page ≡ call_from (i + 0) (s + 0) xs page
fill_none s i xs page = rw (add-zero i, add-zero s)

pub fill_more : (s i j : ℕ) (xs page : List ℕ) → 3 ≤ s → i + j < length xs → get_or xs (i + j) 0 < 256 → held_in s + j ≤ byte_at page 1
    → byte_at page 1 ≤ 254 → byte_at page 1 + 2 ≤ length page
    → call_from (i + j) (s + j) xs page ≡ call_from (i + (j + 1)) (s + (j + 1)) xs (set page (held_in s + j) (get_or xs (i + j) 0))
fill_more s i j xs page front here byte before high fits =
    let place : held_in (s + j) ≡ held_in s + j = omega arith in
    let next : i + (j + 1) ≡ i + j + 1 = omega arith in
    let then : s + (j + 1) ≡ s + j + 1 = omega arith in
    rw (next, then, sym place)
    (call_on (s + j) (i + j) xs page here _ (step_next (s + j) (get_or xs (i + j) 0) page (omega arith) byte (omega arith) (λ q. omega arith) (omega arith)) refl)

-- bytes alone, n of them at once
pub fill_all : (n s i : ℕ) (xs page : List ℕ) → 3 ≤ s → i + n ≤ length xs → Bytes xs → held_in s + n ≤ byte_at page 1 + 1
    → byte_at page 1 ≤ 254 → byte_at page 1 + 2 ≤ length page
    → call_from i s xs page ≡ call_from (i + n) (s + n) xs (sets page (held_in s) (take n (drop i xs)))
fill_all zero s i xs page front there b before high fits = fill_none s i xs page
fill_all (suc n) s i xs page front there b before high fits =
    let x = get_or xs i 0 in
    let next : held_in (s + 1) ≡ suc (held_in s) = omega arith in
    let still : byte_at (set page (held_in s) x) 1 ≡ byte_at page 1 = get_or-set_other page (held_in s) 1 x 0 (λ q. omega arith) in
    let same : length (set page (held_in s) x) ≡ length page = length-set page (held_in s) x in
    let at : i + suc n ≡ i + 1 + n = omega arith in
    let then : s + suc n ≡ s + 1 + n = omega arith in
    call_on s i xs page (omega arith) _ (step_next s x page front (b i) (omega arith) (λ q. omega arith) (omega arith)) refl
    ∙ fill_all n (s + 1) (i + 1) xs (set page (held_in s) x) (omega arith) (omega arith) b (omega arith) (omega arith) (omega arith)
    ∙ rw (at, then, next, drop-cons xs i 0 (omega arith), add-one i)

-- the same as the code does it: n bytes from place i are written over the part of the page from place k on
pub part_filled : (n k i : ℕ) (xs page : List ℕ) {ys : List ℕ} → k + n ≤ length page → i + n ≤ length xs
    → ys ≡ (put_out (take (k + n - k) (drop k page)) 0 (take (i + n - i) (drop i xs))).bytes
    → take k page ++ (ys ++ drop (k + n - k) (drop k page)) ≡ sets page k (take n (drop i xs))
part_filled n k i xs page room there e =
    let xs' = take n (drop i xs) in
    let out = take n (drop k page) in
    let here : k + n - k ≡ n = omega arith in
    let from : i + n - i ≡ n = omega arith in
    let long : length xs' ≡ n = length-take-le n (drop i xs) (omega (arith, length-drop i xs)) in
    let wide : length out ≡ n = length-take-le n (drop k page) (omega (arith, length-drop k page)) in
    rw (e, here, from, put_front out xs' (omega arith), long, drop_of_length-le out {i = n} (omega arith), append-nil xs', drop-drop n k page)
    (sym (append_assoc (take k page) xs' (drop (k + n) page)) ∙ sym (sets-eq xs' page k (omega arith) ∙ rw long))
