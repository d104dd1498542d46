-- How the items are cut into calls shows neither in what is handed out nor in the end state (document 02, W-201).
-- Assumes nothing.
use Prim.Native.Nat.{ℕ, ◌+◌}
use mathlib.Core.Path.{◌≡◌, refl, sym, ap, subst, ◌∙◌}
use mathlib.Core.Bool.{Bool, true, false, cond}
use mathlib.Core.List.{List, [], ◌∷◌, ◌++◌}
use native.Mathlib.Numerals.{add-one}
use lib.Dec.{eqb}
use lib.ListN.{length, drop}
use Rattle.step.specs.Step.{Stepped, step_of, settled_of}
use Rattle.receiver.specs.Receive.{Reception, run_from, received_of, ended}
use Rattle.claims_receiver.specs.Heard.{Heard, heard_of, telegram_of, first, handed_by, Fed, stop, call}
use Rattle.claims_receiver.proofs.Settled.{by_test, call_settled}

-- a call that starts with one item more taken ends with one more
abbrev one_more : Reception → Reception
one_more r = record { received = record { taken = r.received.taken + 1; length = r.received.length; receiver = r.received.receiver }; page = r.page }

run_shift : (n s : ℕ) (xs page : List ℕ) → run_from (n + 1) s xs page ≡ one_more (run_from n s xs page)
unfolding run_from
run_shift n s [] page = refl
run_shift n s (x ∷ xs) page = go (eqb (step_of s x page).move.length 0) _ (run_shift (n + 1) (step_of s x page).move.state xs (step_of s x page).page)
  where
    go : (b : Bool) (r : Reception) {r' : Reception} → r' ≡ one_more r → cond b r' (ended (n + 1 + 1) (step_of s x page)) ≡ one_more (cond b r (ended (n + 1) (step_of s x page)))
    go true r e = e
    go false r e = refl

-- what is heard is what one call hands out, and then what is heard of the items that it left, from where it ended
abbrev pub resumed : Reception → List ℕ → List ℕ → Heard
resumed r xs rest = first (handed_by r) (heard_of r.received.receiver.state (drop r.received.taken xs ++ rest) r.page)

pub run_heard : (s : ℕ) (xs rest page : List ℕ) → heard_of s (xs ++ rest) page ≡ resumed (run_from 0 s xs page) xs rest
unfolding run_from heard_of
run_heard s [] rest page = refl
run_heard s (x ∷ xs) rest page = go (step_of s x page) (eqb (step_of s x page).move.length 0) refl (run_heard (step_of s x page).move.state xs rest (step_of s x page).page)
  where
    go : (t : Stepped) (b : Bool) → eqb t.move.length 0 ≡ b
        → heard_of t.move.state (xs ++ rest) t.page ≡ resumed (run_from 0 t.move.state xs t.page) xs rest
        → first (telegram_of t.move.length t.page) (heard_of t.move.state (xs ++ rest) t.page)
        ≡ resumed (cond b (run_from 1 t.move.state xs t.page) (ended 1 t)) (x ∷ xs) rest
    go t true e h = rw (e, run_shift 0 t.move.state xs t.page, add-one) h
    go t false e h = refl

-- whatever the host's cuts are, it hears what is heard of the items cut nowhere, from the state that its number says
pub cuts_do_not_show : (s : ℕ) (xs page : List ℕ) (h : Heard) → Fed s page xs h → h ≡ heard_of (settled_of s (length page)) xs page
unfolding heard_of
cuts_do_not_show s _ page _ stop = refl
cuts_do_not_show s _ page _ (call {h = h} xs rest f) =
    let r = received_of s xs page in
    ap (first (handed_by r))
    (cuts_do_not_show r.received.receiver.state _ r.page h f
    ∙ ap (λ (q : ℕ). heard_of q (drop r.received.taken xs ++ rest) r.page) (call_settled s xs page))
    ∙ sym (run_heard (settled_of s (length page)) xs rest page)

-- there is such a host: it calls with one item at a time
one_taken : (s x : ℕ) (page : List ℕ) → (run_from 0 s (x ∷ []) page).received.taken ≡ 1
unfolding run_from
one_taken s x page = by_test (λ (r : Reception). r.received.taken ≡ 1) (eqb (step_of s x page).move.length 0) (λ _. refl) (λ _. refl)

pub item_by_item : (s : ℕ) (xs page : List ℕ) → Fed s page xs (heard_of (settled_of s (length page)) xs page)
unfolding heard_of
item_by_item s [] page = stop
item_by_item s (x ∷ xs) page =
    let r = received_of s (x ∷ []) page in
    let rest = heard_of (settled_of r.received.receiver.state (length r.page)) xs r.page in
    let fed : Fed s page (x ∷ xs) (first (handed_by r) rest) =
    call {s = s} {page = page} {h = rest} (x ∷ []) xs (rw (one_taken (settled_of s (length page)) x page) (item_by_item r.received.receiver.state xs r.page)) in
    subst (λ (h : Heard). Fed s page (x ∷ xs) h) (cuts_do_not_show s (x ∷ xs) page _ fed) fed
