-- Sequences of slave calls. Assumes nothing.
--     striking_out    striking out refused telegrams, all or any of them, alters no other reply and no final state
--     run_next        each call starts from what the last one left
--     stays_open      where the opening check passes at the start, it passes after any sequence
--     never_closed    and no call of it answers 20 to 23 or 25
use Prim.Native.Nat.{ℕ, ◌<◌}
use mathlib.Core.Path.{◌≡◌, refl, sym, ap, ◌∙◌}
use mathlib.Core.Bool.{Bool, true, false, ◌&&◌}
use mathlib.Core.List.{List, [], ◌∷◌, ◌++◌}
use lib.Dec.{lit<}
use Rattle.rows.specs.Rows.{Each}
use Rattle.rows.proofs.BoolLaws.{and_right}
use Rattle.slave_answers.specs.SlaveNumbers.{answer_number}
use Rattle.claims_slave.specs.Outcomes.{is_refused}
use Rattle.claims_slave.specs.Sequence.{Standing, State, Event, Run, Opens, asked, call_at, seen_of, step_of, run_of, every_one, onward, strike, kept}
use Rattle.claims_slave.proofs.Cases.{call_cases}
use Rattle.claims_slave.proofs.Kept.{refused_keeps, opening_kept}

-- a refused call leaves the state as it was
module _ (s : Standing) (q : State) (e : Event) where
  pub refused_stays : is_refused (call_at s q e).served.answer ≡ true → step_of s q e ≡ q
  refused_stays h =
      let u = refused_keeps (asked s q e) h in
      rw (u.memory_stays, u.held, u.buffer_stays)

-- Any choice among the events, any set-up, table, list, state and events, with any status words at each call. Nothing is assumed of the
-- opening check: where it does not pass, every call is refused, and all that are chosen are struck out.
pub striking_out : (c : ℕ → Bool) (s : Standing) (q : State) (es : List Event)
    → run_of s q (strike c s q es) ≡ record { seen = kept c (run_of s q es).seen; last = (run_of s q es).last }
unfolding run_of strike kept
striking_out c s q [] = refl
striking_out c s q (e ∷ es) = go (c 0 && is_refused (call_at s q e).served.answer) refl (striking_out (onward c) s (step_of s q e) es)
  where
    next : State
    next = step_of s q e

    left : List Event
    left = strike (onward c) s next es

    go : (b : Bool) → (c 0 && is_refused (call_at s q e).served.answer) ≡ b
        → run_of s next left ≡ record { seen = kept (onward c) (run_of s next es).seen; last = (run_of s next es).last }
        → run_of s q (strike c s q (e ∷ es)) ≡ record { seen = kept c (run_of s q (e ∷ es)).seen; last = (run_of s q (e ∷ es)).last }
    go true r rest =
        rw r (ap (λ (x : State). run_of s x left) (sym (refused_stays s q e (and_right (c 0) (is_refused (call_at s q e).served.answer) r))) ∙ rest)
    go false r rest = rw r (ap (λ (x : Run). record { seen = seen_of (call_at s q e) ∷ x.seen; last = x.last }) rest)

-- all refused telegrams at once
pub striking_all : (s : Standing) (q : State) (es : List Event)
    → run_of s q (strike every_one s q es) ≡ record { seen = kept every_one (run_of s q es).seen; last = (run_of s q es).last }
striking_all = striking_out every_one

-- one more call starts from what the last one left
pub run_next : (s : Standing) (q : State) (es : List Event) (e : Event)
    → run_of s q (es ++ e ∷ [])
    ≡ record { seen = (run_of s q es).seen ++ seen_of (call_at s (run_of s q es).last e) ∷ []; last = step_of s (run_of s q es).last e }
unfolding run_of
run_next s q [] e = refl
run_next s q (x ∷ es) e = ap (λ (r : Run). record { seen = seen_of (call_at s q x) ∷ r.seen; last = r.last }) (run_next s (step_of s q x) es e)

-- ---- the opening check

-- with an opening check that passes, a call answers below 20
pub below_20 : (s : Standing) (q : State) (e : Event) → Opens s q → answer_number (call_at s q e).served.answer < 20
below_20 s q e p =
    call_cases (asked s q e) (λ o. answer_number o.served.answer < 20)
    (λ r b. b p) (λ o d l. lit< tt) (λ o d. lit< tt) (λ o d l v. lit< tt)

pub step_opens : (s : Standing) (q : State) (e : Event) → Opens s q → Opens s (step_of s q e)
step_opens s q e = opening_kept (asked s q e)

pub stays_open : (s : Standing) (q : State) (es : List Event) → Opens s q → Opens s (run_of s q es).last
unfolding run_of
stays_open s q [] p = p
stays_open s q (e ∷ es) p = stays_open s (step_of s q e) es (step_opens s q e p)

pub never_closed : (s : Standing) (q : State) (es : List Event) → Opens s q → Each (λ x. answer_number x.answer < 20) (run_of s q es).seen
unfolding run_of
never_closed s q [] p = tt
never_closed s q (e ∷ es) p = (below_20 s q e p, never_closed s (step_of s q e) es (step_opens s q e p))
