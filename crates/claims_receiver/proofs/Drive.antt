-- A slave behind the receiver (document 02, W-201): what holds of a slave alone, read on the telegrams handed out. Assumes nothing.
--     drive_answers         replies and state are those of the slave on the telegrams that stand in the items, in any cuts
--     drive_striking_out    striking out refused telegrams, all or any of them, alters no other reply and no final state
--     drive_never_cut       no answer is one of 10 to 13
--     drive_line            the exact line, for flips in a telegram already handed out, in any state that the drive came to
--     fed_served            each way of feeding is a drive
use Prim.Native.Nat.{ℕ, suc, ◌+◌}
use mathlib.Core.Path.{◌≡◌, refl, sym, ap, ◌∙◌}
use mathlib.Core.Logic.{◌↔◌}
use mathlib.Core.Bool.{Bool}
use mathlib.Core.List.{List, [], ◌∷◌, ◌++◌}
use native.Mathlib.Nat.{add-zero, add-suc, suc-add}
use lib.ListN.{length}
use Rattle.rows.specs.Rows.{Each}
use Rattle.words.specs.declared.Words.{Words}
use Rattle.slave_answers.specs.SlaveNumbers.{answer_number}
use Rattle.receiver.specs.Receive.{received_of}
use Rattle.claims_damage.specs.Damage.{damaged, Damage, Unseen}
use Rattle.claims_slave.specs.Outcomes.{PastFrame}
use Rattle.claims_slave.specs.Sequence.{Standing, State, Event, Run, Opens, asked, call_at, seen_of, step_of, run_of, strike, kept}
use Rattle.claims_slave.proofs.Sequences.{striking_out, stays_open}
use Rattle.claims_slave.proofs.Damaged.{damaged_exactly}
use Rattle.claims_receiver.specs.Telegrams.{telegrams_in, Whole}
use Rattle.claims_receiver.specs.Heard.{Heard, heard_of, handed_by, Fed}
use Rattle.claims_receiver.specs.Heard as heard
use Rattle.claims_receiver.specs.Served.{events_from, served_by, Served, stop, call, NotCut}
use Rattle.claims_receiver.proofs.Settled.{zero_settled}
use Rattle.claims_receiver.proofs.Cuts.{cuts_do_not_show}
use Rattle.claims_receiver.proofs.Exactly.{handed_out_exactly}
use Rattle.claims_receiver.proofs.HandedOut.{items_whole}
use Rattle.claims_receiver.proofs.NeverCut.{call_never_cut}

events_append : (status : ℕ → Words) (n : ℕ) (ts us : List (List ℕ)) → events_from status n (ts ++ us) ≡ events_from status n ts ++ events_from status (n + length ts) us
events_append status n [] us = rw (add-zero n)
events_append status n (t ∷ ts) us =
    ap (λ (es : List Event). record { received = t; status = status n } ∷ es) (events_append status (suc n) ts us ∙ rw (suc-add n (length ts), add-suc n (length ts)))

module _ (s : Standing) where
  abbrev joined : Run → Run → Run
  joined a b = record { seen = a.seen ++ b.seen; last = b.last }

  run_append : (q : State) (es fs : List Event) → run_of s q (es ++ fs) ≡ joined (run_of s q es) (run_of s (run_of s q es).last fs)
  unfolding run_of
  run_append q [] fs = refl
  run_append q (e ∷ es) fs = ap (λ (r : Run). record { seen = seen_of (call_at s q e) ∷ r.seen; last = r.last }) (run_append (step_of s q e) es fs)

  module _ (status : ℕ → Words) where
    served_fed : {n state : ℕ} {page : List ℕ} {q : State} {xs : List ℕ} {h : Heard} {run : Run} → Served s status n state page q xs h run → Fed state page xs h
    served_fed stop = heard.stop
    served_fed (call xs rest d) = heard.call xs rest (served_fed d)

    served_run : {n state : ℕ} {page : List ℕ} {q : State} {xs : List ℕ} {h : Heard} {run : Run} → Served s status n state page q xs h run
        → run ≡ run_of s q (events_from status n h.telegrams)
    unfolding run_of
    served_run stop = refl
    served_run {n} {state} {page} {q} (call {h = h} {run = run} xs rest d) =
        let r = received_of state xs page in
        let first_run = served_by s status n q r in
        ap (joined first_run) (served_run d)
        ∙ sym (ap (run_of s q) (events_append status n (handed_by r) h.telegrams) ∙ run_append q (events_from status n (handed_by r)) (events_from status (n + length (handed_by r)) h.telegrams))

    never_cut : (q : State) (n : ℕ) (ts : List (List ℕ)) → Each Whole ts → Each (λ x. NotCut (answer_number x.answer)) (run_of s q (events_from status n ts)).seen
    unfolding run_of
    never_cut q n [] w = tt
    never_cut q n (x ∷ ts) w =
        let e : Event = record { received = x; status = status n } in
        (call_never_cut (asked s q e) w.0, never_cut (step_of s q e) (suc n) ts w.1)

    -- each way of feeding is a drive: the slave is called with what is handed out
    pub record Driven (n state : ℕ) (page : List ℕ) (q : State) (xs : List ℕ) (h : Heard) : Type 0 where
      pub run : Run
      pub served : Served s status n state page q xs h run

    pub fed_served : {state : ℕ} {page xs : List ℕ} {h : Heard} → Fed state page xs h → (n : ℕ) (q : State) → Driven n state page q xs h
    fed_served heard.stop n q = record { run = record { seen = []; last = q }; served = stop }
    fed_served {state} {page} (heard.call xs rest f) n q =
        let r = received_of state xs page in
        let later = fed_served f (n + length (handed_by r)) (served_by s status n q r).last in
        record { run = joined (served_by s status n q r) later.run; served = call xs rest later.served }

    module _ (n : ℕ) (page : List ℕ) (q : State) (xs : List ℕ) (h : Heard) (run : Run) (d : Served s status n 0 page q xs h run) where
      -- the events of the telegrams that stand in the items
      abbrev pub events : List Event
      events = events_from status n (telegrams_in (length page) xs)

      pub drive_answers : run ≡ run_of s q events
      drive_answers =
          served_run d
          ∙ ap (λ (ts : List (List ℕ)). run_of s q (events_from status n ts))
          (ap (λ (o : Heard). o.telegrams) (cuts_do_not_show 0 xs page h (served_fed d) ∙ ap (λ (z : ℕ). heard_of z xs page) (zero_settled (length page))) ∙ handed_out_exactly xs page)

      pub drive_striking_out : (c : ℕ → Bool) → run_of s q (strike c s q events) ≡ record { seen = kept c run.seen; last = run.last }
      drive_striking_out c = striking_out c s q events ∙ ap (λ (r : Run). record { seen = kept c r.seen; last = r.last }) (sym drive_answers)

      pub drive_never_cut : Each (λ x. NotCut (answer_number x.answer)) run.seen
      drive_never_cut = rw drive_answers (never_cut q n (telegrams_in (length page) xs) (items_whole (length page) xs))

      -- the opening check passes in every state that the drive comes to
      pub drive_stays_open : Opens s q → Opens s run.last
      drive_stays_open o = rw drive_answers (stays_open s q events o)

      pub drive_line : Opens s q → (telegram flips : List ℕ) → Damage telegram flips → (w : Words)
          → PastFrame (call_at s run.last (record { received = damaged telegram flips; status = w })) ↔ Unseen flips
      drive_line o telegram flips f w = damaged_exactly (asked s run.last (record { received = telegram; status = w })) telegram flips (drive_stays_open o) f
