-- A drive: a slave behind the receiver (document 02, W-201). The host feeds items in any cuts, calls the slave with each telegram that
-- is handed out, and goes on with what both left; no one else writes.
--     events_from status n ts          the slave's events for the telegrams ts, the first of them being the drive's nth; status gives
--                                     the status words of each
--     served_by s status n q r         the slave's calls for what one call of the receiver handed out
--     Served .. n k page q xs h run    a host that has the items xs to feed ends with h and run
--     NotCut n                         the number is none of 10 to 13
use Rattle.std.specs.Prelude.{ℕ, suc, ◌+◌, ◌<◌, ◌⊎◌, List, [], ◌∷◌, ◌++◌, length, drop}
use Rattle.words.specs.declared.Words.{Words}
use Rattle.step.specs.Step.{settled_of}
use Rattle.receiver.specs.Receive.{Reception, received_of}
use Rattle.claims_slave.specs.Sequence.{Standing, State, Event, Run, run_of}
use Rattle.claims_receiver.specs.Heard.{Heard, silence, first, handed_by}

abbrev pub events_from : (ℕ → Words) → ℕ → List (List ℕ) → List Event
events_from status n [] = []
events_from status n (t ∷ ts) = record { received = t; status = status n } ∷ events_from status (suc n) ts

abbrev pub served_by : Standing → (ℕ → Words) → ℕ → State → Reception → Run
served_by s status n q r = run_of s q (events_from status n (handed_by r))

-- n telegrams are served already; q is what the slave's last call left
pub data Served (s : Standing) (status : ℕ → Words) : ℕ → ℕ → List ℕ → State → List ℕ → Heard → Run → Type 0 where
  stop : {n state : ℕ} {page : List ℕ} {q : State}
      → Served s status n state page q [] (silence (settled_of state (length page)) page) (record { seen = []; last = q })
  call : {n state : ℕ} {page : List ℕ} {q : State} {h : Heard} {run : Run} (xs rest : List ℕ)
      → Served s status (n + length (handed_by (received_of state xs page))) (received_of state xs page).received.receiver.state
      (received_of state xs page).page (served_by s status n q (received_of state xs page)).last
      (drop (received_of state xs page).received.taken xs ++ rest) h run
      → Served s status n state page q (xs ++ rest) (first (handed_by (received_of state xs page)) h)
      (record { seen = (served_by s status n q (received_of state xs page)).seen ++ run.seen; last = run.last })

abbrev pub NotCut : ℕ → Type 0
NotCut n = (n < 10) ⊎ (13 < n)
