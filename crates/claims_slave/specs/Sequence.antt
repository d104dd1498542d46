-- Sequences of slave calls with one set-up, table and list: each starts from what the last one left, and no one else writes.
--     Standing           what stands through a sequence: set-up, table, and the list where one is lent (document 02, W-205)
--     asked s q e        the call of an event e in a state q
--     call_at s q e      its outcome; left_by o: the state that it leaves; seen_of o: what is seen of it
--     step_of s q e      the next state
--     run_of s q es      the calls of the events es, one after another: what is seen, and the last state
--     strike c s q es    the events without those chosen ones that are refused when their turn comes; c i chooses event i
--     kept c seen        what is seen, without the chosen refused calls
--     every_one          the choice of all
--     Opens s q          the opening check passes in the state q
use Rattle.std.specs.Prelude.{ℕ, suc, ◌≡◌, Bool, true, ◌&&◌, cond, List, [], ◌∷◌, length, Option, Result}
use Rattle.words.specs.declared.Words.{Words}
use Rattle.setup.specs.declared.Setup.{Setup}
use Rattle.opening.specs.Lent.{Memory}
use Rattle.opening.specs.Answers.{opening_of, passed}
use Rattle.slave_answers.specs.declared.Answer.{Answer}
use Rattle.slave_answers.specs.declared.Refusal.{Refusal}
use Rattle.slave.specs.Slave.{Call, Outcome, sent_by, call_of}
use Rattle.claims_slave.specs.Outcomes.{is_refused}

pub record Standing : Type 0 where
  pub setup : Setup
  pub table : List ℕ
  pub list : Option (List ℕ)

pub record State : Type 0 where
  pub memory : Memory
  pub control : Words
  pub buffer : List ℕ

-- the received bytes, and the status words that the host gives with them
pub record Event : Type 0 where
  pub received : List ℕ
  pub status : Words

-- the answer, the reply's length and the reply
pub record Seen : Type 0 where
  pub answer : Result Answer Refusal
  pub count : ℕ
  pub bytes : List ℕ

pub record Run : Type 0 where
  pub seen : List Seen
  pub last : State

abbrev pub Opens : Standing → State → Type 0
Opens s q = opening_of (record { setup = s.setup; table = s.table; memory = q.memory; list = s.list; room = length q.buffer }) ≡ passed

abbrev pub asked : Standing → State → Event → Call
asked s q e =
    record { setup = s.setup; table = s.table; memory = q.memory; list = s.list; control = q.control; status = e.status; received = e.received; buffer = q.buffer }

abbrev pub call_at : Standing → State → Event → Outcome
call_at s q e = call_of (asked s q e)

abbrev pub left_by : Outcome → State
left_by o = record { memory = o.memory; control = o.served.control; buffer = o.reply }

abbrev pub seen_of : Outcome → Seen
seen_of o = record { answer = o.served.answer; count = o.served.length; bytes = sent_by o }

abbrev pub step_of : Standing → State → Event → State
step_of s q e = left_by (call_at s q e)

unfoldable pub run_of : Standing → State → List Event → Run
run_of s q [] = record { seen = []; last = q }
run_of s q (e ∷ es) = record { seen = seen_of (call_at s q e) ∷ (run_of s (step_of s q e) es).seen; last = (run_of s (step_of s q e) es).last }

-- ---- striking out

abbrev pub every_one : ℕ → Bool
every_one i = true

-- the choice among the events after the first
abbrev pub onward : (ℕ → Bool) → ℕ → Bool
onward c i = c (suc i)

unfoldable pub strike : (ℕ → Bool) → Standing → State → List Event → List Event
strike c s q [] = []
strike c s q (e ∷ es) =
    cond (c 0 && is_refused (call_at s q e).served.answer) (strike (onward c) s (step_of s q e) es) (e ∷ strike (onward c) s (step_of s q e) es)

unfoldable pub kept : (ℕ → Bool) → List Seen → List Seen
kept c [] = []
kept c (x ∷ xs) = cond (c 0 && is_refused x.answer) (kept (onward c) xs) (x ∷ kept (onward c) xs)
