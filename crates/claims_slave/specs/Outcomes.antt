-- What is said of one slave call, in document 01's words (Slave, Answer numbers).
--     is_refused a         an answer from 10 up
--     Untouched o k        reply length 0, the given control state, nothing written
--     SoundReply o k       a whole telegram of the task's node and lengths, and no other byte written
--     SameReply o k        the received telegram, byte for byte, and no other byte written
--     FrameRefused o k     refused with 10 to 14, and untouched
--     PastFrame o          the answer's number is none of 10 to 14 (NotFrame)
--     area_in k            the received parameter area
--     GrantedChange k j    the call asks for a change of a value of record j, and no error applies
--     place_in k j         the place that it means
use Rattle.std.specs.Prelude.{ℕ, ◌+◌, ◌≤◌, ◌<◌, ◌≡◌, ◌⊎◌, Bool, true, false, length, drop, Some, Result, Ok, Err}
use Rattle.frame.specs.Frame.{last_of, frame_of}
use Rattle.address.specs.Address.{decoded_of}
use Rattle.address.specs.declared.Telegram.TheVariants.{Normal}
use Rattle.slave_answers.specs.declared.Answer.{Answer}
use Rattle.slave_answers.specs.SlaveNumbers.{answer_number}
use Rattle.slave_answers.specs.declared.Refusal.{Refusal}
use Rattle.area.specs.declared.Area.{Area}
use Rattle.area.specs.Read.{area_at}
use Rattle.table.specs.Records.{entry_at, first_place}
use Rattle.task.specs.declared.Act.TheVariants.{Change}
use Rattle.verdict.specs.Verdict.{granted}
use Rattle.deed.specs.Deed.{task_in, element_in, verdict_in}
use Rattle.slave.specs.Perform.{found_of}
use Rattle.slave.specs.Slave.{Call, Outcome, sent_by, count_in}

abbrev pub is_refused : Result Answer Refusal → Bool
is_refused (Ok answer) = false
is_refused (Err refusal) = true

pub record Untouched (o : Outcome) (k : Call) : Type 0 where
  pub silent : o.served.length ≡ 0
  pub held : o.served.control ≡ k.control
  pub memory_stays : o.memory ≡ k.memory
  pub buffer_stays : o.reply ≡ k.buffer

-- behind the reply the buffer keeps its bytes
pub record SoundReply (o : Outcome) (k : Call) : Type 0 where
  pub passes : frame_of (sent_by o) ≡ Ok (last_of k.received)
  pub reads : decoded_of (sent_by o) ≡ Ok (Normal k.setup.node 3 (last_of k.received))
  pub reported : o.served.length ≡ length (sent_by o)
  pub as_long : o.served.length ≡ length k.received
  pub rest : drop o.served.length o.reply ≡ drop o.served.length k.buffer

pub record SameReply (o : Outcome) (k : Call) : Type 0 where
  pub same : sent_by o ≡ k.received
  pub as_long : o.served.length ≡ length k.received
  pub rest : drop o.served.length o.reply ≡ drop o.served.length k.buffer

pub record FrameRefused (o : Outcome) (k : Call) : Type 0 where
  pub refused : is_refused o.served.answer ≡ true
  pub least : 10 ≤ answer_number o.served.answer
  pub most : answer_number o.served.answer ≤ 14
  pub untouched : Untouched o k

abbrev pub NotFrame : ℕ → Type 0
NotFrame n = (n < 10) ⊎ (14 < n)

abbrev pub PastFrame : Outcome → Type 0
PastFrame o = NotFrame (answer_number o.served.answer)

-- ---- a change that is made

abbrev pub area_in : Call → Area
area_in k = area_at k.received (count_in k)

pub record GrantedChange (k : Call) (j : ℕ) : Type 0 where
  pub has_area : count_in k ≡ 0 → ⊥
  pub changes : (task_in (area_in k)).act ≡ Change
  pub found : found_of k.table (area_in k) ≡ Some j
  pub granted : verdict_in (count_in k) (area_in k) (entry_at k.table j) ≡ granted

abbrev pub place_in : Call → ℕ → ℕ
place_in k j = first_place k.table j + element_in (area_in k) (entry_at k.table j)
