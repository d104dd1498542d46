-- What a slave call returns to a host, and what it leaves.
--     host_answer s            a call's result with its answer as the document's number
--     SlaveLeaves o r m out    a call that returns r leaves the memory m and the buffer out, as the outcome o says
use Rattle.std.specs.Prelude.{◌≡◌, List, ℕ}
use Rattle.slave_answers.specs.SlaveNumbers.{answer_number}
use Rattle.opening.specs.Lent.{Memory}
use Rattle.slave.specs.declared.Served.{Served}
use Rattle.slave.specs.Slave.{Outcome}
use Rattle.host_slave.specs.declared.HostAnswer.{HostAnswer}

abbrev pub host_answer : Served → HostAnswer
host_answer s = record { number = answer_number s.answer; length = s.length; control = s.control }

pub record SlaveLeaves (o : Outcome) (r : HostAnswer) (m : Memory) (out : List ℕ) : Type 0 where
  pub answers : r ≡ host_answer o.served
  pub memory_is : m ≡ o.memory
  pub reply_is : out ≡ o.reply
