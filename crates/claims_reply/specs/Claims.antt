-- What is claimed of a slave's replies, as a master of the same set-up reads them (document 01, Slave and Answer numbers): k is a
-- call of the slave on the bytes of a task telegram.
--     area_done k        the parameter area that the slave answers
--     ReplyRead k r      r reads the reply as what the slave answered
--     RoundMade k r o    the outcome o is a reply, and the master reads its bytes so
use Rattle.std.specs.Prelude.{◌≡◌, ◌/◌, Result, Ok}
use Rattle.area.specs.declared.Area.{Area}
use Rattle.area.specs.Read.{first_words}
use Rattle.request.specs.declared.Request.{Request}
use Rattle.slave.specs.Slave.{Call, net_in, Outcome, sent_by, task_at}
use Rattle.slave_answers.specs.declared.Answer.TheVariants.{Replied}
use Rattle.read_answers.specs.ReadNumbers.{read_number, read_id, read_value}
use Rattle.read_answers.specs.declared.Reading.{Reading}
use Rattle.read_answers.specs.declared.ReadFault.{ReadFault}
use Rattle.reply.specs.Reply.{zero_words, read_of, read_process}

abbrev pub area_done : Call → Area
area_done k = (task_at (net_in k.received) k).area

-- reply ID, value or error number, and status words
pub record ReplyRead (k : Call) (r : Result Reading ReadFault) : Type 0 where
  pub number_is : read_number r ≡ 0
  pub id_is : read_id r ≡ (area_done k).pke / 4096
  pub value_is : read_value r ≡ (area_done k).value
  pub process_is : read_process r ≡ first_words k.setup.pzd k.status zero_words
  -- the slave never answers that the master has no right
  pub not_8 : read_id r ≡ 8 → ⊥

pub record RoundMade (k : Call) (r : Request) (o : Outcome) : Type 0 where
  pub replied : o.served.answer ≡ Ok Replied
  pub read_is : ReplyRead k (read_of k.setup r (sent_by o))
