-- The whole slave call (document 01, Slave and Answer numbers): what it is given, and what it leaves.
--     Call                    what a call is given
--     call_with d vs ..       what it is given by a drive, with the values vs, control and status words, received bytes and buffer
--     lent_by k               what it lends to the opening check
--     opening_at k            the answer of the opening check
--     receiving k rx          the same call with other bytes received
--     Outcome                 answer, reply length and control words; the memory; the reply buffer afterwards
--     Leaves o r m out        a call that returns r leaves the memory m and the buffer out, as o has them
--     refused_of f k          a refusal
--     sent_by o               the reply that a call leaves
--     net_in rx               the net bytes of a telegram, all but 02, LGE, ADR and BCC: n in what follows
--     count_in k              how many words the received parameter area has
--     task_at n k             the parameter task, done
--     reply_at n k            the reply to a normal telegram
--     normal_case node n k    16, 17, or a normal telegram: task, control words, reply
--     mirror_case node k      16, or a mirror
--     broadcast_case n k      17, 18, or a broadcast
--     call_of k               the call
use Rattle.std.specs.Prelude.{ℕ, ◌-◌, ◌≡◌, List, [], ◌∷◌, length, take, Option, Result, Ok, Err}
use Rattle.rows.specs.Rows.{first_of}
use Rattle.words.specs.declared.Words.{Words}
use Rattle.setup.specs.declared.Setup.{Setup}
use Rattle.setup.specs.SetupRules.{area_count, other_node, other_length}
use Rattle.address.specs.Address.{decoded_of}
use Rattle.address.specs.declared.Fault.{Fault}
use Rattle.address.specs.declared.Telegram.{Telegram}
use Rattle.address.specs.declared.Telegram.TheVariants.{Normal, Mirror, Broadcast}
use Rattle.opening.specs.declared.Drive.{Drive}
use Rattle.opening.specs.Lent.{Memory, Lent, lent_list}
use Rattle.opening.specs.Answers.{opening_of}
use Rattle.area.specs.declared.Area.{Area}
use Rattle.area.specs.Net.{fixed_words, process_words, net_of}
use Rattle.net.specs.Telegram.{telegram_of, written}
use Rattle.control.specs.Control.{control_taken, void_in, control_commanded}
use Rattle.slave_answers.specs.declared.Refusal.{Refusal}
use Rattle.slave_answers.specs.declared.Refusal.TheVariants.{AtOpening, InTelegram, OtherNode, OtherLength, VoidBroadcast}
use Rattle.slave_answers.specs.declared.Answer.TheVariants.{Replied, Mirrored, Taken}
use Rattle.slave.specs.declared.Served.{Served}
use Rattle.slave.specs.Perform.{Performed, task_done}
use Rattle.slave_answers.specs.declared.OpeningFault.{OpeningFault}

-- ---- a call and its outcome

pub record Call : Type 0 where
  pub setup : Setup
  pub table : List ℕ
  pub memory : Memory
  pub list : Option (List ℕ)
  pub control : Words
  pub status : Words
  pub received : List ℕ
  pub buffer : List ℕ

abbrev pub call_with : Drive → List ℕ → Words → Words → List ℕ → List ℕ → Call
call_with d vs control status rx out =
    record { setup = d.setup; table = d.table.now; memory = record { values = vs }; list = lent_list d.places; control = control; status = status; received = rx; buffer = out }

abbrev pub lent_by : Call → Lent
lent_by k = record { setup = k.setup; table = k.table; memory = k.memory; list = k.list; room = length k.buffer }

abbrev pub opening_at : Call → Result (Unit {0}) OpeningFault
opening_at k = opening_of (lent_by k)

abbrev pub receiving : Call → List ℕ → Call
receiving k rx =
    record { setup = k.setup; table = k.table; memory = k.memory; list = k.list; control = k.control; status = k.status; received = rx; buffer = k.buffer }

pub record Outcome : Type 0 where
  pub served : Served
  pub memory : Memory
  pub reply : List ℕ

pub record Leaves (o : Outcome) (r : Served) (m : Memory) (out : List ℕ) : Type 0 where
  pub answers : r ≡ o.served
  pub memory_is : m ≡ o.memory
  pub reply_is : out ≡ o.reply

-- a refusal reports length 0, returns the given control state and writes nothing
abbrev pub refused_of : Refusal → Call → Outcome
refused_of refusal k = record { served = record { answer = Err refusal; length = 0; control = k.control }; memory = k.memory; reply = k.buffer }

-- the reply: the buffer's first bytes, as many as the call reports
abbrev pub sent_by : Outcome → List ℕ
sent_by o = take o.served.length o.reply

abbrev pub net_in : List ℕ → ℕ
net_in rx = length rx - 4

abbrev pub count_in : Call → ℕ
count_in k = area_count k.setup (net_in k.received)

-- ---- normal

abbrev pub task_at : ℕ → Call → Performed
task_at n k = task_done (area_count k.setup n) k.table k.memory k.received

-- the reply has the same node and lengths, and status words as process words
unfoldable pub reply_of : Setup → ℕ → Area → Words → List ℕ
reply_of s n area status = telegram_of s.node (net_of (fixed_words (area_count s n) area) (process_words s.pzd status))

abbrev pub reply_at : ℕ → Call → List ℕ
reply_at n k = reply_of k.setup n (task_at n k).area k.status

-- the reply is written at the buffer's start, and no other byte
abbrev pub normal_outcome : ℕ → Call → Outcome
normal_outcome n k =
    record {
      served = record { answer = Ok Replied; length = length (reply_at n k); control = control_taken k.setup n k.control k.received };
      memory = (task_at n k).memory;
      reply = written k.buffer (reply_at n k);
    }

unfoldable pub normal_case : ℕ → ℕ → Call → Outcome
normal_case node n k =
    first_of ((other_node k.setup node, refused_of OtherNode k) ∷ (other_length k.setup n, refused_of OtherLength k) ∷ [])
    (normal_outcome n k)

-- ---- mirror: any net length; the reply is the telegram; nothing else changes

abbrev pub mirror_outcome : Call → Outcome
mirror_outcome k = record {
  served = record { answer = Ok Mirrored; length = length k.received; control = k.control };
  memory = k.memory;
  reply = written k.buffer k.received;
}

unfoldable pub mirror_case : ℕ → Call → Outcome
mirror_case node k = first_of ((other_node k.setup node, refused_of OtherNode k) ∷ []) (mirror_outcome k)

-- ---- broadcast: no reply

abbrev pub taken_outcome : ℕ → Call → Outcome
taken_outcome n k = record {
  served = record { answer = Ok Taken; length = 0; control = control_commanded k.setup n k.control k.received };
  memory = k.memory;
  reply = k.buffer;
}

unfoldable pub broadcast_case : ℕ → Call → Outcome
broadcast_case n k =
    first_of ((other_length k.setup n, refused_of OtherLength k) ∷ (void_in k.setup n k.received, refused_of VoidBroadcast k) ∷ [])
    (taken_outcome n k)

-- ---- the call: 20, 21, 22, 25, 23, 10 to 15, then 16 to 18 by the kind of the telegram

abbrev pub execute_decoded : Result Telegram Fault → Call → Outcome
execute_decoded (Ok (Normal node start end)) k = normal_case node (end - start) k
execute_decoded (Ok (Mirror node)) k = mirror_case node k
execute_decoded (Ok Broadcast) k = broadcast_case (net_in k.received) k
execute_decoded (Err fault) k = refused_of (InTelegram fault) k

unfoldable pub execute_of : Call → Outcome
execute_of k = execute_decoded (decoded_of k.received) k

abbrev pub call_opened : Result (Unit {0}) OpeningFault → Call → Outcome
call_opened (Ok done) k = execute_of k
call_opened (Err fault) k = refused_of (AtOpening fault) k

unfoldable pub call_of : Call → Outcome
call_of k = call_opened (opening_at k) k
