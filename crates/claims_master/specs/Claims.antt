-- What is claimed of telegrams that a master builds (document 01, Slave and Answer numbers), as a slave takes them: k is a call of
-- the slave, with the telegram as its received bytes.
--     SoundBuild s r ..     a build that succeeded left a telegram with a sound frame, and nothing else changed
--     at_node node s        the same set-up at another node
--     TaskRead k ..         the call reads its bytes as this task
--     MirrorRead k net      the call answers its bytes, a mirror with these net bytes, with the telegram
--     BroadcastRead k ..    the call takes its bytes as this broadcast
--     ReadAs k r net        the call reads its bytes as the request r
--     Typed r               the fields of a request fit their types
use Rattle.std.specs.Prelude.{◌≡◌, true, false, not, ◌&&◌, cond, List, ℕ, ◌+◌, ◌-◌, ◌/◌, ◌%◌, ◌≤◌, ◌<◌, eqb, length, take, drop, Ok}
use Rattle.rows.specs.Bits.{bit}
use Rattle.words.specs.declared.Words.{Words}
use Rattle.frame.specs.Frame.{frame_of, last_of}
use Rattle.address.specs.Address.{decoded_of}
use Rattle.address.specs.declared.Telegram.TheVariants.{Normal, Mirror as MirrorTelegram, Broadcast as BroadcastTelegram}
use Rattle.setup.specs.declared.Setup.{Setup}
use Rattle.setup.specs.SetupRules.{other_length}
use Rattle.area.specs.Read.{empty_area, area_at, first_words, Worded}
use Rattle.page.specs.Page.{full_number, named}
use Rattle.broadcast.specs.Broadcast.{control_after}
use Rattle.control.specs.Control.{first_word, process_in, control_taken, command_in, void_in}
use Rattle.request.specs.declared.Request.{Request}
use Rattle.request.specs.declared.Request.TheVariants.{Task, Mirror, Broadcast}
use Rattle.request.specs.Request.{command_of}
use Rattle.slave.specs.Slave.{Call, net_in, count_in, task_at, normal_outcome, mirror_outcome, execute_of}
use Rattle.slave.specs.Perform.{perform_of}
use Rattle.slave_answers.specs.declared.Answer.TheVariants.{Taken}
use Rattle.master.specs.Build.{BuildOutcome, length_in, task_area, telegram_for}

-- of the outcome o of a build into the buffer out
pub record SoundBuild (s : Setup) (r : Request) (net out : List ℕ) (o : BuildOutcome) : Type 0 where
  -- the reported bytes are the telegram
  pub there : take (length_in o.built) o.out ≡ telegram_for s r net
  pub long : length_in o.built ≡ length (telegram_for s r net)
  pub fits : length_in o.built ≤ 256
  -- it passes the frame check
  pub passes : frame_of (telegram_for s r net) ≡ Ok (length_in o.built - 1)
  -- the buffer behind it is as it was
  pub behind : drop (length_in o.built) o.out ≡ drop (length_in o.built) out
  pub whole : length o.out ≡ length out

-- the same set-up at another node
abbrev pub at_node : ℕ → Setup → Setup
at_node node s = record { node = node; pkw = s.pkw; pzd = s.pzd }

pub record TaskRead (k : Call) (id number index value : ℕ) (process : Words) : Type 0 where
  -- a normal telegram of the slave's node and length
  pub decoded : decoded_of k.received ≡ Ok (Normal k.setup.node 3 (net_in k.received + 3))
  pub own_length : other_length k.setup (net_in k.received) ≡ false
  -- the area that it reads, where there is one: task ID, number, index and value are those that were asked
  pub area : (count_in k ≡ 0 → ⊥) → area_at k.received (count_in k) ≡ task_area id number index value
  pub task_id : (task_area id number index value).pke / 4096 ≡ id
  pub number_is : full_number (task_area id number index value).pke (task_area id number index value).ind ≡ number
  pub names : named (task_area id number index value).pke ≡ true
  pub index_is : (task_area id number index value).ind % 256 ≡ index
  pub value_is : (task_area id number index value).value ≡ value
  -- the process words: the first PZD are those that were sent
  pub process_is : (old : Words) → process_in k.setup (net_in k.received) old k.received ≡ first_words k.setup.pzd process old
  pub first : 0 < k.setup.pzd → first_word k.setup (net_in k.received) k.received ≡ process.w1
  -- so no refusal comes: it performs the task that was asked, takes the process words and replies
  pub served : execute_of k ≡ normal_outcome (net_in k.received) k
  pub performed : task_at (net_in k.received) k
      ≡ cond (eqb (count_in k) 0) (record { area = empty_area; memory = k.memory }) (perform_of (count_in k) k.table k.memory (task_area id number index value))
  pub controlled : control_taken k.setup (net_in k.received) k.control k.received
      ≡ cond (not (eqb k.setup.pzd 0) && eqb (bit 10 process.w1) 1) (first_words k.setup.pzd process k.control) k.control

pub record MirrorRead (k : Call) (net : List ℕ) : Type 0 where
  pub decoded : decoded_of k.received ≡ Ok (MirrorTelegram k.setup.node)
  pub net_is : drop 3 (take (last_of k.received) k.received) ≡ net
  pub served : execute_of k ≡ mirror_outcome k

pub record BroadcastRead (k : Call) (selector mask1 mask2 : ℕ) (process : Words) : Type 0 where
  pub decoded : decoded_of k.received ≡ Ok BroadcastTelegram
  pub own_length : other_length k.setup (net_in k.received) ≡ false
  pub command : command_in k.setup (net_in k.received) k.received ≡ command_of selector mask1 mask2
  pub process_is : (old : Words) → process_in k.setup (net_in k.received) old k.received ≡ first_words k.setup.pzd process old
  pub first : first_word k.setup (net_in k.received) k.received ≡ process.w1
  pub not_void : void_in k.setup (net_in k.received) k.received ≡ false
  -- it takes the masked bits of the words that were sent, and replies nothing
  pub served : execute_of k
      ≡ record {
        served = record { answer = Ok Taken; length = 0; control = control_after (command_of selector mask1 mask2) k.control (first_words k.setup.pzd process k.control) };
        memory = k.memory;
        reply = k.buffer;
      }

abbrev pub ReadAs : Call → Request → List ℕ → Type 0
ReadAs k (Task id number index value process) net = TaskRead k id number index value process
ReadAs k Mirror net = MirrorRead k net
ReadAs k (Broadcast selector mask1 mask2 process) net = BroadcastRead k selector mask1 mask2 process

-- a value of 32 bits, masks and process words of 16
abbrev pub Typed : Request → Type 0
Typed (Task id number index value process) = (value < 4294967296) × Worded process
Typed Mirror = Unit {0}
Typed (Broadcast selector mask1 mask2 process) = (mask1 < 65536) × (mask2 < 65536) × Worded process
