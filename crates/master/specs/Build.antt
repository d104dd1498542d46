-- The telegrams that a master builds (document 01, Answer numbers 30 to 32): the ignored bits of PKE and IND and an ignored PWE1
-- are written 0, the index always as given; a mirror carries the node with bit 6; a broadcast is written as given with node 0.
--     task_area id number ..     the area of a task
--     command_area k ..          the area of a broadcast, in k words
--     task_count s id            how many words the area of a task telegram has
--     command_count s            how many words the area of a broadcast has
--     net_for s k area ..        the net bytes of an area in k words and process words
--     telegram_for s r net       the telegram of a request
--     length_in r                the length that a result reports
--     fit                        nothing is refused
--     admit_rows s askable ..    the lines 30, 31, 32; askable says whether the request can be asked
--     admitted s askable room    the first of them that applies, or none
--     built_of s r net out       the telegram's length or the refusal, and the buffer afterwards
use Rattle.std.specs.Prelude.{◌≡◌, ℕ, ◌+◌, ◌*◌, ◌%◌, Bool, not, cond, List, [], ◌∷◌, eqb, ltb, length, Result, Ok, Err}
use Rattle.rows.specs.Rows.{first_of}
use Rattle.words.specs.declared.Words.{Words}
use Rattle.setup.specs.declared.Setup.{Setup}
use Rattle.setup.specs.SetupRules.{setup_ok}
use Rattle.area.specs.declared.Area.{Area}
use Rattle.area.specs.Net.{fixed_words, process_words, net_of}
use Rattle.net.specs.Telegram.{telegram_of, written}
use Rattle.page.specs.Page.{nibble_of}
use Rattle.request.specs.declared.Request.{Request}
use Rattle.request.specs.declared.Request.TheVariants.{Task, Mirror, Broadcast}
use Rattle.request.specs.Request.{expressible}
use Rattle.build_answers.specs.declared.BuildFault.{BuildFault}
use Rattle.build_answers.specs.declared.BuildFault.TheVariants.{BadSetup, NotExpressible, ShortBuffer}

-- PKE is task ID and base, IND is page and index
unfoldable pub task_area : ℕ → ℕ → ℕ → ℕ → Area
task_area id number index value = record { pke = id * 4096 + number % 2000; ind = nibble_of number * 4096 + index; value = value }

-- selector, two masks, and a fourth word 0 where there is one
unfoldable pub command_area : ℕ → ℕ → ℕ → ℕ → Area
command_area k selector mask1 mask2 = record { pke = selector; ind = mask1; value = cond (eqb k 4) (mask2 * 65536) mask2 }

-- the words of the area of a task with that ID: the PKW setting, whatever the ID
abbrev pub task_count : Setup → ℕ → ℕ
task_count s id = s.pkw

-- the words of the area of a broadcast: the PKW setting
abbrev pub command_count : Setup → ℕ
command_count s = s.pkw

-- an area in k words; the setting PZD decides how many process words are written
abbrev pub net_for : Setup → ℕ → Area → Words → List ℕ
net_for s k area process = net_of (fixed_words k area) (process_words s.pzd process)

unfoldable pub telegram_for : Setup → Request → List ℕ → List ℕ
telegram_for s (Task id number index value process) net = telegram_of s.node (net_for s (task_count s id) (task_area id number index value) process)
telegram_for s Mirror net = telegram_of (s.node + 64) net
telegram_for s (Broadcast selector mask1 mask2 process) net = telegram_of 32 (net_for s (command_count s) (command_area (command_count s) selector mask1 mask2) process)

-- the length that a build's result reports: 0 in a refusal
abbrev pub length_in : Result ℕ BuildFault → ℕ
length_in (Ok length) = length
length_in (Err fault) = 0

pub record BuildOutcome : Type 0 where
  pub built : Result ℕ BuildFault
  pub out : List ℕ

-- what a build that returns r leaves in the buffer
pub record Builds (o : BuildOutcome) (r : Result ℕ BuildFault) (bytes : List ℕ) : Type 0 where
  pub answers : r ≡ o.built
  pub bytes_are : bytes ≡ o.out

-- a refusal writes nothing
abbrev pub unbuilt : BuildFault → List ℕ → BuildOutcome
unbuilt fault out = record { built = Err fault; out = out }

-- only the telegram is written
abbrev pub sent : List ℕ → List ℕ → BuildOutcome
sent telegram out = record { built = Ok (length telegram); out = written out telegram }

-- a writer that returns n leaves the telegram so
pub record Sends (telegram out : List ℕ) (n : ℕ) (bytes : List ℕ) : Type 0 where
  pub long : n ≡ length telegram
  pub there : bytes ≡ written out telegram

-- nothing is refused
abbrev pub fit : Result (Unit {0}) BuildFault
fit = Ok tt

abbrev pub outcome_of : Result (Unit {0}) BuildFault → List ℕ → List ℕ → BuildOutcome
outcome_of (Ok done) telegram out = sent telegram out
outcome_of (Err fault) telegram out = unbuilt fault out

-- set-up as 20; request not expressible; buffer under 256
abbrev pub admit_rows : Setup → Bool → ℕ → List (Bool × Result (Unit {0}) BuildFault)
admit_rows s askable room =
    (not (setup_ok s), Err BadSetup) ∷ (not askable, Err NotExpressible) ∷ (ltb room 256, Err ShortBuffer) ∷ []

unfoldable pub admitted : Setup → Bool → ℕ → Result (Unit {0}) BuildFault
admitted s askable room = first_of (admit_rows s askable room) fit

unfoldable pub built_of : Setup → Request → List ℕ → List ℕ → BuildOutcome
built_of s r net out = outcome_of (admitted s (expressible s r net) (length out)) (telegram_for s r net) out
