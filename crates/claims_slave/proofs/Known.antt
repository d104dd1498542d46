-- A known sequence of calls, with the telegrams K2 and K3 of document 01: what is seen, and the state that is left. So the
-- slave neither refuses everything nor gives a fixed answer, it stores values and control words, and it works on each telegram.
-- Assumes nothing.
use Prim.Native.Nat.{ℕ}
use mathlib.Core.Path.{◌≡◌, refl}
use mathlib.Core.List.{List, [], ◌∷◌, map}
use lib.ListN.{replicate}
use Rattle.std.specs.Prelude.{Option, Some, None}
use Rattle.setup.specs.SetupRules.{setup_ok}
use Rattle.entry.specs.Fields.{entry_of, count_of}
use Rattle.signs.specs.Signs.{signed_of}
use Rattle.limits.specs.Limits.{number_of, at_most, fits_in, is_within, entry_ok}
use Rattle.table.specs.Records.{entry_at, entries_from, entries, find_from, counts_of}
use Rattle.bcc.specs.Bcc.{xor_all}
use Rattle.frame.specs.Frame.{frame_of}
use Rattle.address.specs.Address.{address_of}
use Rattle.opening.specs.Rules.{rising_from, each_ok, run_ok, runs_ok, sums_ok}
use Rattle.opening.specs.Answers.{opening_of}
use Rattle.area.specs.Net.{net_of}
use Rattle.area.specs.Read.{value_at, area_at, process_at}
use Rattle.task.specs.Task.{tasks, task_of}
use Rattle.page.specs.Page.{page_of}
use Rattle.verdict.specs.Verdict.{verdict_of, element_of}
use Rattle.broadcast.specs.Broadcast.{is_void, merge_of, control_after}
use Rattle.deed.specs.Deed.{deed_on}
use Rattle.control.specs.Control.{control_taken, command_at}
use Rattle.slave.specs.Perform.{found_of, plan_in, plan_at}
use Rattle.slave.specs.Slave.{reply_of, normal_case, mirror_case, broadcast_case, execute_of, call_of}
use Rattle.claims_known.specs.Telegrams.{setup, two_words, process, status, task1082, value1082}
use Rattle.claims_slave.specs.Sequence.{State, Event, Seen, Run, run_of}
use Rattle.slave_answers.specs.SlaveNumbers.{answer_number}

-- parameter 1082, a writable word of 0 to 10000
abbrev pub table : List ℕ
table = 0x08 ∷ 0x74 ∷ 0x40 ∷ 0x00 ∷ 0x00 ∷ 0x00 ∷ 0x00 ∷ 0x00 ∷ 0x00 ∷ 0x00 ∷ 0x27 ∷ 0x10 ∷ []

-- its value is 5000
abbrev pub start_state : State
start_state = record { memory = record { values = 5000 ∷ [] }; control = two_words 0 0; buffer = replicate 256 0 }

abbrev pub event_of : List ℕ → Event
event_of rx = record { received = rx; status = status }

-- the reply that carries 6000
abbrev pub value6000 : List ℕ
value6000 = 0x02 ∷ 0x0E ∷ 0x03 ∷ 0x14 ∷ 0x3A ∷ 0x00 ∷ 0x00 ∷ 0x00 ∷ 0x00 ∷ 0x17 ∷ 0x70 ∷ 0x03 ∷ 0x31 ∷ 0x20 ∷ 0x00 ∷ 0x54 ∷ []

-- received, answer number and reply
abbrev pub calls : List (List ℕ × ℕ × List ℕ)
calls =
    -- K2: read
    (task1082 0x0E 0x7A, 0, value1082)
    -- K2 with another BCC
    ∷ (task1082 0x0E 0x7B, 14, [])
    -- change to 6000
    ∷ (0x02 ∷ 0x0E ∷ 0x03 ∷ 0x24 ∷ 0x3A ∷ 0x00 ∷ 0x00 ∷ 0x00 ∷ 0x00 ∷ 0x17 ∷ 0x70 ∷ 0x04 ∷ 0x7E ∷ 0x30 ∷ 0x00 ∷ 0x3C ∷ [], 0, value6000)
    -- another node
    ∷ (0x02 ∷ 0x0E ∷ 0x04 ∷ 0x14 ∷ 0x3A ∷ 0x00 ∷ 0x00 ∷ 0x00 ∷ 0x00 ∷ 0x00 ∷ 0x00 ∷ 0x04 ∷ 0x7F ∷ 0x20 ∷ 0x00 ∷ 0x7D ∷ [], 16, [])
    -- K2 again: the new value
    ∷ (task1082 0x0E 0x7A, 0, value6000)
    -- no such parameter; its words 047E 2000 are taken
    ∷ (0x02 ∷ 0x0E ∷ 0x03 ∷ 0x14 ∷ 0x3B ∷ 0x00 ∷ 0x00 ∷ 0x00 ∷ 0x00 ∷ 0x00 ∷ 0x00 ∷ 0x04 ∷ 0x7E ∷ 0x20 ∷ 0x00 ∷ 0x7A ∷ [], 0, 0x02 ∷ 0x0E ∷ 0x03 ∷ 0x74 ∷ 0x3B ∷ 0x00 ∷ 0x00 ∷ 0x00 ∷ 0x00 ∷ 0x00 ∷ 0x00 ∷ 0x03 ∷ 0x31 ∷ 0x20 ∷ 0x00 ∷ 0x52 ∷ [])
    -- a broadcast that sets bits 0 and 10 of the first word
    ∷ (0x02 ∷ 0x0E ∷ 0x20 ∷ 0x00 ∷ 0x06 ∷ 0x04 ∷ 0x01 ∷ 0x00 ∷ 0x00 ∷ 0x00 ∷ 0x00 ∷ 0x04 ∷ 0x01 ∷ 0x20 ∷ 0x00 ∷ 0x0A ∷ [], 2, [])
    -- a mirror
    ∷ (0x02 ∷ 0x03 ∷ 0x43 ∷ 0x55 ∷ 0x17 ∷ [], 1, 0x02 ∷ 0x03 ∷ 0x43 ∷ 0x55 ∷ 0x17 ∷ [])
    ∷ []

abbrev pub heard : Seen → ℕ × List ℕ
heard x = (answer_number x.answer, x.bytes)

abbrev pub awaited : List ℕ × ℕ × List ℕ → ℕ × List ℕ
awaited c = (c.1, c.2)

-- with a list, or without
abbrev pub ran_with : Option (List ℕ) → Run
ran_with l = run_of (record { setup = setup; table = table; list = l }) start_state (map (λ (c : List ℕ × ℕ × List ℕ). event_of c.0) calls)

abbrev pub ran : Run
ran = ran_with None

-- each call is answered so, one after another; the value left is the one that was changed, the control words are those of the
-- last normal telegram with the broadcast's masked bits
pub known_sequence : (map heard ran.seen ≡ map awaited calls) × (ran.last.memory.values ≡ 6000 ∷ []) × (ran.last.control ≡ process)
unfolding run_of call_of opening_of setup_ok rising_from each_ok run_ok runs_ok entry_of count_of signed_of number_of at_most fits_in is_within entry_ok entry_at entries_from entries find_from counts_of execute_of xor_all frame_of address_of normal_case mirror_case broadcast_case command_at control_taken reply_of net_of value_at area_at process_at tasks task_of page_of verdict_of element_of is_void merge_of control_after deed_on found_of plan_in plan_at
known_sequence = (refl, refl, refl)

-- the table's list is 0. With it each call is answered in the same way; with another each is 25, and nothing has changed
pub known_listed_sequence : (ran_with (Some (0 ∷ [])) ≡ ran) × (map (λ (x : Seen). answer_number x.answer) (ran_with (Some (1 ∷ []))).seen ≡ replicate 8 25) × ((ran_with (Some (1 ∷ []))).last ≡ start_state)
unfolding run_of call_of opening_of setup_ok rising_from each_ok run_ok runs_ok sums_ok entry_of count_of signed_of number_of at_most fits_in is_within entry_ok entry_at entries_from entries find_from counts_of execute_of xor_all frame_of address_of normal_case mirror_case broadcast_case command_at control_taken reply_of net_of value_at area_at process_at tasks task_of page_of verdict_of element_of is_void merge_of control_after deed_on found_of plan_in plan_at
known_listed_sequence = (refl, refl, refl)
