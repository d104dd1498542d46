-- Reading a reply, given set-up and request (document 01, Reply reading): 30, 31 (also for a mirror or broadcast request), then
-- 10-17 (15 also for bits 5 or 6), then 33; otherwise 0 with reply ID, value or error number, and process words.
--     read_normal s q rx node n    a normal telegram rx from a node, with n net bytes, as the reply to what q asks
--     read_task s q rx             any telegram as the reply to what q asks
--     read_of s r rx               the reading
--     read_process r               the process words of a reading, all 0 in a refusal
use Rattle.std.specs.Prelude.{ℕ, ◌-◌, cond, List, [], ◌∷◌, eqb, Result, Ok, Err}
use Rattle.rows.specs.Rows.{first_of}
use Rattle.words.specs.declared.Words.{Words}
use Rattle.setup.specs.declared.Setup.{Setup}
use Rattle.setup.specs.SetupRules.{setup_ok, area_count, other_node, other_length}
use Rattle.address.specs.Address.{decoded_of}
use Rattle.address.specs.declared.Fault.{Fault}
use Rattle.address.specs.declared.Fault.TheVariants.{InAddress}
use Rattle.address.specs.declared.Telegram.{Telegram}
use Rattle.address.specs.declared.Telegram.TheVariants.{Normal, Mirror as MirrorTelegram, Broadcast as BroadcastTelegram}
use Rattle.area.specs.declared.Area.{Area}
use Rattle.area.specs.Read.{area_at, process_at}
use Rattle.content.specs.declared.Question.{Question}
use Rattle.content.specs.Content.{bad_reply, reply_content}
use Rattle.request.specs.declared.Request.{Request}
use Rattle.request.specs.declared.Request.TheVariants.{Task, Mirror, Broadcast}
use Rattle.request.specs.Request.{task_askable}
use Rattle.read_answers.specs.declared.Content.TheVariants.{Empty}
use Rattle.read_answers.specs.declared.ReadFault.{ReadFault}
use Rattle.read_answers.specs.declared.ReadFault.TheVariants.{UnfitSetup, NotAsked, InTelegram, OtherNode, OtherLength, NotTheReply}
use Rattle.read_answers.specs.declared.Reading.{Reading}

abbrev pub zero_words : Words
zero_words = record { w1 = 0; w2 = 0; w3 = 0; w4 = 0 }

abbrev pub read_process : Result Reading ReadFault → Words
read_process (Ok reading) = reading.process
read_process (Err fault) = zero_words

-- the area and the process words of a telegram with n net bytes
abbrev pub area_in : Setup → List ℕ → ℕ → Area
area_in s rx n = area_at rx (area_count s n)

abbrev pub process_in : Setup → List ℕ → ℕ → Words
process_in s rx n = process_at rx (area_count s n) s.pzd zero_words

-- with PKW 0 there is no area and nothing to compare
unfoldable pub read_normal : Setup → Question → List ℕ → ℕ → ℕ → Result Reading ReadFault
read_normal s q rx node n =
    first_of
    ((other_node s node, Err OtherNode)
    ∷ (other_length s n, Err OtherLength)
    ∷ (eqb (area_count s n) 0, Ok (record { content = Empty; process = process_in s rx n }))
    ∷ (bad_reply (area_count s n) q (area_in s rx n), Err NotTheReply)
    ∷ [])
    (Ok (record { content = reply_content q.id (area_in s rx n); process = process_in s rx n }))

-- 15 also for bits 5 or 6
abbrev pub read_decoded : Result Telegram Fault → Setup → Question → List ℕ → Result Reading ReadFault
read_decoded (Ok (Normal node start end)) s q rx = read_normal s q rx node (end - start)
read_decoded (Ok (MirrorTelegram node)) s q rx = Err (InTelegram InAddress)
read_decoded (Ok BroadcastTelegram) s q rx = Err (InTelegram InAddress)
read_decoded (Err fault) s q rx = Err (InTelegram fault)

unfoldable pub read_task : Setup → Question → List ℕ → Result Reading ReadFault
read_task s q rx = read_decoded (decoded_of rx) s q rx

abbrev pub read_request : Request → Setup → List ℕ → Result Reading ReadFault
read_request (Task id number index value process) s rx =
    cond (task_askable s id number index value process) (read_task s (record { id = id; number = number; index = index }) rx) (Err NotAsked)
read_request Mirror s rx = Err NotAsked
read_request (Broadcast selector mask1 mask2 process) s rx = Err NotAsked

unfoldable pub read_of : Setup → Request → List ℕ → Result Reading ReadFault
read_of s r rx = cond (setup_ok s) (read_request r s rx) (Err UnfitSetup)
