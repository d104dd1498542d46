-- Document 01's answer numbers of a reading, line by line and in its order.
--     asks_task s r           a reply can be read to the request: it is a task that can be asked
--     other_reply s r n rx    33: there is an area, and it is no reply to the task
--     reading_rows s r rx     30, 31, 10 to 17, 33
use Rattle.std.specs.Prelude.{ℕ, ◌%◌, Bool, false, not, ◌&&◌, ◌||◌, List, [], ◌∷◌, ◌++◌, eqb}
use Rattle.setup.specs.declared.Setup.{Setup}
use Rattle.setup.specs.SetupRules.{setup_ok, area_count, other_node, other_length}
use Rattle.frame.specs.Frame.{frame_numbers}
use Rattle.address.specs.Address.{adr_of, bad_address, broadcast_bit, mirror_bit}
use Rattle.request.specs.declared.Request.{Request}
use Rattle.request.specs.declared.Request.TheVariants.{Task, Mirror, Broadcast}
use Rattle.request.specs.Request.{task_askable}
use Rattle.content.specs.Content.{bad_reply}
use Rattle.reply.specs.Reply.{area_in}
use Rattle.slave.specs.Slave.{net_in}

abbrev pub asks_task : Setup → Request → Bool
asks_task s (Task id number index value process) = task_askable s id number index value process
asks_task s Mirror = false
asks_task s (Broadcast selector mask1 mask2 process) = false

abbrev pub other_reply : Setup → Request → ℕ → List ℕ → Bool
other_reply s (Task id number index value process) n rx =
    not (eqb (area_count s n) 0) && bad_reply (area_count s n) (record { id = id; number = number; index = index }) (area_in s rx n)
other_reply s Mirror n rx = false
other_reply s (Broadcast selector mask1 mask2 process) n rx = false

abbrev pub reading_rows : Setup → Request → List ℕ → List (Bool × ℕ)
reading_rows s r rx =
    (not (setup_ok s), 30)
    -- also for a mirror or broadcast request
    ∷ (not (asks_task s r), 31)
    -- the lines 10 to 14 of the frame check
    ∷ frame_numbers rx
    -- 15, also for bits 5 or 6
    ++ (bad_address (adr_of rx) || (broadcast_bit (adr_of rx) || mirror_bit (adr_of rx)), 15)
    -- from another node
    ∷ (other_node s (adr_of rx % 32), 16)
    -- n not 2 × (PKW + PZD)
    ∷ (other_length s (net_in rx), 17)
    -- not the reply to the task
    ∷ (other_reply s r (net_in rx) rx, 33)
    ∷ []
