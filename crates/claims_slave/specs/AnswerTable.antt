-- Document 01's table of answer numbers, line by line and in its order, over a slave call.
--     answer_rows k         the lines 20, 21, 22, 25, 23 and 10 to 18: test and number
--     accepted_number rx    0, 1, 2 where none of them holds: replied, mirrored, broadcast taken
use Rattle.std.specs.Prelude.{ℕ, ◌%◌, Bool, not, ◌&&◌, cond, List, [], ◌∷◌, ◌++◌}
use Rattle.rows.specs.Rows.{read_rows}
use Rattle.setup.specs.SetupRules.{other_node, other_length}
use Rattle.frame.specs.Frame.{frame_numbers}
use Rattle.address.specs.Address.{adr_of, bad_address, broadcast_bit, mirror_bit}
use Rattle.opening.specs.Answers.{opened_number, opening_rows}
use Rattle.control.specs.Control.{void_in}
use Rattle.slave.specs.Slave.{Call, lent_by, net_in}

abbrev pub answer_rows : Call → List (Bool × ℕ)
answer_rows k =
    -- the lines 20, 21, 22, 25, 23 of the opening check
    read_rows opened_number (opening_rows (lent_by k))
    -- the lines 10 to 14 of the frame check
    ++ frame_numbers k.received
    -- bit 7, or bits 5 and 6 together
    ++ (bad_address (adr_of k.received), 15)
    -- not broadcast, other node
    ∷ (not (broadcast_bit (adr_of k.received)) && other_node k.setup (adr_of k.received % 32), 16)
    -- not mirror, n not 2 × (PKW + PZD)
    ∷ (not (mirror_bit (adr_of k.received)) && other_length k.setup (net_in k.received), 17)
    -- void broadcast
    ∷ (broadcast_bit (adr_of k.received) && void_in k.setup (net_in k.received) k.received, 18)
    ∷ []

abbrev pub accepted_number : List ℕ → ℕ
accepted_number rx = cond (broadcast_bit (adr_of rx)) 2 (cond (mirror_bit (adr_of rx)) 1 0)
