-- The address byte and the decoded telegram (document 01, Frame and answer number 15): bits 0 to 4 node, bit 5 broadcast,
-- bit 6 mirror, bit 7 must be 0; bits 5 and 6 together are refused (ours).
--     bad_address adr    line 15: bit 7, or bits 5 and 6 together
--     address_of adr     what the address byte says, or 15
--     adr_of t           the address byte of a telegram
--     decoded_of t       the bytes t as a telegram of one of the three kinds, or the first of 10 to 15 that applies
--     fault_number f     the document's number of a fault
use Rattle.std.specs.Prelude.{ℕ, ◌%◌, Bool, ◌&&◌, ◌||◌, List, [], ◌∷◌, leb, eqb, Result, Ok, Err}
use Rattle.rows.specs.Rows.{first_of}
use Rattle.rows.specs.Bits.{bit}
use Rattle.words.specs.Words.{byte_at}
use Rattle.frame.specs.Frame.{frame_of, frame_number}
use Rattle.frame.specs.declared.FrameFault.{FrameFault}
use Rattle.address.specs.declared.Address.{Address}
use Rattle.address.specs.declared.Address.TheVariants.{ToOne, ToMirror, ToAll}
use Rattle.address.specs.declared.Fault.{Fault}
use Rattle.address.specs.declared.Fault.TheVariants.{InFrame, InAddress}
use Rattle.address.specs.declared.Telegram.{Telegram}
use Rattle.address.specs.declared.Telegram.TheVariants.{Normal, Mirror, Broadcast}

abbrev pub broadcast_bit : ℕ → Bool
broadcast_bit adr = eqb (bit 5 adr) 1

abbrev pub mirror_bit : ℕ → Bool
mirror_bit adr = eqb (bit 6 adr) 1

-- bit 7 of a byte: it is 128 or more
abbrev pub top_bit : ℕ → Bool
top_bit adr = leb 128 adr

abbrev pub bad_address : ℕ → Bool
bad_address adr = top_bit adr || broadcast_bit adr && mirror_bit adr

abbrev pub address_rows : ℕ → List (Bool × Result Address Fault)
address_rows adr =
    (bad_address adr, Err InAddress)
    ∷ (broadcast_bit adr, Ok ToAll)
    ∷ (mirror_bit adr, Ok (ToMirror (adr % 32)))
    ∷ []

unfoldable pub address_of : ℕ → Result Address Fault
address_of adr = first_of (address_rows adr) (Ok (ToOne (adr % 32)))

-- the kinds: the net bytes of a sound telegram start at place 3 and end before BCC
abbrev pub kind_of : Address → ℕ → Telegram
kind_of (ToOne node) end = Normal node 3 end
kind_of (ToMirror node) end = Mirror node
kind_of ToAll end = Broadcast

abbrev pub addressed : Result Address Fault → ℕ → Result Telegram Fault
addressed (Ok address) end = Ok (kind_of address end)
addressed (Err fault) end = Err fault

abbrev pub decoded_from : Result ℕ FrameFault → ℕ → Result Telegram Fault
decoded_from (Ok end) adr = addressed (address_of adr) end
decoded_from (Err fault) adr = Err (InFrame fault)

abbrev pub adr_of : List ℕ → ℕ
adr_of t = byte_at t 2

abbrev pub decoded_of : List ℕ → Result Telegram Fault
decoded_of t = decoded_from (frame_of t) (adr_of t)

abbrev pub fault_number : Fault → ℕ
fault_number (InFrame fault) = frame_number fault
fault_number InAddress = 15
