-- The examples of docs/DAMAGE.md: a telegram, flips of it, and whether what is received passes the frame check.
--     sent                                         control word 047F to node 3, which has no parameter area and one process word
--     twice, wrong_byte, eight_bits, first_byte    flips of it
--     examples                                     flips of it, and whether what is received passes
--     passing xs                                   the flips that pass
--     unseen_read                                  the examples that pass, as they are received, and what they are read as
use Rattle.std.specs.Prelude.{ℕ, Bool, true, false, cond, List, [], ◌∷◌, Result, Ok}
use Rattle.address.specs.declared.Telegram.{Telegram}
use Rattle.address.specs.declared.Fault.{Fault}
use Rattle.address.specs.declared.Telegram.TheVariants.{Normal}

abbrev pub sent : List ℕ
sent = 0x02 ∷ 0x04 ∷ 0x03 ∷ 0x04 ∷ 0x7F ∷ 0x7E ∷ []

-- two bits in one position: of a net byte and of BCC
abbrev pub twice : List ℕ
twice = 0x00 ∷ 0x00 ∷ 0x00 ∷ 0x00 ∷ 0x01 ∷ 0x01 ∷ []

-- one byte
abbrev pub wrong_byte : List ℕ
wrong_byte = 0x00 ∷ 0x00 ∷ 0x00 ∷ 0xFF ∷ 0x00 ∷ 0x00 ∷ []

-- a burst of eight, lowest bit first: the last four data bits of a byte and the first four of the next
abbrev pub eight_bits : List ℕ
eight_bits = 0x00 ∷ 0x00 ∷ 0x00 ∷ 0xF0 ∷ 0x0F ∷ 0x00 ∷ []

-- the first byte, with a flip that mends the check byte
abbrev pub first_byte : List ℕ
first_byte = 0x01 ∷ 0x00 ∷ 0x00 ∷ 0x00 ∷ 0x00 ∷ 0x01 ∷ []

abbrev pub examples : List (List ℕ × Bool)
examples =
    -- one bit
    (0x00 ∷ 0x00 ∷ 0x00 ∷ 0x01 ∷ 0x00 ∷ 0x00 ∷ [], false)
    ∷ (twice, true)
    -- two bits in one position, one of them in LGE
    ∷ (0x00 ∷ 0x01 ∷ 0x00 ∷ 0x01 ∷ 0x00 ∷ 0x00 ∷ [], false)
    -- two bits in different positions
    ∷ (0x00 ∷ 0x00 ∷ 0x00 ∷ 0x01 ∷ 0x02 ∷ 0x00 ∷ [], false)
    ∷ (wrong_byte, false)
    -- two bytes wrong in the same bits
    ∷ (0x00 ∷ 0x00 ∷ 0x00 ∷ 0x03 ∷ 0x03 ∷ 0x00 ∷ [], true)
    ∷ (eight_bits, false)
    -- a burst of nine: its first and its ninth bit, which are one position of two bytes
    ∷ (0x00 ∷ 0x00 ∷ 0x00 ∷ 0x00 ∷ 0x10 ∷ 0x10 ∷ [], true)
    -- LGE alone, and LGE with a flip that mends the check byte
    ∷ (0x00 ∷ 0x01 ∷ 0x00 ∷ 0x00 ∷ 0x00 ∷ 0x00 ∷ [], false)
    ∷ (0x00 ∷ 0x01 ∷ 0x00 ∷ 0x00 ∷ 0x00 ∷ 0x01 ∷ [], false)
    ∷ (first_byte, false)
    -- two different net bytes swapped: 04 7F received as 7F 04
    ∷ (0x00 ∷ 0x00 ∷ 0x00 ∷ 0x7B ∷ 0x7B ∷ 0x00 ∷ [], true)
    -- the address and a net byte swapped: 03 04 received as 04 03
    ∷ (0x00 ∷ 0x00 ∷ 0x07 ∷ 0x07 ∷ 0x00 ∷ 0x00 ∷ [], true)
    ∷ []

abbrev pub passing : List (List ℕ × Bool) → List (List ℕ × Bool)
passing [] = []
passing (x ∷ xs) = cond x.1 (x ∷ passing xs) (passing xs)

-- each is a normal telegram of two net bytes, to node 3 as it was sent, or to node 4 where the address was swapped
abbrev pub unseen_read : List (List ℕ × Result Telegram Fault)
unseen_read =
    (0x02 ∷ 0x04 ∷ 0x03 ∷ 0x04 ∷ 0x7E ∷ 0x7F ∷ [], Ok (Normal 3 3 5))
    ∷ (0x02 ∷ 0x04 ∷ 0x03 ∷ 0x07 ∷ 0x7C ∷ 0x7E ∷ [], Ok (Normal 3 3 5))
    ∷ (0x02 ∷ 0x04 ∷ 0x03 ∷ 0x04 ∷ 0x6F ∷ 0x6E ∷ [], Ok (Normal 3 3 5))
    ∷ (0x02 ∷ 0x04 ∷ 0x03 ∷ 0x7F ∷ 0x04 ∷ 0x7E ∷ [], Ok (Normal 3 3 5))
    ∷ (0x02 ∷ 0x04 ∷ 0x04 ∷ 0x03 ∷ 0x7F ∷ 0x7E ∷ [], Ok (Normal 4 3 5))
    ∷ []
