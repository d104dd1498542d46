-- Known items, what is handed out of them, and the state at the end. The telegrams are K2 of docs/PROTOCOL.md, 16 bytes, and control
-- word 047F with set point 7E00 to node 3, a drive without parameter area and with two process words.
--     examples       items, telegrams, state; from the start, with a page of 256 bytes
--     lge_hit        that telegram with one bit of its LGE flipped on the wire: 04 for 06
--     lge_hit_out    what is handed out of it, a sound telegram of another byte count
use Rattle.std.specs.Prelude.{ℕ, List, [], ◌∷◌, ◌++◌, take}

abbrev pub pause : ℕ
pause = 256

abbrev pub k2 : List ℕ
k2 = 0x02 ∷ 0x0E ∷ 0x03 ∷ 0x14 ∷ 0x3A ∷ 0 ∷ 0 ∷ 0 ∷ 0 ∷ 0 ∷ 0 ∷ 0x04 ∷ 0x7F ∷ 0x20 ∷ 0x00 ∷ 0x7A ∷ []

-- 16 bytes whose LGE reads 254
abbrev pub lying : List ℕ
lying = 0x02 ∷ 0xFE ∷ 0x03 ∷ 0x14 ∷ 0x3A ∷ 0 ∷ 0 ∷ 0 ∷ 0 ∷ 0 ∷ 0 ∷ 0x04 ∷ 0x7F ∷ 0x20 ∷ 0x00 ∷ 0x7A ∷ []

pub record Example : Type 0 where
  pub items : List ℕ
  pub telegrams : List (List ℕ)
  pub state : ℕ

abbrev pub examples : List Example
examples =
    -- it starts disarmed: a telegram without a pause before it
    record { items = k2; telegrams = []; state = 0 }
    ∷ record { items = pause ∷ k2; telegrams = k2 ∷ []; state = 0 }
    -- not before its last byte
    ∷ record { items = pause ∷ take 15 k2; telegrams = []; state = 16 }
    -- the lying length byte waits for 256 bytes; the next pause drops it, and the next good telegram is handed out
    ∷ record { items = pause ∷ lying; telegrams = []; state = 17 }
    ∷ record { items = (pause ∷ lying) ++ pause ∷ k2; telegrams = k2 ∷ []; state = 0 }
    -- 02 02: the second is an LGE of 2, and no other 02 is looked for
    ∷ record { items = pause ∷ 0x02 ∷ k2; telegrams = []; state = 0 }
    -- LGE 255, LGE 2
    ∷ record { items = pause ∷ 0x02 ∷ 0xFF ∷ []; telegrams = []; state = 0 }
    ∷ record { items = pause ∷ 0x02 ∷ 0x02 ∷ []; telegrams = []; state = 0 }
    -- any other first byte
    ∷ record { items = pause ∷ 0x00 ∷ k2; telegrams = []; state = 0 }
    -- back to back: the second is lost; with a pause between, it is not
    ∷ record { items = (pause ∷ k2) ++ k2; telegrams = k2 ∷ []; state = 0 }
    ∷ record { items = (pause ∷ k2) ++ pause ∷ k2; telegrams = k2 ∷ k2 ∷ []; state = 0 }
    -- a pause inside, and pause after pause
    ∷ record { items = (pause ∷ take 4 k2) ++ pause ∷ k2; telegrams = k2 ∷ []; state = 0 }
    ∷ record { items = pause ∷ pause ∷ 65535 ∷ []; telegrams = []; state = 1 }
    ∷ []

abbrev pub lge_hit : List ℕ
lge_hit = pause ∷ 0x02 ∷ 0x04 ∷ 0x03 ∷ 0x04 ∷ 0x7F ∷ 0x7E ∷ 0x00 ∷ 0x02 ∷ []

abbrev pub lge_hit_out : List ℕ
lge_hit_out = 0x02 ∷ 0x04 ∷ 0x03 ∷ 0x04 ∷ 0x7F ∷ 0x7E ∷ []
