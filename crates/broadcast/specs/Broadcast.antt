-- Broadcasts (document 01, Slave): word 1 selects process words (bit 1 the first, bit 2 the second), words 2 and 3 are their
-- masks; a selected word takes the masked bits and keeps the rest.
--     is_void c pkw pzd first      whether a broadcast is void (18)
--     merge_of old word mask       the masked bits of the word, and the rest of the old one
--     control_after c control p    the control words after a broadcast with the process words p
use Rattle.std.specs.Prelude.{ℕ, ◌-◌, ◌/◌, ◌%◌, Bool, true, false, not, ◌&&◌, cond, List, [], ◌∷◌, eqb, ltb}
use Rattle.std.specs.Int.Bits.{bit_and, bit_or}
use Rattle.rows.specs.Bits.{bit}
use Rattle.rows.specs.Rows.{first_of}
use Rattle.words.specs.declared.Words.{Words}
use Rattle.broadcast.specs.declared.Command.{Command}

-- selector bit 1: the first process word; bit 2: the second
abbrev pub selects_first : ℕ → Bool
selects_first selector = eqb (bit 1 selector) 1

abbrev pub selects_second : ℕ → Bool
selects_second selector = eqb (bit 2 selector) 1

-- void unless PKW and PZD are not 0, the first word is selected, its mask and the received word both have bit 10, no selector
-- bit names another word (bits 3 to 15, and bit 0, ours: docs/DECISIONS.md) or one not configured, and a fourth PKW word is 0
abbrev pub void_rows : Command → ℕ → ℕ → ℕ → List (Bool × Bool)
void_rows c pkw pzd first =
    (eqb pkw 0, true)
    ∷ (eqb pzd 0, true)
    ∷ (not (selects_first c.selector), true)
    ∷ (not (eqb (bit 10 c.mask1) 1), true)
    ∷ (not (eqb (bit 10 first) 1), true)
    ∷ (not (eqb (c.selector % 2) 0), true)
    ∷ (not (eqb (c.selector / 8) 0), true)
    ∷ (selects_second c.selector && ltb pzd 2, true)
    ∷ (not (eqb c.fourth 0), true)
    ∷ []

unfoldable pub is_void : Command → ℕ → ℕ → ℕ → Bool
is_void c pkw pzd first = first_of (void_rows c pkw pzd first) false

unfoldable pub merge_of : ℕ → ℕ → ℕ → ℕ
merge_of old word mask = bit_or (bit_and old (65535 - mask)) (bit_and word mask)

abbrev pub word_merged : Bool → ℕ → ℕ → ℕ → ℕ
word_merged selected old word mask = cond selected (merge_of old word mask) old

unfoldable pub control_after : Command → Words → Words → Words
control_after c control p = record {
  w1 = word_merged (selects_first c.selector) control.w1 p.w1 c.mask1;
  w2 = word_merged (selects_second c.selector) control.w2 p.w2 c.mask2;
  w3 = control.w3;
  w4 = control.w4;
}
