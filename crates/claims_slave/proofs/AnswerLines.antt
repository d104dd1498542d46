-- Document 01's table of answer numbers at known telegrams. Assumes nothing.
use Prim.Native.Nat.{ℕ}
use mathlib.Core.Path.{◌≡◌, refl}
use mathlib.Core.List.{List, [], ◌∷◌, map}
use lib.ListN.{replicate}
use Rattle.std.specs.Prelude.{None}
use Rattle.rows.specs.Rows.{first_of}
use Rattle.setup.specs.declared.Setup.{Setup}
use Rattle.setup.specs.SetupRules.{setup_ok}
use Rattle.table.specs.Records.{entries_from, entries, counts_of}
use Rattle.bcc.specs.Bcc.{xor_all}
use Rattle.opening.specs.Rules.{rising_from, each_ok, runs_ok}
use Rattle.broadcast.specs.Broadcast.{is_void}
use Rattle.slave.specs.Slave.{Call}
use Rattle.claims_known.specs.Telegrams.{two_words}
use Rattle.claims_slave.specs.AnswerTable.{answer_rows, accepted_number}

-- node 3, no parameter area, one process word
abbrev pub small : Setup
small = record { node = 3; pkw = 0; pzd = 1 }

-- no parameter, a buffer of 256 bytes, these bytes received
abbrev pub small_call : List ℕ → Call
small_call rx = record { setup = small; table = []; memory = record { values = [] }; list = None; control = two_words 0 0; status = two_words 0 0; received = rx; buffer = replicate 256 0 }

abbrev pub lines : List (List ℕ × ℕ)
lines =
    (0x02 ∷ 0x02 ∷ 0x03 ∷ 0x03 ∷ [], 10)
    ∷ (0x03 ∷ 0x02 ∷ 0x03 ∷ 0x15 ∷ 0x17 ∷ [], 11)
    ∷ (0x02 ∷ 0x02 ∷ 0x03 ∷ 0x15 ∷ 0x17 ∷ [], 12)
    ∷ (0x02 ∷ 0x04 ∷ 0x03 ∷ 0x15 ∷ 0x17 ∷ [], 13)
    ∷ (0x02 ∷ 0x03 ∷ 0x83 ∷ 0x15 ∷ 0x17 ∷ [], 14)
    -- bit 7; bits 5 and 6 together
    ∷ (0x02 ∷ 0x03 ∷ 0x80 ∷ 0x15 ∷ 0x94 ∷ [], 15)
    ∷ (0x02 ∷ 0x03 ∷ 0x60 ∷ 0x15 ∷ 0x74 ∷ [], 15)
    -- other node and other length; a mirror to another node
    ∷ (0x02 ∷ 0x03 ∷ 0x04 ∷ 0x15 ∷ 0x10 ∷ [], 16)
    ∷ (0x02 ∷ 0x03 ∷ 0x44 ∷ 0x15 ∷ 0x50 ∷ [], 16)
    -- other length; a broadcast of another length
    ∷ (0x02 ∷ 0x03 ∷ 0x03 ∷ 0x15 ∷ 0x17 ∷ [], 17)
    ∷ (0x02 ∷ 0x03 ∷ 0x20 ∷ 0x15 ∷ 0x34 ∷ [], 17)
    -- a broadcast without a parameter area
    ∷ (0x02 ∷ 0x04 ∷ 0x20 ∷ 0x00 ∷ 0x00 ∷ 0x26 ∷ [], 18)
    -- a task; a mirror of another length
    ∷ (0x02 ∷ 0x04 ∷ 0x03 ∷ 0x04 ∷ 0x7F ∷ 0x7E ∷ [], 0)
    ∷ (0x02 ∷ 0x03 ∷ 0x43 ∷ 0x15 ∷ 0x57 ∷ [], 1)
    ∷ []

pub lines_known : map (λ (x : List ℕ × ℕ). first_of (answer_rows (small_call x.0)) (accepted_number x.0)) lines
    ≡ map (λ (x : List ℕ × ℕ). x.1) lines
unfolding setup_ok entries_from entries counts_of rising_from each_ok runs_ok xor_all is_void
lines_known = refl
