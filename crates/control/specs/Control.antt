-- The control words after a telegram with n net bytes (document 01, Slave).
--     first_word s n rx                   the first process word
--     process_in s n control rx           the control words with the first PZD replaced by the process words
--     control_taken s n control rx        after a normal telegram
--     command_at rx count                 the parameter area of a broadcast, `count` words
--     void_in s n rx                      the broadcast is void
--     control_commanded s n control rx    after a broadcast that is not void
--     commanded_of s n control rx         what a broadcast comes to
use Rattle.std.specs.Prelude.{ℕ, ◌+◌, ◌*◌, Bool, not, ◌&&◌, cond, List, eqb, Option, Some, None}
use Rattle.rows.specs.Bits.{bit}
use Rattle.words.specs.Words.{word_at}
use Rattle.words.specs.declared.Words.{Words}
use Rattle.setup.specs.declared.Setup.{Setup}
use Rattle.setup.specs.SetupRules.{area_count}
use Rattle.area.specs.Read.{process_at}
use Rattle.broadcast.specs.declared.Command.{Command}
use Rattle.broadcast.specs.Broadcast.{is_void, control_after}

abbrev pub first_word : Setup → ℕ → List ℕ → ℕ
first_word s n rx = word_at rx (area_count s n * 2 + 3)

abbrev pub process_in : Setup → ℕ → Words → List ℕ → Words
process_in s n control rx = process_at rx (area_count s n) s.pzd control

-- ---- normal: if PZD is not 0 and bit 10 of the first process word is 1, the first PZD control words are replaced; else all are held

unfoldable pub control_taken : Setup → ℕ → Words → List ℕ → Words
control_taken s n control rx = cond (not (eqb s.pzd 0) && eqb (bit 10 (first_word s n rx)) 1) (process_in s n control rx) control

-- ---- broadcast

-- selector, two masks, and a fourth word where there is one; in three words there is none, and the condition on it holds (ours)
unfoldable pub command_at : List ℕ → ℕ → Command
command_at rx count = record { selector = word_at rx 3; mask1 = word_at rx 5; mask2 = word_at rx 7; fourth = cond (eqb count 4) (word_at rx 9) 0 }

abbrev pub command_in : Setup → ℕ → List ℕ → Command
command_in s n rx = command_at rx (area_count s n)

abbrev pub void_in : Setup → ℕ → List ℕ → Bool
void_in s n rx = is_void (command_in s n rx) s.pkw s.pzd (first_word s n rx)

abbrev pub control_commanded : Setup → ℕ → Words → List ℕ → Words
control_commanded s n control rx = control_after (command_in s n rx) control (process_in s n control rx)

unfoldable pub commanded_of : Setup → ℕ → Words → List ℕ → Option Words
commanded_of s n control rx = cond (void_in s n rx) None (Some (control_commanded s n control rx))
