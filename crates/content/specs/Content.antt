-- Whether a parameter area is the reply to a task, and what it holds (document 01, Reply reading).
--     in_row act reply id    the reply IDs of a task's row
--     known_id id replyId    the reply IDs that may follow a task
--     all_zero a             an area whose words are all 0
--     bad_rows n q a         33: each of its conditions, for an area a of n words as the reply to what q asks
--     bad_reply n q a        one of them holds
--     reply_content id a     what a reply to the task holds
use Rattle.std.specs.Prelude.{ℕ, ◌/◌, ◌%◌, Bool, true, false, not, ◌&&◌, ◌||◌, List, [], ◌∷◌, eqb, ltb}
use Rattle.rows.specs.Bits.{bit}
use Rattle.rows.specs.Rows.{first_of}
use Rattle.area.specs.declared.Area.{Area}
use Rattle.page.specs.Page.{base_of, nibble_of}
use Rattle.task.specs.declared.Act.{Act}
use Rattle.task.specs.declared.Act.TheVariants.{Nothing, Read, Change, Count, Refuse}
use Rattle.task.specs.Task.{task_of, read_reply, is_double_id}
use Rattle.read_answers.specs.declared.Content.{Content}
use Rattle.read_answers.specs.declared.Content.TheVariants.{Empty, Value, Failed, NoRight}
use Rattle.content.specs.declared.Question.{Question}

-- ---- 33

abbrev pub in_row : Act → ℕ → ℕ → Bool
in_row Nothing reply id = eqb id reply
in_row Read reply id = eqb id (read_reply reply false) || eqb id (read_reply reply true)
in_row Change reply id = eqb id reply
in_row Count reply id = eqb id reply
in_row Refuse reply id = eqb id reply

-- ID in the task's row, or 7 or 8
unfoldable pub known_id : ℕ → ℕ → Bool
known_id id replyId = in_row (task_of id).act (task_of id).reply replyId || (eqb replyId 7 || eqb replyId 8)

unfoldable pub all_zero : Area → Bool
all_zero a = eqb a.pke 0 && eqb a.ind 0 && eqb a.value 0

unfoldable pub bad_rows : ℕ → Question → Area → List (Bool × Bool)
bad_rows n q a =
    -- ID not in the task's row nor 7 or 8
    (not (known_id q.id (a.pke / 4096)), true)
    -- (task 0: only 0 and an all-zero area)
    ∷ (eqb q.id 0 && not (all_zero a), true)
    -- a double ID in three words
    ∷ (is_double_id (a.pke / 4096) && eqb n 3, true)
    -- other base, page or index
    ∷ (not (eqb (base_of a.pke) (q.number % 2000)), true)
    ∷ (not (eqb (a.ind / 4096) (nibble_of q.number)), true)
    ∷ (not (eqb (a.ind % 256) q.index), true)
    -- a must-be-zero field set: bit 11 of PKE, bits 11-8 of IND, PWE1 of four words but for a double
    ∷ (not (eqb (bit 11 a.pke) 0), true)
    ∷ (not (eqb (a.ind / 256 % 16) 0), true)
    ∷ (not (is_double_id (a.pke / 4096)) && ltb 65535 a.value, true)
    -- a value after 8
    ∷ (eqb (a.pke / 4096) 8 && not (eqb a.value 0), true)
    ∷ []

unfoldable pub bad_reply : ℕ → Question → Area → Bool
bad_reply n q a = first_of (bad_rows n q a) false

-- ---- what it holds

unfoldable pub reply_content : ℕ → Area → Content
reply_content id a =
    first_of
    ((eqb id 0, Empty) ∷ (eqb (a.pke / 4096) 7, Failed (a.value % 65536)) ∷ (eqb (a.pke / 4096) 8, NoRight) ∷ [])
    (Value (a.pke / 4096) a.value)
