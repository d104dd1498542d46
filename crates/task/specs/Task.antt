-- The tasks 0 to 15 (document 01, the table of Parameter area). Tasks 11 to 14 also ask for saving; here they act as 8, 7, 3, 2.
-- The index names an element in every read and change: tasks 1, 2, 3, 13 and 14 use it as 6, 7 and 8 do, while the reply IDs stay
-- (document 02, W-203). Task 9 does not look at it.
--     task_row act width array reply    a row: act, width, whether the index names an element, reply ID
--     refused_row                       the row of the task IDs that error 106 answers
--     tasks                             the rows of the task IDs 0 to 15
--     task_of id                        what a task ID asks
--     read_reply reply double           the reply ID of a read, where `reply` is that of a word: 1 word, 2 double; 4 word, 5 double
--     is_double_id id                   whether a reply ID carries a double
--     carried width v                   the value that a task carries, where v is that of its area
use Rattle.std.specs.Prelude.{ℕ, ◌+◌, ◌%◌, List, [], ◌∷◌, Bool, true, false, ◌||◌, cond, eqb, get_or}
use Rattle.task.specs.declared.Act.{Act}
use Rattle.task.specs.declared.Act.TheVariants.{Nothing, Read, Change, Count, Refuse}
use Rattle.task.specs.declared.Width.{Width}
use Rattle.task.specs.declared.Width.TheVariants.{Either, Word, Double}
use Rattle.task.specs.declared.Task.{Task}

abbrev pub task_row : Act → Width → Bool → ℕ → Task
task_row act width array reply = record { act = act; width = width; array = array; reply = reply }

-- error 106; task IDs over 15 do not occur, and are refused like 15 (ours)
abbrev pub refused_row : Task
refused_row = task_row Refuse Either false 7

unfoldable pub tasks : List Task
tasks =
    -- 0 none
    task_row Nothing Either false 0
    -- 1 read
    ∷ task_row Read Either true 1
    -- 2 change word, 3 change double
    ∷ task_row Change Word true 1
    ∷ task_row Change Double true 2
    -- 4, 5
    ∷ refused_row
    ∷ refused_row
    -- 6 read element
    ∷ task_row Read Either true 4
    -- 7 change element, word; 8 change element, double
    ∷ task_row Change Word true 4
    ∷ task_row Change Double true 5
    -- 9 number of elements
    ∷ task_row Count Either false 6
    -- 10
    ∷ refused_row
    -- 11 as 8, 12 as 7, 13 as 3, 14 as 2
    ∷ task_row Change Double true 5
    ∷ task_row Change Word true 4
    ∷ task_row Change Double true 2
    ∷ task_row Change Word true 1
    -- 15
    ∷ refused_row
    ∷ []

unfoldable pub task_of : ℕ → Task
task_of id = get_or tasks id refused_row

-- a read of a double replies with the next ID
abbrev pub read_reply : ℕ → Bool → ℕ
read_reply reply double = reply + cond double 1 0

-- the IDs of reads 1 and 6 of a double
abbrev pub is_double_id : ℕ → Bool
is_double_id id = eqb id (read_reply 1 true) || eqb id (read_reply 4 true)

-- a word task carries a word: PWE1 of a four-word area is ignored
abbrev pub carried : Width → ℕ → ℕ
carried Either v = v
carried Word v = v % 65536
carried Double v = v
