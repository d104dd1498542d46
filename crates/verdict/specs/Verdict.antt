-- The errors of a task on a parameter (document 01, Parameter area; document 02, W-203, for the tasks of 4 and 3), in the document's
-- order; the first that applies counts.
-- Of a task k with its index, and the value v that it carries, in an area of n words, on the record e of a parameter. Error 0 is given
-- where no record is found.
--     refuses_act act                     whether error 106 answers
--     changes_act act, moves_value act    whether it is a change; whether it is a read or a change
--     differs_width width double          whether a word task meets a double parameter or the reverse
--     granted                             no error applies
--     verdict_rows n k e index v          the errors' tests, in the document's order
--     verdict_of n k e index v            granted, or the error
--     element_of k e index                the element that the task means
use Rattle.std.specs.Prelude.{ℕ, Bool, true, false, not, ◌&&◌, cond, List, [], ◌∷◌, eqb, ltb, leb, Result, Ok, Err}
use Rattle.rows.specs.Rows.{first_of}
use Rattle.entry.specs.declared.Entry.{Entry}
use Rattle.limits.specs.Limits.{is_within}
use Rattle.task.specs.declared.Task.{Task}
use Rattle.task.specs.declared.Act.{Act}
use Rattle.task.specs.declared.Act.TheVariants.{Nothing, Read, Change, Count, Refuse}
use Rattle.task.specs.declared.Width.{Width}
use Rattle.task.specs.declared.Width.TheVariants.{Either, Word, Double}
use Rattle.errors.specs.declared.ParameterError.TheVariants.{NotWritable, OutsideLimits, NoElement, NoArray, OtherWidth, NoRoom, NoTask}
use Rattle.errors.specs.declared.ParameterError.{ParameterError}

abbrev pub refuses_act : Act → Bool
refuses_act Nothing = false
refuses_act Read = false
refuses_act Change = false
refuses_act Count = false
refuses_act Refuse = true

abbrev pub changes_act : Act → Bool
changes_act Nothing = false
changes_act Read = false
changes_act Change = true
changes_act Count = false
changes_act Refuse = false

-- a read or a change: every task but 9, 0 and those that 106 answers
abbrev pub moves_value : Act → Bool
moves_value Nothing = false
moves_value Read = true
moves_value Change = true
moves_value Count = false
moves_value Refuse = false

-- a word task on a double parameter or the reverse
abbrev pub differs_width : Width → Bool → Bool
differs_width Either double = false
differs_width Word double = double
differs_width Double double = not double

-- the index names an element; not an array and index over 1
abbrev pub lacks_array : Task → Entry → ℕ → Bool
lacks_array k e index = k.array && (eqb e.elements 0 && ltb 1 index)

-- the index names an element; array and index not below its element count
abbrev pub lacks_element : Task → Entry → ℕ → Bool
lacks_element k e index = k.array && (not (eqb e.elements 0) && leb e.elements index)

-- double parameter in a three-word area, except task 9
abbrev pub lacks_room : ℕ → Task → Entry → Bool
lacks_room n k e = e.double && (eqb n 3 && moves_value k.act)

-- no error applies
abbrev pub granted : Result (Unit {0}) ParameterError
granted = Ok tt

abbrev pub verdict_rows : ℕ → Task → Entry → ℕ → ℕ → List (Bool × Result (Unit {0}) ParameterError)
verdict_rows n k e index v =
    -- 106 per table
    (refuses_act k.act, Err NoTask)
    -- for tasks 1, 2, 3, 6, 7, 8, 11, 12, 13, 14, where the index names an element (W-203): 4 not an array and index over 1
    ∷ (lacks_array k e index, Err NoArray)
    -- 3 array and index not below its element count
    ∷ (lacks_element k e index, Err NoElement)
    -- for changes: 5 word task on a double parameter or the reverse
    ∷ (changes_act k.act && differs_width k.width e.double, Err OtherWidth)
    -- 102 double parameter in a three-word area, except task 9
    ∷ (lacks_room n k e, Err NoRoom)
    -- for changes: 1 not writable
    ∷ (changes_act k.act && not e.writable, Err NotWritable)
    -- 2 outside limits
    ∷ (changes_act k.act && not (is_within e v), Err OutsideLimits)
    ∷ []

unfoldable pub verdict_of : ℕ → Task → Entry → ℕ → ℕ → Result (Unit {0}) ParameterError
verdict_of n k e index v = first_of (verdict_rows n k e index v) granted

-- a task whose index names an element means that element of an array; where there is no array, 0 and 1 both name its one value. A task
-- that ignores the index uses no element: 0 (ours)
unfoldable pub element_of : Task → Entry → ℕ → ℕ
element_of k e index = cond (k.array && not (eqb e.elements 0)) index 0
