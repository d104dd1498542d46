-- What a master can ask (document 01, Answer number 31): task 0 with number, index, value 0; or PKW not 0, task 1-3, 6-9, 11-14,
-- number ≤ 31999, index ≤ 254, value 0 for tasks 1, 6, 9, at most 65535 for word changes, no double change in three words;
-- unused process words 0, for task 0 too (ours). Mirror takes 1 to 252 net bytes; broadcast takes selector, masks and process words
-- that are not void, unused ones 0.
--     unused_zero pzd w                      the words past the first pzd are 0
--     task_known id                          the task IDs that can be asked, but 0
--     value_fits act width pkw value         the values that an act of that width can carry; pkw is the PKW setting
--     task_fits pkw id number index value    a task that can be asked; pkw is the PKW setting
--     task_askable s id ..                   a task request that can be asked
--     expressible s r net                    a request that can be asked; net are the net bytes of a mirror
use Rattle.std.specs.Prelude.{ℕ, Bool, false, not, ◌&&◌, ◌||◌, cond, List, eqb, leb, ltb, length}
use Rattle.words.specs.declared.Words.{Words}
use Rattle.setup.specs.declared.Setup.{Setup}
use Rattle.task.specs.declared.Act.{Act}
use Rattle.task.specs.declared.Act.TheVariants.{Nothing, Read, Change, Count, Refuse}
use Rattle.task.specs.declared.Width.{Width}
use Rattle.task.specs.declared.Width.TheVariants.{Either, Word, Double}
use Rattle.task.specs.Task.{task_of}
use Rattle.broadcast.specs.declared.Command.{Command}
use Rattle.broadcast.specs.Broadcast.{is_void}
use Rattle.request.specs.declared.Request.{Request}
use Rattle.request.specs.declared.Request.TheVariants.{Task, Mirror, Broadcast}

-- a word that is used, or 0
abbrev pub used_or_zero : Bool → ℕ → Bool
used_or_zero used w = used || eqb w 0

unfoldable pub unused_zero : ℕ → Words → Bool
unused_zero pzd w =
    used_or_zero (ltb 0 pzd) w.w1
    && used_or_zero (ltb 1 pzd) w.w2
    && used_or_zero (ltb 2 pzd) w.w3
    && used_or_zero (ltb 3 pzd) w.w4

-- task 1-3, 6-9, 11-14
unfoldable pub task_known : ℕ → Bool
task_known id = (leb 1 id && leb id 3) || (leb 6 id && leb id 9) || (leb 11 id && leb id 14)

-- value 0 for tasks 1, 6, 9; at most 65535 for word changes; no double change where the PKW setting is 3. No value fits where none is carried
unfoldable pub value_fits : Act → Width → ℕ → ℕ → Bool
value_fits Nothing width pkw value = false
value_fits Read width pkw value = eqb value 0
value_fits Change Either pkw value = false
value_fits Change Word pkw value = leb value 65535
value_fits Change Double pkw value = not (eqb pkw 3)
value_fits Count width pkw value = eqb value 0
value_fits Refuse width pkw value = false

-- task 0 with number, index, value 0; or the PKW setting not 0, and the rest of 31
unfoldable pub task_fits : ℕ → ℕ → ℕ → ℕ → ℕ → Bool
task_fits pkw id number index value =
    cond (eqb id 0) (eqb number 0 && eqb index 0 && eqb value 0)
    (not (eqb pkw 0)
    && task_known id
    && leb number 31999
    && leb index 254
    && value_fits (task_of id).act (task_of id).width pkw value)

abbrev pub task_askable : Setup → ℕ → ℕ → ℕ → ℕ → Words → Bool
task_askable s id number index value process = task_fits s.pkw id number index value && unused_zero s.pzd process

-- a fourth PKW word is no part of the request and is written 0
abbrev pub command_of : ℕ → ℕ → ℕ → Command
command_of selector mask1 mask2 = record { selector = selector; mask1 = mask1; mask2 = mask2; fourth = 0 }

unfoldable pub expressible : Setup → Request → List ℕ → Bool
expressible s (Task id number index value process) net = task_askable s id number index value process
expressible s Mirror net = not (ltb (length net) 1) && leb (length net) 252
expressible s (Broadcast selector mask1 mask2 process) net =
    not (is_void (command_of selector mask1 mask2) s.pkw s.pzd process.w1) && unused_zero s.pzd process
