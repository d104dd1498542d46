-- The index in plain tasks (document 02, W-203): tasks 1, 2, 3, 13 and 14 use it as tasks 6, 7 and 8 do, while the reply IDs stay.
--     plain_tasks             the five, each beside the element's task that asks the same: 6, 7, 8, and 11 and 12, which act as 8 and 7
--     as_task id a            the area a with another task ID
--     plain_id id             the reply ID of a plain task where that of an element's task is id: 1 for 4, 2 for 5; errors have 7 in both
--     plain_area a            the area of an element's reply with the ID of a plain one
--     as_plain r              what an element's task replies and leaves, with the reply ID of a plain task
--     ByIndex n t m a pair    in an area a of n words, on the table t and the memory m, the plain task of a pair does what the other does,
--                             but for the reply ID
use Rattle.std.specs.Prelude.{ℕ, ◌+◌, ◌*◌, ◌/◌, ◌%◌, ◌≡◌, cond, List, [], ◌∷◌, eqb}
use Rattle.area.specs.declared.Area.{Area}
use Rattle.opening.specs.Lent.{Memory}
use Rattle.slave.specs.Perform.{Performed, perform_of}

abbrev pub plain_tasks : List (ℕ × ℕ)
plain_tasks = (1, 6) ∷ (2, 7) ∷ (3, 8) ∷ (13, 11) ∷ (14, 12) ∷ []

abbrev pub as_task : ℕ → Area → Area
as_task id a = record { pke = id * 4096 + a.pke % 4096; ind = a.ind; value = a.value }

abbrev pub plain_id : ℕ → ℕ
plain_id id = cond (eqb id 4) 1 (cond (eqb id 5) 2 id)

abbrev pub plain_area : Area → Area
plain_area a = as_task (plain_id (a.pke / 4096)) a

abbrev pub as_plain : Performed → Performed
as_plain r = record { area = plain_area r.area; memory = r.memory }

abbrev pub ByIndex : ℕ → List ℕ → Memory → Area → ℕ × ℕ → Type 0
ByIndex n t m a pair = perform_of n t m (as_task pair.0 a) ≡ as_plain (perform_of n t m (as_task pair.1 a))
