-- In which tasks the index names an element. A verdict is the answer of the first row that applies; a task is granted where no row does.
-- Assumes nothing.
use mathlib.Core.Path.{◌≡◌, refl, ap, ◌∙◌}
use mathlib.Core.Logic.{◌⊎◌, inl, inr}
use mathlib.Core.List.{List, [], ◌∷◌}
use mathlib.Core.Bool.{Bool, true, false, not, ◌&&◌, cond, and-false}
use Prim.Native.Nat.{ℕ, ◌<◌}
use native.Mathlib.Omega.{arith}
use borrow.Author.Tests.{eqb-false, leb-false, not-false}
use lib.Dec.{eqb, leb, lit<}
use Rattle.std.specs.Prelude.{Result, Ok, Err}
use Rattle.rows.specs.Rows.{first_of, Each}
use Rattle.rows.proofs.RowsLaws.{row_passed}
use Rattle.entry.specs.declared.Entry.{Entry}
use Rattle.entry.specs.Fields.{count_of}
use Rattle.limits.specs.Limits.{is_within}
use Rattle.task.specs.declared.Act.{Act}
use Rattle.task.specs.declared.Act.TheVariants.{Read, Change}
use Rattle.task.specs.declared.Width.TheVariants.{Either}
use Rattle.task.specs.declared.Task.{Task}
use Rattle.task.specs.Task.{task_row, tasks, task_of}
use Rattle.task.proofs.TaskLaws.{each_task}
use Rattle.verdict.specs.Verdict.{refuses_act, changes_act, moves_value, lacks_array, lacks_element, lacks_room, verdict_rows, verdict_of, element_of, granted}
use Rattle.errors.specs.declared.ParameterError.{ParameterError}

-- the index names an element in every read and change, and in no other task
pub index_named : (id : ℕ) → (task_of id).array ≡ moves_value (task_of id).act
unfolding tasks
index_named =
    each_task (λ k. k.array ≡ moves_value k.act) refl
    (refl, (refl, (refl, (refl, (refl, (refl, (refl, (refl, (refl, (refl, (refl, (refl, (refl, (refl, (refl, (refl, tt))))))))))))))))

is_granted : Result (Unit {0}) ParameterError → Bool
is_granted (Ok done) = true
is_granted (Err error) = false

-- b is the test of one of the rows
Among : Bool → List (Bool × Result (Unit {0}) ParameterError) → Type 0
Among b [] = ⊥
Among b (row ∷ rows) = (b ≡ row.0) ⊎ Among b rows

-- where every row denies and the task is granted, no test holds
none_holds : (rows : List (Bool × Result (Unit {0}) ParameterError)) → Each (λ (row : Bool × (Result (Unit {0}) ParameterError)). is_granted row.1 ≡ false) rows → is_granted (first_of rows granted) ≡ true → (b : Bool) → Among b rows → b ≡ false
unfolding Among
none_holds [] d e b m = absurd m
none_holds (row ∷ rows) d e b (inl h) = h ∙ (row_passed is_granted row.0 row.1 (first_of rows granted) d.0 e).0
none_holds (row ∷ rows) d e b (inr m) =
    none_holds rows d.1 (row_passed is_granted row.0 row.1 (first_of rows granted) d.0 e).1 b m

-- what others ask of the rows: none of these applies
pub record NoError (n : ℕ) (k : Task) (e : Entry) (index v : ℕ) : Type 0 where
  pub element_there : lacks_element k e index ≡ false
  pub room_there : lacks_room n k e ≡ false
  pub value_inside : (changes_act k.act && not (is_within e v)) ≡ false

module _ (n : ℕ) (k : Task) (e : Entry) (index v : ℕ) where
  pub granted_clear : verdict_of n k e index v ≡ granted → NoError n k e index v
  unfolding verdict_of is_granted Among
  granted_clear g =
      let none = none_holds (verdict_rows n k e index v) (refl, (refl, (refl, (refl, (refl, (refl, (refl, tt))))))) (ap is_granted g) in
      record {
        element_there = none _ (search (inl, inr) depth 9 fits 2000);
        room_there = none _ (search (inl, inr) depth 9 fits 2000);
        value_inside = none _ (search (inl, inr) depth 9 fits 2000);
      }

  -- a granted task means an element that is there
  pub granted_element : verdict_of n k e index v ≡ granted → element_of k e index < count_of e
  unfolding element_of count_of
  granted_element g = go k.array (eqb e.elements 0) refl (granted_clear g).element_there
    where
      go : (x y : Bool) → eqb e.elements 0 ≡ y → (x && (not y && leb e.elements index)) ≡ false → cond (x && not y) index 0 < cond y 1 e.elements
      go true true p f = lit< tt
      go true false p f = leb-false e.elements index f
      go false true p f = lit< tt
      go false false p f = let h = eqb-false e.elements 0 p in omega arith

  -- a granted change is within the limits
  pub granted_inside : k.act ≡ Change → verdict_of n k e index v ≡ granted → is_within e v ≡ true
  granted_inside h g = not-false (is_within e v) (rw h at (granted_clear g).value_inside)

  -- ---- the rows that are left where 4 and 3 do not apply, act by act

  module _ (array-there : lacks_array k e index ≡ false) (element_there : lacks_element k e index ≡ false) where
    -- 102
    pub verdict_read : k.act ≡ Read → verdict_of n k e index v ≡ verdict_of n (task_row Read Either false 0) e 0 0
    unfolding verdict_of
    verdict_read h = rw (h, array-there, element_there)

    -- 5, 102, 1, 2
    pub verdict_change : k.act ≡ Change → verdict_of n k e index v ≡ verdict_of n (task_row Change k.width false 0) e 0 v
    unfolding verdict_of
    verdict_change h = rw (h, array-there, element_there)

    -- none
    pub verdict_none : (act : Act) → k.act ≡ act → (refuses_act act ≡ false) × (changes_act act ≡ false) × (moves_value act ≡ false) → verdict_of n k e index v ≡ granted
    unfolding verdict_of
    verdict_none act h q = rw (h, array-there, element_there, q.0, q.1, q.2, and-false (eqb n 3), and-false e.double)
