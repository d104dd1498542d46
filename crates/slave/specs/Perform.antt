-- A parameter task on the lent memory (document 01, Parameter area): what it asks by the record that it names, and what is done.
--     Performed             the reply's area, and the memory afterwards
--     Performs p a m        a task that returns the area a leaves the memory m, as p has them
--     done_by d first m     a deed on a record whose first value place is `first`
--     found_of t a          the record that the area a names
--     plan_in n t a         the task in an area a of n words, on the table t: the deed, and the first place of the record that it means
--     plan_at n t rx        the task of a telegram rx whose area has n words
--     carried_out p m       a plan on the memory m
--     perform_of n t m a    the task in an area a, done
--     task_done n t m rx    the task of a telegram, done
use Rattle.std.specs.Prelude.{ℕ, ◌+◌, ◌/◌, ◌≡◌, cond, List, eqb, get_or, Option, Some, None}
use Rattle.area.specs.declared.Area.{Area}
use Rattle.area.specs.Read.{empty_area, area_at}
use Rattle.opening.specs.Lent.{Memory, stored}
use Rattle.table.specs.Records.{entry_at, find_in, first_place}
use Rattle.page.specs.Page.{full_number, named}
use Rattle.errors.specs.declared.ParameterError.TheVariants.{NoParameter}
use Rattle.deed.specs.declared.Deed.{Deed}
use Rattle.deed.specs.declared.Deed.TheVariants.{Reply, Fetch, Write}
use Rattle.deed.specs.Deed.{error_area, deed_on}
use Rattle.slave.specs.declared.Plan.{Plan}

-- ---- what is done

pub record Performed : Type 0 where
  pub area : Area
  pub memory : Memory

pub record Performs (p : Performed) (a : Area) (m : Memory) : Type 0 where
  pub area_is : a ≡ p.area
  pub memory_is : m ≡ p.memory

-- a read takes the value of its place into the reply; a change writes its one place
abbrev pub done_by : Deed → ℕ → Memory → Performed
done_by (Reply area) first m = record { area = area; memory = m }
done_by (Fetch area element) first m =
    record { area = record { pke = area.pke; ind = area.ind; value = get_or m.values (first + element) 0 }; memory = m }
done_by (Write area element) first m = record { area = area; memory = stored m (first + element) area.value }

-- ---- what is asked

-- a base of 2000 to 2047 names no parameter
unfoldable pub found_of : List ℕ → Area → Option ℕ
found_of t a = cond (named a.pke) (find_in t (full_number a.pke a.ind)) None

-- nothing is asked of the memory
abbrev pub replying : Area → Plan
replying a = record { deed = Reply a; first = 0 }

-- error 0 where there is no such parameter
abbrev pub plan_on : ℕ → List ℕ → Area → Option ℕ → Plan
plan_on n t a None = replying (error_area a NoParameter)
plan_on n t a (Some k) = record { deed = deed_on n a (entry_at t k); first = first_place t k }

-- task 0: the whole area is 0, and no error is looked for
unfoldable pub plan_in : ℕ → List ℕ → Area → Plan
plan_in n t a = cond (eqb (a.pke / 4096) 0) (replying empty_area) (plan_on n t a (found_of t a))

-- the parameter task runs if there is an area
unfoldable pub plan_at : ℕ → List ℕ → List ℕ → Plan
plan_at n t rx = cond (eqb n 0) (replying empty_area) (plan_in n t (area_at rx n))

-- ---- both

abbrev pub carried_out : Plan → Memory → Performed
carried_out p m = done_by p.deed p.first m

abbrev pub perform_of : ℕ → List ℕ → Memory → Area → Performed
perform_of n t m a = carried_out (plan_in n t a) m

abbrev pub task_done : ℕ → List ℕ → Memory → List ℕ → Performed
task_done n t m rx = carried_out (plan_at n t rx) m
