-- What the functions of the view that holds its table promise: of the lent table t or the view v, the result r. It is what their source
-- states: `new_stated`, `show_stated`, `step_stated` (claims_view, HeldTable).
--     NewPost κs t r s     a view of the table, at the start
--     ShowPost κs v r s    what is shown
--     StepPost κs v r s    a view of the same table, one record on
use Rattle.std.specs.Prelude.{ℕ, ◌≡◌, List}
use contract.Lifetimes.{Lfts}
use Rattle.std.specs.Borrow.{Bor}
use Rattle.view.specs.View.{start_in, shown_in, stepped_in}
use Rattle.view.specs.declared.View.{View}
use Rattle.view.specs.declared.Shown.{Shown}

abbrev pub NewPost : (κs : Lfts 1) → Bor (List ℕ) → View → Unit {0} → Type 0
NewPost κs t r s = r ≡ start_in t

abbrev pub ShowPost : (κs : Lfts 1) → View → Shown → Unit {0} → Type 0
ShowPost κs v r s = r ≡ shown_in v

abbrev pub StepPost : (κs : Lfts 1) → View → View → Unit {0} → Type 0
StepPost κs v r s = r ≡ stepped_in v
