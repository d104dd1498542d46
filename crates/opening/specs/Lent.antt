-- What the host lends to a slave call (document 01, Slave), as the opening check sees it.
--     Memory              what a task may change: the values, one place per element
--     stored m place v    the same with v in one place
--     lent_list ps        the list of first places that the host may lend (document 02, W-205): none, or these
--     Lent                set-up, table, memory, list, and `room`, the bytes of the reply buffer
--     RightList t ps      the list ps, where one is lent, is that of the first places of t
--     lent_with d vs n    a drive d, the values vs and n bytes for the reply, as they are lent
--     lending l m         the same with another memory
use Rattle.std.specs.Prelude.{ℕ, ◌≡◌, List, set, Option, Some, None}
use Rattle.std.specs.Borrow.{Bor}
use Rattle.table.specs.Records.{places_of}
use Rattle.setup.specs.declared.Setup.{Setup}
use Rattle.opening.specs.declared.Drive.{Drive}

pub record Memory : Type 0 where
  pub values : List ℕ

abbrev pub stored : Memory → ℕ → ℕ → Memory
stored m place v = record { values = set m.values place v }

abbrev pub lent_list : Option (Bor (List ℕ)) → Option (List ℕ)
lent_list None = None
lent_list (Some ps) = Some ps.now

-- where a list is lent, it is the list of t's first places
abbrev pub RightList : List ℕ → Option (List ℕ) → Type 0
RightList t None = Unit {0}
RightList t (Some ps) = ps ≡ places_of t

pub record Lent : Type 0 where
  pub setup : Setup
  pub table : List ℕ
  pub memory : Memory
  pub list : Option (List ℕ)
  pub room : ℕ

abbrev pub lent_with : Drive → List ℕ → ℕ → Lent
lent_with d vs room = record { setup = d.setup; table = d.table.now; memory = record { values = vs }; list = lent_list d.places; room = room }

abbrev pub lending : Lent → Memory → Lent
lending l m = record { setup = l.setup; table = l.table; memory = m; list = l.list; room = l.room }
