-- Document 01's answer numbers of a build, in its order.
--     admitted_number r           the number of a test's refusal, 0 where nothing is refused
--     build_rows s r net room     30 set-up as 20; 31 request not expressible; 32 buffer under 256
use Rattle.std.specs.Prelude.{ℕ, Bool, List, Result, Ok, Err}
use Rattle.rows.specs.Rows.{read_rows}
use Rattle.setup.specs.declared.Setup.{Setup}
use Rattle.request.specs.declared.Request.{Request}
use Rattle.request.specs.Request.{expressible}
use Rattle.build_answers.specs.declared.BuildFault.{BuildFault}
use Rattle.build_answers.specs.BuildNumbers.{built_number}
use Rattle.master.specs.Build.{admit_rows}

abbrev pub admitted_number : Result (Unit {0}) BuildFault → ℕ
admitted_number (Ok done) = built_number (Ok 0)
admitted_number (Err fault) = built_number (Err fault)

abbrev pub build_rows : Setup → Request → List ℕ → ℕ → List (Bool × ℕ)
build_rows s r net room = read_rows admitted_number (admit_rows s (expressible s r net) room)
