-- The document's numbers of a build's answers (document 01, Answer numbers).
--     build_number f    a refusal, 30 to 32
--     built_number r    a refusal or the telegram's length, 0 where it is no refusal
use Rattle.std.specs.Prelude.{ℕ, Result, Ok, Err}
use Rattle.build_answers.specs.declared.BuildFault.{BuildFault}
use Rattle.build_answers.specs.declared.BuildFault.TheVariants.{BadSetup, NotExpressible, ShortBuffer}

abbrev pub build_number : BuildFault → ℕ
build_number BadSetup = 30
build_number NotExpressible = 31
build_number ShortBuffer = 32

abbrev pub built_number : Result ℕ BuildFault → ℕ
built_number (Ok length) = 0
built_number (Err fault) = build_number fault
