-- What a build returns to a host, and what it leaves.
--     host_built r           a build's result as the document's number and the length, 0 in a refusal
--     BuildLeaves o r out    a build that returns r leaves the buffer out, as the outcome o says
use Rattle.std.specs.Prelude.{◌≡◌, List, ℕ, Result}
use Rattle.build_answers.specs.declared.BuildFault.{BuildFault}
use Rattle.build_answers.specs.BuildNumbers.{built_number}
use Rattle.master.specs.Build.{BuildOutcome, length_in}
use Rattle.host_master.specs.declared.HostBuilt.{HostBuilt}

abbrev pub host_built : Result ℕ BuildFault → HostBuilt
host_built r = record { number = built_number r; length = length_in r }

pub record BuildLeaves (o : BuildOutcome) (r : HostBuilt) (out : List ℕ) : Type 0 where
  pub answers : r ≡ host_built o.built
  pub bytes_are : out ≡ o.out
