-- `store::copy`: after j turns the first j bytes of src stand at `at`.
use Rattle.std.proofs.Common.{take, ◌≡◌}
use Rattle.std.proofs.lemmas.List.Edits.{sets}
use Rattle.store.proofs.copy.Given as goal

abbrev pub invariant-loop-j : goal.invariant-loop-j
invariant-loop-j l = l.out ≡ sets l.fn.out l.at (take l.j l.src)
