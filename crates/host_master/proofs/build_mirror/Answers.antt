-- `host_master::build_mirror` meets its contract: a mirror telegram, with the answer as a number. Assumes nothing.
use Rattle.host_master.proofs.LengthLaws.{built_fits}
use Rattle.host_master.proofs.build_mirror.Goals as goal

pub give_built-requires : goal.give_built-requires
give_built-requires c = built_fits _ _ _ _ c.build_mirror-built.ensures
