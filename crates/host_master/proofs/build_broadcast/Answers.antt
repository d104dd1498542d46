-- `host_master::build_broadcast` meets its contract: a broadcast, with the answer as a number. Assumes nothing.
use Rattle.host_master.proofs.LengthLaws.{built_fits}
use Rattle.host_master.proofs.build_broadcast.Goals as goal

pub give_built-requires : goal.give_built-requires
give_built-requires c = built_fits _ _ _ _ c.build_broadcast-built.ensures
