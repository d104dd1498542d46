-- `host_master::build_task` meets its contract: a task, with the answer as a number. Assumes nothing.
use Rattle.host_master.proofs.LengthLaws.{built_fits}
use Rattle.host_master.proofs.build_task.Goals as goal

pub give_built-requires : goal.give_built-requires
give_built-requires c = built_fits _ _ _ _ c.build_task-built.ensures
