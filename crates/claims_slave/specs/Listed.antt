-- The slave with a list of first places beside the slave that adds (document 02, W-205).
--     unlisted k    the same call without a list
--     adding s      the same set-up and table without a list
use Rattle.std.specs.Prelude.{None}
use Rattle.slave.specs.Slave.{Call}
use Rattle.claims_slave.specs.Sequence.{Standing}

abbrev pub unlisted : Call → Call
unlisted k =
    record { setup = k.setup; table = k.table; memory = k.memory; list = None; control = k.control; status = k.status; received = k.received; buffer = k.buffer }

abbrev pub adding : Standing → Standing
adding s = record { setup = s.setup; table = s.table; list = None }
