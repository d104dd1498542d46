-- From the built bytes to the read request: where a build answered 0, the bytes at the buffer's start, handed to a slave of the same
-- set-up, are read as the request. Assumes nothing.
use mathlib.Core.Path.{◌≡◌, ◌∙◌}
use mathlib.Core.List.{List}
use Prim.Native.Nat.{ℕ}
use lib.ListN.{take}
use Rattle.std.specs.Prelude.{true, is_ok}
use Rattle.request.specs.declared.Request.{Request}
use Rattle.request.specs.declared.Request.TheVariants.{Task, Mirror, Broadcast}
use Rattle.slave.specs.Slave.{Call}
use Rattle.master.specs.Build.{telegram_for, length_in, built_of}
use Rattle.master.proofs.BuildLaws.{Buildable, done_buildable}
use Rattle.claims_master.specs.Claims.{ReadAs, Typed}
use Rattle.claims_master.proofs.BuiltPasses.{built_passes}
use Rattle.claims_master.proofs.TaskIsRead.{task_is_read}
use Rattle.claims_master.proofs.MirrorIsRead.{mirror_is_read}
use Rattle.claims_master.proofs.BroadcastIsRead.{broadcast_is_read}

module _ (k : Call) (net buffer : List ℕ) where
  -- the telegram of a request that passed the tests
  telegram_is_read : (r : Request) → Buildable k.setup r net buffer → Typed r → k.received ≡ telegram_for k.setup r net → ReadAs k r net
  telegram_is_read (Task id number index value process) b t e =
      task_is_read k id number index value process net b.passed.setup_good b.passed.asked t.0 t.1 e
  telegram_is_read Mirror b t e = mirror_is_read k net b.passed.setup_good b.passed.asked e
  telegram_is_read (Broadcast selector mask1 mask2 process) b t e =
      broadcast_is_read k selector mask1 mask2 process k.setup.node net b.passed.setup_good b.passed.asked t.0 t.1 t.2 e

  pub built_is_read : (r : Request) → is_ok (built_of k.setup r net buffer).built ≡ true → Typed r
      → k.received ≡ take (length_in (built_of k.setup r net buffer).built) (built_of k.setup r net buffer).out → ReadAs k r net
  built_is_read r done t e = telegram_is_read r (done_buildable k.setup r net buffer done) t (e ∙ (built_passes k.setup r net buffer done).there)
