-- A whole round: a task is built, a slave of the same set-up is called on the bytes, and the master reads the bytes of the reply.
-- Assumes nothing.
use mathlib.Core.Path.{◌≡◌, refl, ◌∙◌}
use mathlib.Core.List.{List}
use Prim.Native.Nat.{ℕ, ◌<◌}
use lib.ListN.{get_or, take}
use Rattle.std.specs.Prelude.{true, is_ok}
use Rattle.words.specs.declared.Words.{Words}
use Rattle.area.specs.Read.{Worded}
use Rattle.opening.specs.Answers.{passed}
use Rattle.net.proofs.SealLaws.{written_first}
use Rattle.request.specs.declared.Request.{Request}
use Rattle.request.specs.declared.Request.TheVariants.{Task}
use Rattle.slave.specs.Slave.{Call, net_in, opening_at, reply_at, normal_outcome, call_of}
use Rattle.slave.proofs.CaseLaws.{called}
use Rattle.master.specs.Build.{length_in, built_of}
use Rattle.master.proofs.BuildLaws.{done_buildable}
use Rattle.reply.specs.Reply.{read_of}
use Rattle.claims_master.proofs.BuiltPasses.{built_passes}
use Rattle.claims_master.proofs.BuiltIsRead.{built_is_read}
use Rattle.claims_reply.specs.Claims.{ReplyRead, RoundMade}
use Rattle.claims_reply.proofs.ReplyIsRead.{reply_is_read}

-- a call that replied
replied_so : (k : Call) (r : Request) → call_of k ≡ normal_outcome (net_in k.received) k → ReplyRead k (read_of k.setup r (reply_at (net_in k.received) k))
    → RoundMade k r (call_of k)
replied_so k r e h = rw e (record { replied = refl; read_is = rw (written_first k.buffer (reply_at (net_in k.received) k)) h })

-- received are the bytes at the start of the buffer that the task was built into
pub round_trip : (k : Call) (id number index value : ℕ) (process : Words) (net buffer : List ℕ) → is_ok (built_of k.setup (Task id number index value process) net buffer).built ≡ true
    → k.received ≡ take (length_in (built_of k.setup (Task id number index value process) net buffer).built) (built_of k.setup (Task id number index value process) net buffer).out
    → opening_at k ≡ passed → value < 4294967296 → Worded process → Worded k.status → ((i : ℕ) → get_or k.memory.values i 0 < 4294967296)
    → RoundMade k (Task id number index value process) (call_of k)
round_trip k id number index value process net buffer done e opened v w g small =
    let r : Request = Task id number index value process in
    let b = done_buildable k.setup r net buffer done in
    let t = built_is_read k net buffer r done (v, w) e in
    replied_so k r (called k passed opened ∙ t.served)
    (reply_is_read k id number index value process net opened b.passed.asked v w g small (e ∙ (built_passes k.setup r net buffer done).there))
