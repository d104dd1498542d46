-- Every telegram that is built passes the frame check, its reported length is its byte count, and the buffer behind it is as it
-- was. Assumes nothing.
use mathlib.Core.Path.{◌≡◌, refl, ap, ◌∙◌}
use mathlib.Core.Bool.{true}
use mathlib.Core.List.{List}
use Prim.Native.Nat.{ℕ, ◌+◌, ◌-◌, ◌≤◌}
use native.Mathlib.Omega.{arith}
use lib.ListN.{length}
use Rattle.std.specs.Prelude.{Ok, is_ok}
use Rattle.frame.specs.Frame.{frame_of}
use Rattle.setup.specs.declared.Setup.{Setup}
use Rattle.setup.specs.SetupRules.{setup_ok}
use Rattle.setup.proofs.SetupLaws.{ok_configured}
use Rattle.net.specs.Telegram.{telegram_of}
use Rattle.net.proofs.SealLaws.{length_telegram, telegram_passes, written_first, written_rest, written_long}
use Rattle.request.specs.declared.Request.{Request}
use Rattle.request.specs.declared.Request.TheVariants.{Task, Mirror, Broadcast}
use Rattle.request.specs.Request.{expressible}
use Rattle.request.proofs.RequestLaws.{mirror_asked}
use Rattle.master.specs.Build.{task_area, command_area, task_count, command_count, net_for, telegram_for, sent, built_of}
use Rattle.master.proofs.BuildLaws.{done_buildable, task_counted, command_counted}
use Rattle.claims_master.specs.Claims.{SoundBuild}
use Rattle.claims_master.proofs.SentLaws.{net_some, net_fits}

-- a telegram has a sound frame and at most 256 bytes
pub record SoundTelegram (t : List ℕ) : Type 0 where
  pub frame : frame_of t ≡ Ok (length t - 1)
  pub few : length t ≤ 256

telegram_sound : (adr : ℕ) (net : List ℕ) → 1 ≤ length net → length net ≤ 252 → SoundTelegram (telegram_of adr net)
telegram_sound adr net some fits =
    let long = length_telegram adr net in
    let last : length net + 3 ≡ length (telegram_of adr net) - 1 = omega arith in
    record { frame = telegram_passes adr net some fits ∙ ap Ok last; few = omega arith }

pub request_sound : (s : Setup) (r : Request) (net : List ℕ) → setup_ok s ≡ true → expressible s r net ≡ true → SoundTelegram (telegram_for s r net)
unfolding telegram_for
request_sound s (Task id number index value process) net ok asked =
    let c = ok_configured s ok in
    let a = task_area id number index value in
    let k = task_count s id in
    telegram_sound s.node (net_for s k a process) (net_some s k c (task_counted s id) a process) (net_fits s k c (task_counted s id) a process)
request_sound s Mirror net ok asked = telegram_sound (s.node + 64) net (mirror_asked s net asked).0 (mirror_asked s net asked).1
request_sound s (Broadcast selector mask1 mask2 process) net ok asked =
    let c = ok_configured s ok in
    let k = command_count s in
    let a = command_area k selector mask1 mask2 in
    telegram_sound 32 (net_for s k a process) (net_some s k c (command_counted s) a process) (net_fits s k c (command_counted s) a process)

-- what a telegram at the front of a buffer leaves
sent_passes : (s : Setup) (r : Request) (net out : List ℕ) → SoundTelegram (telegram_for s r net) → 256 ≤ length out → SoundBuild s r net out (sent (telegram_for s r net) out)
sent_passes s r net out f room =
    let t = telegram_for s r net in
    record {
      there = written_first out t;
      long = refl;
      fits = f.few;
      passes = f.frame;
      behind = written_rest out t;
      whole = written_long out t (omega (arith, f.few));
    }

pub built_passes : (s : Setup) (r : Request) (net out : List ℕ) → is_ok (built_of s r net out).built ≡ true → SoundBuild s r net out (built_of s r net out)
built_passes s r net out e =
    let b = done_buildable s r net out e in
    rw b.is (sent_passes s r net out (request_sound s r net b.passed.setup_good b.passed.asked) b.passed.enough)
