-- A telegram that is built has at most 256 bytes, so its length fits in 32 bits. Assumes nothing.
use mathlib.Core.Path.{◌≡◌, refl, subst}
use mathlib.Core.Bool.{true}
use mathlib.Core.List.{List}
use Prim.Native.Nat.{ℕ, ◌+◌, ◌*◌, ◌≤◌}
use native.Mathlib.Omega.{arith}
use lib.Dec.{lit≤}
use lib.ListN.{length}
use Rattle.std.specs.Prelude.{Result, Ok, Err, IfOk}
use Rattle.words.specs.declared.Words.{Words}
use Rattle.setup.specs.declared.Setup.{Setup}
use Rattle.setup.proofs.SetupLaws.{Configured, ok_configured, area_few, area_sized, Counted}
use Rattle.area.specs.declared.Area.{Area}
use Rattle.area.specs.Net.{fixed_words, process_words}
use Rattle.area.proofs.WordLaws.{Sized, length_fixed, length_process}
use Rattle.net.specs.Telegram.{telegram_of}
use Rattle.net.proofs.SealLaws.{length_telegram}
use Rattle.net.proofs.NetLaws.{length_sent}
use Rattle.request.specs.declared.Request.{Request}
use Rattle.request.specs.declared.Request.TheVariants.{Task, Mirror, Broadcast}
use Rattle.request.specs.Request.{expressible}
use Rattle.request.proofs.RequestLaws.{mirror_asked}
use Rattle.master.specs.Build.{task_area, command_area, task_count, command_count, net_for, telegram_for, length_in, outcome_of, admitted, Builds, built_of}
use Rattle.master.proofs.BuildLaws.{done_admitted, task_counted, command_counted}
use Rattle.build_answers.specs.declared.BuildFault.{BuildFault}

module _ (s : Setup) (c : Configured s) where
  net_most : (k adr : ℕ) (a : Area) (w : Words) → Counted s k → length (telegram_of adr (net_for s k a w)) ≤ 256
  net_most k adr a w counted =
      let n = (k + s.pzd) * 2 in
      omega (
        arith,
        length_sent adr (fixed_words k a) (process_words s.pzd w),
        length_fixed k a (subst Sized counted (area_sized s n c)),
        length_process s.pzd w c.process,
        counted,
        area_few s n c,
        c.process,
      )

  telegram_most : (r : Request) (net : List ℕ) → expressible s r net ≡ true → length (telegram_for s r net) ≤ 256
  unfolding telegram_for
  telegram_most (Task id number index value process) net e = net_most (task_count s id) s.node (task_area id number index value) process (task_counted s id)
  telegram_most Mirror net e = omega (arith, length_telegram (s.node + 64) net, (mirror_asked s net e).1)
  telegram_most (Broadcast selector mask1 mask2 process) net e = net_most (command_count s) 32 (command_area (command_count s) selector mask1 mask2) process (command_counted s)

pub built_most : (s : Setup) (r : Request) (net out : List ℕ) → length_in (built_of s r net out).built ≤ 256
unfolding built_of
built_most s r net out = go (admitted s (expressible s r net) (length out)) refl
  where
    go : (a : Result (Unit {0}) BuildFault) → admitted s (expressible s r net) (length out) ≡ a → length_in (outcome_of a (telegram_for s r net) out).built ≤ 256
    go (Ok done) e =
        let p = done_admitted s (expressible s r net) (length out) e in
        telegram_most s (ok_configured s p.setup_good) r net p.asked
    go (Err fault) e = lit≤ tt

length_fits : (b : Result ℕ BuildFault) → length_in b ≤ 256 → IfOk b (λ n. n ≤ 256)
length_fits (Ok n) h = h
length_fits (Err fault) h = tt

pub built_fits : (s : Setup) (r : Request) (net out : List ℕ) {b : Result ℕ BuildFault} {out' : List ℕ} → Builds (built_of s r net out) b out' → IfOk b (λ n. n ≤ 256)
built_fits s r net out {b} k = length_fits b (rw k.answers (built_most s r net out))
