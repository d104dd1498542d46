-- Each case of the slave call by the tests that lead to it. Assumes nothing.
use mathlib.Core.Path.{◌≡◌, ap}
use mathlib.Core.Bool.{true, false}
use mathlib.Core.List.{List}
use Prim.Native.Nat.{ℕ, ◌≤◌}
use native.Mathlib.Omega.{arith}
use lib.ListN.{length}
use Rattle.std.specs.Prelude.{Result, Some}
use Rattle.words.specs.declared.Words.{Words}
use Rattle.setup.specs.declared.Setup.{Setup}
use Rattle.setup.specs.SetupRules.{area_count, other_node, other_length}
use Rattle.setup.proofs.SetupLaws.{Configured, area_few, area_sized, area_some}
use Rattle.area.specs.declared.Area.{Area}
use Rattle.net.specs.Normal.{normal_of, normal_length}
use Rattle.net.specs.Telegram.{written}
use Rattle.net.proofs.NormalLaws.{normal_sent}
use Rattle.address.specs.declared.Telegram.{Telegram}
use Rattle.address.specs.declared.Fault.{Fault}
use Rattle.address.specs.Address.{decoded_of}
use Rattle.control.specs.Control.{void_in}
use Rattle.opening.specs.Lent.{Memory}
use Rattle.slave_answers.specs.declared.Refusal.TheVariants.{OtherNode, OtherLength, VoidBroadcast}
use Rattle.slave.specs.declared.Served.{Served}
use Rattle.slave.specs.Slave.{Call, Outcome, Leaves, opening_at, refused_of, reply_of, normal_outcome, normal_case, mirror_outcome, mirror_case, taken_outcome, broadcast_case, execute_decoded, execute_of, call_opened, call_of}
use Rattle.slave_answers.specs.declared.OpeningFault.{OpeningFault}

-- what a call leaves, by the outcome that it comes to
pub left_as : {o p : Outcome} {r : Served} {m : Memory} {out : List ℕ} → o ≡ p → Leaves p r m out → Leaves o r m out
left_as e l = rw e l

module _ (node n : ℕ) (k : Call) where
  pub normal_other_node : other_node k.setup node ≡ true → normal_case node n k ≡ refused_of OtherNode k
  unfolding normal_case
  normal_other_node h = rw h

  pub normal_other_length : other_node k.setup node ≡ false → other_length k.setup n ≡ true → normal_case node n k ≡ refused_of OtherLength k
  unfolding normal_case
  normal_other_length g h = rw (g, h)

  pub normal_replied : other_node k.setup node ≡ false → other_length k.setup n ≡ false → normal_case node n k ≡ normal_outcome n k
  unfolding normal_case
  normal_replied g h = rw (g, h)

module _ (node : ℕ) (k : Call) where
  pub mirror_other_node : other_node k.setup node ≡ true → mirror_case node k ≡ refused_of OtherNode k
  unfolding mirror_case
  mirror_other_node h = rw h

  pub mirror_sent : other_node k.setup node ≡ false → mirror_case node k ≡ mirror_outcome k
  unfolding mirror_case
  mirror_sent h = rw h

module _ (n : ℕ) (k : Call) where
  pub broadcast_other_length : other_length k.setup n ≡ true → broadcast_case n k ≡ refused_of OtherLength k
  unfolding broadcast_case
  broadcast_other_length h = rw h

  pub broadcast_void : other_length k.setup n ≡ false → void_in k.setup n k.received ≡ true → broadcast_case n k ≡ refused_of VoidBroadcast k
  unfolding broadcast_case
  broadcast_void h v = rw (h, v)

  pub broadcast_taken : other_length k.setup n ≡ false → void_in k.setup n k.received ≡ false → broadcast_case n k ≡ taken_outcome n k
  unfolding broadcast_case
  broadcast_taken h v = rw (h, v)

-- the reply of a set-up that may be used, as it is written
pub reply_sent : (s : Setup) (n : ℕ) (a : Area) (status : Words) (out : List ℕ) → Configured s → 256 ≤ length out
    → (normal_length out a (area_count s n) status s.pzd ≡ Some (length (reply_of s n a status)))
    × (normal_of out s.node a (area_count s n) status s.pzd ≡ written out (reply_of s n a status))
unfolding reply_of
reply_sent s n a status out c room =
    normal_sent a (area_count s n) status s.pzd c.process (area_sized s n c) out s.node room (omega (arith, area_some s n c)) (area_few s n c)

module _ (k : Call) where
  pub executed : (d : Result Telegram Fault) → decoded_of k.received ≡ d → execute_of k ≡ execute_decoded d k
  unfolding execute_of
  executed d e = ap (λ (x : Result Telegram Fault). execute_decoded x k) e

  pub called : (o : Result (Unit {0}) OpeningFault) → opening_at k ≡ o → call_of k ≡ call_opened o k
  unfolding call_of
  called o e = ap (λ (x : Result (Unit {0}) OpeningFault). call_opened x k) e
