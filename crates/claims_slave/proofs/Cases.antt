-- What a slave call can be: one refusal, or one of the three answers with the tests that led to it. Assumes nothing.
--     call_cases        what holds of a refusal and of the three answers holds of the call; with an opening check that passes,
--                       a refusal is none of 20 to 23 and 25
use Prim.Native.Nat.{ℕ, ◌-◌, ◌<◌}
use mathlib.Core.Path.{◌≡◌, refl, sym, ap, ◌∙◌}
use mathlib.Core.Bool.{Bool, true, false, false≢true}
use native.Mathlib.Omega.{arith}
use lib.Dec.{lit<}
use Rattle.std.specs.Prelude.{Result, Ok, Err}
use Rattle.setup.specs.SetupRules.{other_node, other_length}
use Rattle.setup.proofs.SetupLaws.{own_node}
use Rattle.address.specs.Address.{decoded_of}
use Rattle.frame.specs.Frame.{last_of}
use Rattle.address.specs.declared.Telegram.{Telegram}
use Rattle.address.specs.declared.Fault.{Fault}
use Rattle.address.specs.declared.Telegram.TheVariants.{Normal, Mirror, Broadcast}
use Rattle.address.proofs.DecodedLaws.{normal_bounds}
use Rattle.address.proofs.NumberLaws.{fault_between}
use Rattle.slave_answers.specs.declared.OpeningFault.{OpeningFault}
use Rattle.slave_answers.specs.declared.Refusal.{Refusal}
use Rattle.slave_answers.specs.declared.Refusal.TheVariants.{AtOpening, InTelegram, OtherNode, OtherLength, VoidBroadcast}
use Rattle.slave_answers.specs.SlaveNumbers.{refusal_number}
use Rattle.opening.specs.Answers.{passed}
use Rattle.control.specs.Control.{void_in}
use Rattle.slave.specs.Slave.{Call, Outcome, opening_at, net_in, refused_of, normal_outcome, normal_case, mirror_outcome, mirror_case, taken_outcome, broadcast_case, execute_decoded, call_of}
use Rattle.slave.proofs.CaseLaws.{executed, called, normal_other_node, normal_other_length, normal_replied, mirror_other_node, mirror_sent, broadcast_other_length, broadcast_void, broadcast_taken}

abbrev is_passed : Result (Unit {0}) OpeningFault → Bool
is_passed (Ok done) = true
is_passed (Err fault) = false

not_closed : (f : OpeningFault) → passed ≡ Err f → ⊥
not_closed f e = false≢true (sym (ap is_passed e))

module _ (k : Call) where
  module _ (P : Outcome → Type 0) (refused : (r : Refusal) → refusal_number r < 20 → P (refused_of r k)) where
    normal_cases : (node n : ℕ) → (node ≡ k.setup.node → other_length k.setup n ≡ false → P (normal_outcome n k)) → P (normal_case node n k)
    normal_cases node n replied = go (other_node k.setup node) (other_length k.setup n) refl refl
      where
        go : (a b : Bool) → other_node k.setup node ≡ a → other_length k.setup n ≡ b → P (normal_case node n k)
        go true b e f = rw (normal_other_node node n k e) (refused OtherNode (lit< tt))
        go false true e f = rw (normal_other_length node n k e f) (refused OtherLength (lit< tt))
        go false false e f = rw (normal_replied node n k e f) (replied (own_node k.setup node e) f)

    mirror_cases : (node : ℕ) → (node ≡ k.setup.node → P (mirror_outcome k)) → P (mirror_case node k)
    mirror_cases node mirrored = go (other_node k.setup node) refl
      where
        go : (a : Bool) → other_node k.setup node ≡ a → P (mirror_case node k)
        go true e = rw (mirror_other_node node k e) (refused OtherNode (lit< tt))
        go false e = rw (mirror_sent node k e) (mirrored (own_node k.setup node e))

    broadcast_cases : (n : ℕ) → (other_length k.setup n ≡ false → void_in k.setup n k.received ≡ false → P (taken_outcome n k)) → P (broadcast_case n k)
    broadcast_cases n taken = go (other_length k.setup n) (void_in k.setup n k.received) refl refl
      where
        go : (a b : Bool) → other_length k.setup n ≡ a → void_in k.setup n k.received ≡ b → P (broadcast_case n k)
        go true b e f = rw (broadcast_other_length n k e) (refused OtherLength (lit< tt))
        go false true e f = rw (broadcast_void n k e f) (refused VoidBroadcast (lit< tt))
        go false false e f = rw (broadcast_taken n k e f) (taken e f)

  pub call_cases : (P : Outcome → Type 0)
      → ((r : Refusal) → (opening_at k ≡ passed → refusal_number r < 20) → P (refused_of r k))
      → (opening_at k ≡ passed → decoded_of k.received ≡ Ok (Normal k.setup.node 3 (last_of k.received)) → other_length k.setup (net_in k.received) ≡ false
      → P (normal_outcome (net_in k.received) k))
      → (opening_at k ≡ passed → decoded_of k.received ≡ Ok (Mirror k.setup.node) → P (mirror_outcome k))
      → (opening_at k ≡ passed → decoded_of k.received ≡ Ok Broadcast → other_length k.setup (net_in k.received) ≡ false
      → void_in k.setup (net_in k.received) k.received ≡ false → P (taken_outcome (net_in k.received) k))
      → P (call_of k)
  call_cases P refused replied mirrored taken = opened_at (opening_at k) refl
    where
      below : (r : Refusal) → refusal_number r < 20 → P (refused_of r k)
      below r b = refused r (λ o. b)

      decoded_at : opening_at k ≡ passed → (d : Result Telegram Fault) → decoded_of k.received ≡ d → P (execute_decoded d k)
      decoded_at o (Ok (Normal node start end)) e =
          let b = normal_bounds k.received node start end e in
          let net : end - start ≡ net_in k.received = omega (arith, b.0, b.1) in
          rw net (normal_cases P below node (net_in k.received) (λ n l. replied o (e ∙ rw (n, b.0, b.1)) l))
      decoded_at o (Ok (Mirror node)) e = mirror_cases P below node (λ n. mirrored o (e ∙ ap (λ (m : ℕ). Ok (Mirror m)) n))
      decoded_at o (Ok Broadcast) e = broadcast_cases P below (net_in k.received) (taken o e)
      decoded_at o (Err fault) e = refused (InTelegram fault) (λ p. omega (arith, (fault_between fault).1))

      opened_at : (o : Result (Unit {0}) OpeningFault) → opening_at k ≡ o → P (call_of k)
      opened_at (Err fault) e = rw (called k (Err fault) e) (refused (AtOpening fault) (λ p. absurd (not_closed fault (sym p ∙ e))))
      opened_at (Ok done) e = rw (called k passed e, executed k (decoded_of k.received) refl) (decoded_at e (decoded_of k.received) refl)
