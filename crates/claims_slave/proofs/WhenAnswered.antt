-- When a slave call replies. Assumes nothing.
--     replied_exactly     it replies exactly to a sound normal telegram of its node and length, with a sound opening
--     mirrored_exactly    it mirrors exactly a sound mirror telegram of its node
--     taken_exactly       it takes exactly a broadcast of its length that is not void
use Prim.Native.Nat.{ℕ, ◌-◌}
use mathlib.Core.Path.{◌≡◌, refl, sym, ap, ◌∙◌}
use mathlib.Core.Logic.{◌↔◌}
use mathlib.Core.Bool.{false, false≢true}
use native.Mathlib.Omega.{arith}
use Rattle.std.specs.Prelude.{Ok}
use Rattle.setup.specs.SetupRules.{other_length}
use Rattle.setup.proofs.SetupLaws.{node_own}
use Rattle.frame.specs.Frame.{last_of}
use Rattle.address.specs.Address.{decoded_of}
use Rattle.address.specs.declared.Telegram.TheVariants.{Normal, Mirror, Broadcast}
use Rattle.slave_answers.specs.declared.Answer.TheVariants.{Replied, Mirrored, Taken}
use Rattle.slave_answers.specs.SlaveNumbers.{answer_number}
use Rattle.opening.specs.Answers.{passed}
use Rattle.control.specs.Control.{void_in}
use Rattle.slave.specs.Slave.{Call, Outcome, opening_at, net_in, normal_outcome, normal_case, mirror_outcome, taken_outcome, call_of}
use Rattle.slave.proofs.CaseLaws.{normal_replied, mirror_sent, broadcast_taken, executed, called}
use Rattle.claims_slave.specs.Outcomes.{is_refused}
use Rattle.claims_slave.proofs.Cases.{call_cases}

module _ (k : Call) where
  pub replied_call : opening_at k ≡ passed → decoded_of k.received ≡ Ok (Normal k.setup.node 3 (last_of k.received)) → other_length k.setup (net_in k.received) ≡ false
      → call_of k ≡ normal_outcome (net_in k.received) k
  replied_call p d l =
      let net : last_of k.received - 3 ≡ net_in k.received = omega arith in
      called k passed p ∙ executed k (Ok (Normal k.setup.node 3 (last_of k.received))) d ∙ ap (λ (n : ℕ). normal_case k.setup.node n k) net
      ∙ normal_replied k.setup.node (net_in k.received) k (node_own k.setup k.setup.node refl) l

  pub mirrored_call : opening_at k ≡ passed → decoded_of k.received ≡ Ok (Mirror k.setup.node) → call_of k ≡ mirror_outcome k
  mirrored_call p d =
      called k passed p ∙ executed k (Ok (Mirror k.setup.node)) d ∙ mirror_sent k.setup.node k (node_own k.setup k.setup.node refl)

  pub taken_call : opening_at k ≡ passed → decoded_of k.received ≡ Ok Broadcast → other_length k.setup (net_in k.received) ≡ false
      → void_in k.setup (net_in k.received) k.received ≡ false → call_of k ≡ taken_outcome (net_in k.received) k
  taken_call p d l v = called k passed p ∙ executed k (Ok Broadcast) d ∙ broadcast_taken (net_in k.received) k l v

  pub replied_exactly : ((call_of k).served.answer ≡ Ok Replied)
      ↔ ((opening_at k ≡ passed) × (decoded_of k.received ≡ Ok (Normal k.setup.node 3 (last_of k.received))) × (other_length k.setup (net_in k.received) ≡ false))
  replied_exactly = (
    call_cases k (λ o. o.served.answer ≡ Ok Replied
        → (opening_at k ≡ passed) × (decoded_of k.received ≡ Ok (Normal k.setup.node 3 (last_of k.received))) × (other_length k.setup (net_in k.received) ≡ false))
        (λ r b e. absurd (false≢true (sym (ap is_refused e))))
        (λ p d l e. (p, d, l))
        (λ p d e. absurd (omega (arith, ap answer_number e)))
        (λ p d l v e. absurd (omega (arith, ap answer_number e))),
    λ h. ap (λ (o : Outcome). o.served.answer) (replied_call h.0 h.1 h.2),
  )

  pub mirrored_exactly : ((call_of k).served.answer ≡ Ok Mirrored) ↔ ((opening_at k ≡ passed) × (decoded_of k.received ≡ Ok (Mirror k.setup.node)))
  mirrored_exactly = (
    call_cases k (λ o. o.served.answer ≡ Ok Mirrored → (opening_at k ≡ passed) × (decoded_of k.received ≡ Ok (Mirror k.setup.node)))
        (λ r b e. absurd (false≢true (sym (ap is_refused e))))
        (λ p d l e. absurd (omega (arith, ap answer_number e)))
        (λ p d e. (p, d))
        (λ p d l v e. absurd (omega (arith, ap answer_number e))),
    λ h. ap (λ (o : Outcome). o.served.answer) (mirrored_call h.0 h.1),
  )

  pub taken_exactly : ((call_of k).served.answer ≡ Ok Taken)
      ↔ ((opening_at k ≡ passed) × (decoded_of k.received ≡ Ok Broadcast) × (other_length k.setup (net_in k.received) ≡ false)
      × (void_in k.setup (net_in k.received) k.received ≡ false))
  taken_exactly = (
    call_cases k (λ o. o.served.answer ≡ Ok Taken
        → (opening_at k ≡ passed) × (decoded_of k.received ≡ Ok Broadcast) × (other_length k.setup (net_in k.received) ≡ false) × (void_in k.setup (net_in k.received) k.received ≡ false))
        (λ r b e. absurd (false≢true (sym (ap is_refused e))))
        (λ p d l e. absurd (omega (arith, ap answer_number e)))
        (λ p d e. absurd (omega (arith, ap answer_number e)))
        (λ p d l v e. (p, d, l, v)),
    λ h. ap (λ (o : Outcome). o.served.answer) (taken_call h.0 h.1 h.2 h.3),
  )
