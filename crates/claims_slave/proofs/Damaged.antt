-- Damage to a telegram at the slave call: with an opening check that passes, damage that the frame check sees is refused with
-- 10 to 14, and changes nothing; all other damage is past the frame check. Assumes nothing.
--     damaged_exactly                                                                        demand 3's passing half: past the frame check exactly where the damage is unseen
--     refused_exactly                                                                        refused in frame exactly where it is not
--     damaged_refused                                                                        any damage that is not unseen
--     odd_refused, one_byte_refused, burst_refused, first_hit_refused, second_hit_refused    its kinds
use Prim.Native.Nat.{ℕ, ◌%◌, ◌<◌}
use mathlib.Core.Path.{◌≡◌, refl, sym, ap, ◌∙◌}
use mathlib.Core.Logic.{◌↔◌, inl, inr}
use mathlib.Core.Bool.{Bool, true, false, false≢true}
use mathlib.Core.List.{List}
use native.Mathlib.Omega.{arith}
use Rattle.std.specs.Prelude.{Result, Err}
use Rattle.words.specs.Words.{byte_at}
use Rattle.frame.specs.Frame.{frame_of, is_sound}
use Rattle.frame.specs.declared.FrameFault.{FrameFault}
use Rattle.address.specs.Address.{decoded_from, decoded_of}
use Rattle.address.specs.declared.Fault.TheVariants.{InFrame}
use Rattle.frame.proofs.FrameLaws.{sound_framed}
use Rattle.opening.specs.Answers.{passed}
use Rattle.claims_damage.specs.Damage.{Refuses, damaged, Damage, flips, Unseen, Hit, OneByte, Order, Burst}
use Rattle.claims_damage.proofs.Seen.{exact, not_passing_refused, odd_seen, one_byte_seen, burst_seen, first_hit_seen, second_hit_seen}
use Rattle.slave.specs.Slave.{Call, receiving, Outcome, opening_at, call_of}
use Rattle.slave.proofs.CaseLaws.{executed, called}
use Rattle.claims_slave.specs.Outcomes.{FrameRefused, PastFrame}
use Rattle.claims_slave.proofs.AnswerTable.{beyond_frame}

-- no call is refused in frame and past the frame check
not_both : (o : Outcome) (k : Call) → FrameRefused o k → PastFrame o → ⊥
not_both o k r (inl h) = omega (arith, r.least)
not_both o k r (inr h) = omega (arith, r.most)

module _ (k : Call) where
  -- what the frame check refuses, the call does
  pub frame_refused : opening_at k ≡ passed → (rx : List ℕ) → Refuses rx → FrameRefused (call_of (receiving k rx)) k
  frame_refused p rx r =
      let d : decoded_of rx ≡ Err (InFrame r.fault) = ap (λ (x : Result ℕ FrameFault). decoded_from x (byte_at rx 2)) r.answer in
      rw (called (receiving k rx) passed p, executed (receiving k rx) (Err (InFrame r.fault)) d)
      (record {
        refused = refl;
        least = r.least;
        most = r.most;
        untouched = record { silent = refl; held = refl; memory_stays = refl; buffer_stays = refl };
      })

  pub damaged_refused : (t f : List ℕ) → opening_at k ≡ passed → Damage t f → (Unseen f → ⊥)
      → FrameRefused (call_of (receiving k (damaged t f))) k
  damaged_refused t f p d never = frame_refused p (damaged t f) (not_passing_refused (damaged t f) (λ h. never ((exact t f d).0 h)))

  unseen_beyond : (t f : List ℕ) → opening_at k ≡ passed → Damage t f → Unseen f
      → PastFrame (call_of (receiving k (damaged t f)))
  unseen_beyond t f p d u = beyond_frame (receiving k (damaged t f)) p (sound_framed (damaged t f) ((exact t f d).1 u))

  -- demand 3's passing half: "It passes the frame check exactly when the first two bytes are spared and every position is flipped
  -- an even number of times". It also shuts out the slave that refuses everything in frame.
  pub damaged_exactly : (t f : List ℕ) → opening_at k ≡ passed → Damage t f
      → PastFrame (call_of (receiving k (damaged t f))) ↔ Unseen f
  damaged_exactly t f p d = (λ b. go b (is_sound (frame_of (damaged t f))) refl, unseen_beyond t f p d)
    where
      go : PastFrame (call_of (receiving k (damaged t f))) → (b : Bool) → is_sound (frame_of (damaged t f)) ≡ b → Unseen f
      go past true e = (exact t f d).0 e
      go past false e =
          let r = frame_refused p (damaged t f) (not_passing_refused (damaged t f) (λ h. false≢true (sym e ∙ h))) in
          absurd (not_both (call_of (receiving k (damaged t f))) k r past)

  pub refused_exactly : (t f : List ℕ) → opening_at k ≡ passed → Damage t f
      → FrameRefused (call_of (receiving k (damaged t f))) k ↔ (Unseen f → ⊥)
  refused_exactly t f p d = (
    λ r u. not_both (call_of (receiving k (damaged t f))) k r (unseen_beyond t f p d u),
    damaged_refused t f p d,
  )

  pub odd_refused : (t f : List ℕ) → opening_at k ≡ passed → Damage t f → (i : ℕ) → i < 8 → flips i f % 2 ≡ 1
      → FrameRefused (call_of (receiving k (damaged t f))) k
  odd_refused t f p d i h o = frame_refused p (damaged t f) (odd_seen t f d i h o)

  pub one_byte_refused : (t f : List ℕ) → opening_at k ≡ passed → Damage t f → (i : ℕ) → OneByte f i
      → FrameRefused (call_of (receiving k (damaged t f))) k
  one_byte_refused t f p d i w = frame_refused p (damaged t f) (one_byte_seen t f d i w)

  pub burst_refused : (t f : List ℕ) → opening_at k ≡ passed → Damage t f → (order : ℕ → ℕ) → Order order → (from : ℕ) → Burst order f from
      → FrameRefused (call_of (receiving k (damaged t f))) k
  burst_refused t f p d order ordered from b = frame_refused p (damaged t f) (burst_seen t f d order ordered from b)

  pub first_hit_refused : (t f : List ℕ) → opening_at k ≡ passed → Damage t f → Hit f 0
      → FrameRefused (call_of (receiving k (damaged t f))) k
  first_hit_refused t f p d w = frame_refused p (damaged t f) (first_hit_seen t f d w)

  pub second_hit_refused : (t f : List ℕ) → opening_at k ≡ passed → Damage t f → Hit f 1
      → FrameRefused (call_of (receiving k (damaged t f))) k
  second_hit_refused t f p d w = frame_refused p (damaged t f) (second_hit_seen t f d w)
