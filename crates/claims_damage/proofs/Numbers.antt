-- Which number damage is refused with; said by number, so that what a fault carries does not show here. Assumes nothing.
--     first_hit_11        11 where the first byte is hit
--     second_hit_12_13    12 or 13 where LGE is, and the first byte is not
--     rest_hit_14         14 where both are spared and the damage is seen
use mathlib.Core.Path.{◌≡◌, refl, sym, ap, ◌∙◌}
use mathlib.Core.Logic.{◌⊎◌, inl, inr}
use mathlib.Core.Bool.{Bool, true, false, ◌||◌}
use mathlib.Core.List.{List}
use Prim.Native.Nat.{ℕ, ◌+◌}
use native.Mathlib.Omega.{arith}
use borrow.Author.Tests.{le-ltb, eq-eqb, ne_eqb}
use lib.Dec.{ltb}
use lib.ListN.{length}
use Rattle.words.specs.Words.{byte_at}
use Rattle.frame.specs.Frame.{frame_of, check_number, is_sound}
use Rattle.bcc.proofs.XorLaws.{xor_fix, length_zip, get_or_zip}
use Rattle.frame.proofs.FrameLaws.{Counted, sound_framed, framed_sound, check_wrong}
use Rattle.claims_damage.specs.Damage.{damaged, Damage, Unseen, Hit, Numbered}
use Rattle.claims_damage.proofs.Seen.{kept, counted_kept, exact}

module _ (t f : List ℕ) (d : Damage t f) where
  counted : Counted t
  counted = (sound_framed t d.passes).counted

  long : length (damaged t f) ≡ length t
  long = length_zip t f d.same

  -- a byte that is hit is another one
  other : (i : ℕ) → Hit f i → byte_at (damaged t f) i ≡ byte_at t i → ⊥
  other i h e = omega (arith, xor_fix (byte_at t i) (byte_at f i) (sym (get_or_zip t f i d.same) ∙ e))

  pub first_hit_11 : Hit f 0 → Numbered (damaged t f) 11
  unfolding frame_of
  first_hit_11 h =
      simp
      (le-ltb (length (damaged t f)) 5 (omega (arith, long, counted.long)), ne_eqb (byte_at (damaged t f) 0) 2 (λ e. other 0 h (e ∙ sym counted.start)))

  pub second_hit_12_13 : byte_at f 0 ≡ 0 → Hit f 1 → Numbered (damaged t f) 12 ⊎ Numbered (damaged t f) 13
  unfolding frame_of
  second_hit_12_13 z h = go (ltb (byte_at (damaged t f) 1) 3 || ltb 254 (byte_at (damaged t f) 1)) refl
    where
      go : (b : Bool) → (ltb (byte_at (damaged t f) 1) 3 || ltb 254 (byte_at (damaged t f) 1)) ≡ b
          → Numbered (damaged t f) 12 ⊎ Numbered (damaged t f) 13
      go true e =
          inl (simp (le-ltb (length (damaged t f)) 5 (omega (arith, long, counted.long)), eq-eqb (byte_at (damaged t f) 0) 2 (kept t f d 0 z ∙ counted.start), e))
      go false e =
          inr (simp (
            le-ltb (length (damaged t f)) 5 (omega (arith, long, counted.long)),
            eq-eqb (byte_at (damaged t f) 0) 2 (kept t f d 0 z ∙ counted.start),
            e,
            ne_eqb (length (damaged t f)) (byte_at (damaged t f) 1 + 2) (λ q. other 1 h (omega (arith, long, counted.count))),
          ))

  pub rest_hit_14 : byte_at f 0 ≡ 0 → byte_at f 1 ≡ 0 → (Unseen f → ⊥) → Numbered (damaged t f) 14
  rest_hit_14 z y seen =
      let c = counted_kept t f d z y in
      ap check_number (check_wrong (damaged t f) c (λ e. seen ((exact t f d).0 (ap is_sound (framed_sound (damaged t f) (record { counted = c; check = e }))))))
