-- Two's complement: how large a signed word is; worked numbers. Assumes nothing.
use Prim.Native.Nat.{ℕ, suc, ◌-◌, ◌%◌, ◌^◌, ◌<◌, ◌≤◌}
use mathlib.Core.Path.{◌≡◌, refl}
use mathlib.Core.Bool.{Bool, true, false}
use mathlib.Core.List.{[], ◌∷◌, map}
use native.Mathlib.Omega.{arith}
use borrow.Author.Tests.{le-ltb, ltb-true, ltb-false}
use lib.Dec.{ltb}
use lib.IntN.{pos, negsuc, nat_abs}
use lib.Signed.{mag, nat_abs-le}
use mir.Syntax.{Width, w16}
use mir.Val.{to_z, bits, hbits}
use mir.ValLaws.{to_z_pos}
use Rattle.signs.specs.Signs.{signed_of}

-- the upper half
to_z_high : (w : Width) (x : ℕ) → 2 ^ hbits w ≤ x → to_z w x ≡ negsuc (2 ^ bits w - suc x)
to_z_high w x h = simp (le-ltb _ _ h)

module _ (x : ℕ) (h : x < 65536) where
  word_mag : mag (to_z w16 x) < 32768
  word_mag = go (ltb x 32768) refl
    where
      go : (b : Bool) → ltb x 32768 ≡ b → mag (to_z w16 x) < 32768
      go true e = let l = ltb-true x 32768 e in rw (to_z_pos w16 x l) l
      go false e = let g = ltb-false x 32768 e in rw (to_z_high w16 x g) (omega arith)

-- how large a signed word can be: -32768 is the largest in size
pub word_small : (x : ℕ) → nat_abs (signed_of false x) ≤ 32768
unfolding signed_of
word_small x = nat_abs-le (to_z w16 (x % 65536)) (word_mag (x % 65536) (omega arith))

-- -100, -1 and the ends of both widths
pub signed_words : map (signed_of false) (0xff9c ∷ 0xffff ∷ 0 ∷ 0x7fff ∷ 0x8000 ∷ []) ≡ negsuc 99 ∷ negsuc 0 ∷ pos 0 ∷ pos 32767 ∷ negsuc 32767 ∷ []
unfolding signed_of
signed_words = refl

pub signed_doubles : map (signed_of true) (0xffff_ff9c ∷ 0xffff_ffff ∷ 0 ∷ 0x7fff_ffff ∷ 0x8000_0000 ∷ []) ≡ negsuc 99 ∷ negsuc 0 ∷ pos 0 ∷ pos 2147483647 ∷ negsuc 2147483647 ∷ []
unfolding signed_of
signed_doubles = refl
