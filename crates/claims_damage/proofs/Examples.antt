-- The examples of docs/DAMAGE.md: a telegram that passes, and flips that the frame check cannot see or must see. Assumes nothing.
--     sent_passes, examples_hold     the table of examples
--     unseen_read_lem                what is received and passes is read as a normal telegram
--     unseen_damage, unseen_flips    damage that is unseen
--     byte_damage, byte_wrong        damage of one byte
--     burst_damage, burst_flips      a burst of eight, lowest bit first
--     hit_damage, first_flipped      damage that hits the first byte
use mathlib.Core.Path.{◌≡◌, refl, sym, ap, ◌∙◌}
use mathlib.Core.Bool.{Bool, true, ◌&&◌}
use mathlib.Core.List.{List, [], ◌∷◌, map, zip_with}
use Prim.Native.Nat.{ℕ, zero, suc, ◌+◌, ◌*◌, ◌-◌, ◌/◌, ◌%◌, ◌^◌, ◌≤◌, ◌<◌}
use native.Mathlib.Nat.{zero-div}
use native.Mathlib.Omega.{arith}
use borrow.Author.Tests.{ltb-true}
use lib.Dec.{ltb, lit<}
use lib.ListN.{length}
use Rattle.std.specs.Prelude.{Result}
use Rattle.rows.specs.Bits.{bit}
use Rattle.rows.proofs.BoolLaws.{and_left, and_right}
use Rattle.rows.proofs.RangeLaws.{between}
use Rattle.words.specs.Words.{byte_at, Bytes}
use Rattle.bcc.specs.Bcc.{xor_all}
use Rattle.frame.specs.Frame.{frame_of, is_sound}
use Rattle.address.specs.Address.{address_of, decoded_of}
use Rattle.address.specs.declared.Telegram.{Telegram}
use Rattle.address.specs.declared.Fault.{Fault}
use Rattle.claims_damage.specs.Damage.{Passes, damaged, Damage, flips, Unseen, Hit, OneByte, Order, Burst}
use Rattle.claims_damage.specs.Examples.{sent, twice, wrong_byte, eight_bits, first_byte, examples, passing, unseen_read}

pub sent_passes : Passes sent
unfolding frame_of xor_all
sent_passes = refl

pub examples_hold : map (λ (x : List ℕ × Bool). is_sound (frame_of (damaged sent x.0))) examples ≡ map (λ (x : List ℕ × Bool). x.1) examples
unfolding frame_of xor_all zip_with
examples_hold = refl

-- the telegrams that are read below are the examples that pass
pub unseen_received : map (λ (x : List ℕ × Bool). damaged sent x.0) (passing examples) ≡ map (λ (x : List ℕ × Result Telegram Fault). x.0) unseen_read
unfolding zip_with
unseen_received = refl

pub unseen_read_lem : map (λ (x : List ℕ × Result Telegram Fault). decoded_of x.0) unseen_read ≡ map (λ (x : List ℕ × Result Telegram Fault). x.1) unseen_read
unfolding frame_of xor_all address_of
unseen_read_lem = refl

-- ---- there is damage of each kind: values of the records that the theorems take

all_bytes : List ℕ → Bool
all_bytes [] = true
all_bytes (x ∷ xs) = ltb x 256 && all_bytes xs

-- a list whose elements are all below 256 has bytes at all places, zeros past its end
bytes_of : (f : List ℕ) → all_bytes f ≡ true → Bytes f
unfolding all_bytes
bytes_of [] e i = lit< tt
bytes_of (x ∷ xs) e zero = ltb-true x 256 (and_left (ltb x 256) (all_bytes xs) e)
bytes_of (x ∷ xs) e (suc i) = bytes_of xs (and_right (ltb x 256) (all_bytes xs) e) i

-- flips of bytes, as many as the telegram has, are damage to it
sent_damage : (f : List ℕ) → all_bytes f ≡ true → length sent ≡ length f → Damage sent f
unfolding frame_of xor_all
sent_damage f b n = record { passes = refl; bytes = bytes_of f b; same = n }

pub unseen_damage : Damage sent twice
unfolding all_bytes
unseen_damage = sent_damage twice refl refl

pub unseen_flips : Unseen twice
unfolding flips
unseen_flips = record {
  first = refl;
  second = omega arith;
  even = λ k h. between (λ k. flips k twice % 2 ≡ 0) 8 0 (refl, (refl, (refl, (refl, (refl, (refl, (refl, (refl, tt)))))))) k (omega arith) (omega arith);
}

pub byte_damage : Damage sent wrong_byte
unfolding all_bytes
byte_damage = sent_damage wrong_byte refl refl

pub byte_wrong : OneByte wrong_byte 3
byte_wrong = record { wrong = lit< tt; rest = rest }
  where
    rest : (j : ℕ) → (j ≡ 3 → ⊥) → byte_at wrong_byte j ≡ 0
    rest zero ne = refl
    rest (suc zero) ne = refl
    rest (suc (suc zero)) ne = refl
    rest (suc (suc (suc zero))) ne = absurd (ne refl)
    rest (suc (suc (suc (suc zero)))) ne = refl
    rest (suc (suc (suc (suc (suc zero))))) ne = refl
    rest (suc (suc (suc (suc (suc (suc j)))))) ne = refl

-- lowest bit first, as a UART sends them
abbrev pub lowest_first : ℕ → ℕ
lowest_first k = k

pub lowest_order : Order lowest_first
lowest_order k h = h

pub burst_damage : Damage sent eight_bits
unfolding all_bytes
burst_damage = sent_damage eight_bits refl refl

no_bit : (k : ℕ) → bit k 0 ≡ 1 → ⊥
no_bit k e = omega (arith, ap (λ (x : ℕ). x % 2) (zero-div (2 ^ k)))

-- the bits of 0xF0 from 4 on are set, and those of 0x0F before 4
four_set : (k : ℕ) → k < 8 → (bit k 0xF0 ≡ k / 4) × (bit k 0x0F ≡ 1 - k / 4)
four_set k h =
    between (λ k. (bit k 0xF0 ≡ k / 4) × (bit k 0x0F ≡ 1 - k / 4)) 8 0
    ((refl, refl), ((refl, refl), ((refl, refl), ((refl, refl), ((refl, refl), ((refl, refl), ((refl, refl), ((refl, refl), tt))))))))
    k (omega arith) (omega arith)

within : (j k : ℕ) → k < 8 → bit k (byte_at eight_bits j) ≡ 1 → (28 ≤ j * 8 + k) × (j * 8 + k < 36)
within zero k h e = absurd (no_bit k e)
within (suc zero) k h e = absurd (no_bit k e)
within (suc (suc zero)) k h e = absurd (no_bit k e)
within (suc (suc (suc zero))) k h e = let l : k / 4 ≡ 1 = sym (four_set k h).0 ∙ e in (omega arith, omega arith)
within (suc (suc (suc (suc zero)))) k h e = let l : 1 - k / 4 ≡ 1 = sym (four_set k h).1 ∙ e in (omega arith, omega arith)
within (suc (suc (suc (suc (suc zero))))) k h e = absurd (no_bit k e)
within (suc (suc (suc (suc (suc (suc j)))))) k h e = absurd (no_bit k e)

pub burst_flips : Burst lowest_first eight_bits 28
burst_flips = record {
  place = 28;
  flip = refl;
  inside = λ q e.
      let w = within (q / 8) (q % 8) (omega arith) e in
      (omega (arith, w.0), omega (arith, w.1));
}

pub hit_damage : Damage sent first_byte
unfolding all_bytes
hit_damage = sent_damage first_byte refl refl

pub first_flipped : Hit first_byte 0
first_flipped = lit< tt
