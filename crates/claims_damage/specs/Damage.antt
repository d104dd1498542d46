-- Damage to a telegram: bits changed, the byte count not. A pattern f has a byte for each byte of the telegram t,
-- and a 1 in it for each bit that is flipped.
--     Passes t, Refuses t    the frame check finds no fault; it finds one, numbered 10 to 14
--     Numbered t n           it finds the fault that has number n
--     damaged t f            what is received where t was sent
--     Damage t f             t passes the frame check, and f is a pattern of flips of the same byte count
--     flips k f              how many bytes have the bit at position k flipped
--     Unseen f               the first two bytes are spared, and every position is flipped an even number of times
--     Hit f i                a bit of the byte at place i is flipped
--     OneByte f i            the byte at place i is wrong, and no other
--     Burst order f from     some bits are flipped, and all of them within eight consecutive data bits
use Rattle.std.specs.Prelude.{ℕ, ◌+◌, ◌/◌, ◌%◌, ◌≤◌, ◌<◌, ◌≡◌, true, length, Err}
use mathlib.Core.List.{List, [], ◌∷◌, zip_with}
use Rattle.std.specs.Int.Bits.{bit_xor}
use Rattle.rows.specs.Bits.{bit}
use Rattle.words.specs.Words.{byte_at, Bytes}
use Rattle.frame.specs.Frame.{frame_of, is_sound, frame_number, check_number}
use Rattle.frame.specs.declared.FrameFault.{FrameFault}

abbrev pub Passes : List ℕ → Type 0
Passes t = is_sound (frame_of t) ≡ true

pub record Refuses (t : List ℕ) : Type 0 where
  pub fault : FrameFault
  pub answer : frame_of t ≡ Err fault
  pub least : 10 ≤ frame_number fault
  pub most : frame_number fault ≤ 14

abbrev pub Numbered : List ℕ → ℕ → Type 0
Numbered t n = check_number (frame_of t) ≡ n

abbrev pub damaged : List ℕ → List ℕ → List ℕ
damaged t f = zip_with bit_xor t f

pub record Damage (t f : List ℕ) : Type 0 where
  pub passes : Passes t
  pub bytes : Bytes f
  pub same : length t ≡ length f

unfoldable pub flips : ℕ → List ℕ → ℕ
flips k [] = 0
flips k (x ∷ xs) = bit k x + flips k xs

pub record Unseen (f : List ℕ) : Type 0 where
  pub first : byte_at f 0 ≡ 0
  pub second : byte_at f 1 ≡ 0
  pub even : (k : ℕ) → k < 8 → flips k f % 2 ≡ 0

abbrev pub Hit : List ℕ → ℕ → Type 0
Hit f i = 0 < byte_at f i

pub record OneByte (f : List ℕ) (i : ℕ) : Type 0 where
  pub wrong : Hit f i
  pub rest : (j : ℕ) → (j ≡ i → ⊥) → byte_at f j ≡ 0

-- the data bit at place p of the wire, where `order` says which bit of a byte is sent first, second and so on
abbrev pub bit_at : (ℕ → ℕ) → List ℕ → ℕ → ℕ
bit_at order f p = bit (order (p % 8)) (byte_at f (p / 8))

-- which bit is sent when: any choice of one of a byte's eight bits for each of the eight places, so every order of them; lowest bit
-- first, as a UART sends them, and highest bit first are two
abbrev pub Order : (ℕ → ℕ) → Type 0
Order order = (k : ℕ) → k < 8 → order k < 8

pub record Burst (order : ℕ → ℕ) (f : List ℕ) (from : ℕ) : Type 0 where
  pub place : ℕ
  pub flip : bit_at order f place ≡ 1
  pub inside : (q : ℕ) → bit_at order f q ≡ 1 → (from ≤ q) × (q < from + 8)
