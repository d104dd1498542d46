-- Which damage the frame check sees: the exact line, and what follows from it. Assumes nothing.
--     exact              damage passes the frame check exactly where it is unseen
--     odd_seen           a position flipped an odd number of times: refused
--     one_byte_seen      one wrong byte: refused
--     burst_seen         a burst within eight consecutive data bits: refused, whichever bit of a byte goes first
--     first_hit_seen     the first byte hit: refused
--     second_hit_seen    LGE hit: refused
--     long_promise       16 bytes received and LGE reading 254: 13
use mathlib.Core.Path.{◌≡◌, refl, sym, ap, ◌∙◌}
use mathlib.Core.List.{List}
use mathlib.Core.Logic.{◌↔◌}
use Prim.Native.Nat.{ℕ, ◌+◌, ◌*◌, ◌/◌, ◌%◌, ◌^◌, ◌<◌}
use native.Mathlib.Nat.{zero-div}
use native.Mathlib.Omega.{arith}
use borrow.Author.Tests.{le-ltb, eq-eqb, ne_eqb}
use lib.Bits.{bit_xor, xor_zero_r}
use lib.ListN.{length}
use Rattle.std.specs.Prelude.{Result, Ok, Err}
use Rattle.rows.specs.Bits.{bit}
use Rattle.words.specs.Words.{byte_at}
use Rattle.bcc.specs.Bcc.{xor_all}
use Rattle.frame.specs.Frame.{frame_of, is_sound}
use Rattle.frame.specs.declared.FrameFault.{FrameFault}
use Rattle.frame.proofs.NumberLaws.{frame_between}
use Rattle.bcc.proofs.XorLaws.{xor_all_lt, xor_fix, length_zip, get_or_zip, xor_zip}
use Rattle.frame.proofs.FrameLaws.{Counted, sound_framed, framed_sound, zero_of_check, check_of_zero}
use Rattle.claims_damage.specs.Damage.{damaged, Damage, flips, Passes, Refuses, Numbered, Unseen, Hit, OneByte, bit_at, Order, Burst}
use Rattle.claims_damage.proofs.Parity.{zero_digits, one_digit, digit_parity, single}

-- ---- the exact line

module _ (t f : List ℕ) (d : Damage t f) where
  -- the XOR of what is received is that of the flips
  xor_damaged : xor_all (damaged t f) ≡ xor_all f
  xor_damaged =
      let p = sound_framed t d.passes in
      xor_zip t f d.same ∙ ap (λ (x : ℕ). bit_xor x (xor_all f)) (zero_of_check t (omega arith) p.check)

  passing_unseen : Passes (damaged t f) → Unseen f
  passing_unseen h =
      let p = (sound_framed t d.passes).counted in
      let q = sound_framed (damaged t f) h in
      let n = length_zip t f d.same in
      let z : xor_all f ≡ 0 = sym xor_damaged ∙ zero_of_check (damaged t f) (omega (arith, q.counted.long)) q.check in
      record {
        first = xor_fix (byte_at t 0) (byte_at f 0) (sym (get_or_zip t f 0 d.same) ∙ q.counted.start ∙ sym p.start);
        second = omega (arith, xor_fix (byte_at t 1) (byte_at f 1) (sym (get_or_zip t f 1 d.same) ∙ omega (arith, p.count, q.counted.count, n)));
        even = λ k hk. sym (digit_parity k f) ∙ ap (λ (x : ℕ). bit k x) z ∙ ap (λ (x : ℕ). x % 2) (zero-div (2 ^ k));
      }

  pub kept : (i : ℕ) → byte_at f i ≡ 0 → byte_at (damaged t f) i ≡ byte_at t i
  kept i e = get_or_zip t f i d.same ∙ ap (λ (x : ℕ). bit_xor (byte_at t i) x) e ∙ xor_zero_r (byte_at t i)

  -- with the first two bytes spared the tests 10 to 13 go as before
  pub counted_kept : byte_at f 0 ≡ 0 → byte_at f 1 ≡ 0 → Counted (damaged t f)
  counted_kept first second =
      let p = (sound_framed t d.passes).counted in
      let n = length_zip t f d.same in
      let b1 = kept 1 second in
      record {
        long = omega (arith, p.long, n);
        start = kept 0 first ∙ p.start;
        low = omega (arith, b1, p.low);
        high = omega (arith, b1, p.high);
        count = omega (arith, b1, n, p.count);
      }

  unseen_passes : Unseen f → Passes (damaged t f)
  unseen_passes u =
      let c = counted_kept u.first u.second in
      let z : xor_all f ≡ 0 = zero_digits 8 (xor_all f) (xor_all_lt f d.bytes) (λ k hk. digit_parity k f ∙ u.even k hk) in
      ap is_sound (framed_sound (damaged t f)
      (record { counted = c; check = check_of_zero (damaged t f) (omega (arith, c.long)) (xor_damaged ∙ z) }))

pub exact : (t f : List ℕ) → Damage t f → Passes (damaged t f) ↔ Unseen f
exact t f d = (passing_unseen t f d, unseen_passes t f d)

-- ---- what does not pass is refused with 10 to 14

pub not_passing_refused : (t : List ℕ) → (Passes t → ⊥) → Refuses t
not_passing_refused t never = go (frame_of t) refl
  where
    go : (r : Result ℕ FrameFault) → frame_of t ≡ r → Refuses t
    go (Ok end) e = absurd (never (ap is_sound e))
    go (Err k) e = record { fault = k; answer = e; least = (frame_between k).0; most = (frame_between k).1 }

-- ---- what is always seen

zero_unless_one : (x : ℕ) → (x % 2 ≡ 1 → ⊥) → x % 2 ≡ 0
zero_unless_one x never = omega arith

pub odd_seen : (t f : List ℕ) → Damage t f → (k : ℕ) → k < 8 → flips k f % 2 ≡ 1 → Refuses (damaged t f)
odd_seen t f d k hk o = not_passing_refused (damaged t f) (λ h. omega (arith, ((exact t f d).0 h).even k hk))

pub one_byte_seen : (t f : List ℕ) → Damage t f → (i : ℕ) → OneByte f i → Refuses (damaged t f)
one_byte_seen t f d i w =
    let b = one_digit 8 (byte_at f i) (d.bytes i) w.wrong in
    let s : flips b.0 f ≡ 1 =
    single b.0 f i b.2 (λ j ne. ap (λ (x : ℕ). bit b.0 x) (w.rest j ne) ∙ ap (λ (x : ℕ). x % 2) (zero-div (2 ^ b.0))) in
    odd_seen t f d b.0 b.1 (ap (λ (x : ℕ). x % 2) s)

pub burst_seen : (t f : List ℕ) → Damage t f → (order : ℕ → ℕ) → Order order → (from : ℕ) → Burst order f from → Refuses (damaged t f)
burst_seen t f d order ordered from b =
    let p = b.place in
    let k = order (p % 8) in
    let s : flips k f ≡ 1 =
    single k f (p / 8) b.flip
    (λ j ne. zero_unless_one (byte_at f j / 2 ^ k)
    (λ (one : bit k (byte_at f j) ≡ 1).
    let q = j * 8 + p % 8 in
    let low : q % 8 ≡ p % 8 = omega arith in
    let high : q / 8 ≡ j = omega arith in
    let at : bit_at order f q ≡ 1 = rw (low, high) one in
    omega (arith, b.inside q at, b.inside p b.flip, ne))) in
    odd_seen t f d k (ordered (p % 8) (omega arith)) (ap (λ (x : ℕ). x % 2) s)

pub first_hit_seen : (t f : List ℕ) → Damage t f → Hit f 0 → Refuses (damaged t f)
first_hit_seen t f d w = not_passing_refused (damaged t f) (λ h. omega (arith, ((exact t f d).0 h).first))

pub second_hit_seen : (t f : List ℕ) → Damage t f → Hit f 1 → Refuses (damaged t f)
second_hit_seen t f d w = not_passing_refused (damaged t f) (λ h. omega (arith, ((exact t f d).0 h).second))

-- ---- a length byte that promises more than was received

pub long_promise : (t : List ℕ) → length t ≡ 16 → byte_at t 0 ≡ 2 → byte_at t 1 ≡ 254 → Numbered t 13
unfolding frame_of
long_promise t n s l =
    simp
    (le-ltb (length t) 5 (omega arith), eq-eqb _ _ s, le-ltb (byte_at t 1) 3 (omega arith), le-ltb 254 (byte_at t 1) (omega arith), ne_eqb (length t) (byte_at t 1 + 2) (λ e. omega arith))
