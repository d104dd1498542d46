-- The XOR of a list of bytes, taken over double words of four of them. Assumes nothing.
use mathlib.Core.Path.{◌≡◌, sym, ap, ◌∙◌}
use mathlib.Core.Logic.{◌⊎◌, inl, inr}
use mathlib.Core.List.{List}
use Prim.Native.Nat.{ℕ, ◌+◌, ◌*◌, ◌-◌, ◌/◌, ◌%◌, ◌^◌, ◌≤◌, ◌<◌}
use native.Mathlib.Numerals.{add-one}
use native.Mathlib.Omega.{arith}
use lib.Bits.{bit_xor, xor_lt, xor_shr, xor_mod, xor_self, xor_zero_r}
use lib.ListN.{length, take}
use lib.Seq.{take-suc, take-length}
use Rattle.words.specs.Words.{byte_at, word_of, double_of, Bytes}
use Rattle.bcc.specs.Bcc.{xor_all}
use Rattle.bcc.proofs.XorLaws.{xor_assoc, xor_snoc, medial}

-- ---- the bytes of a double word

-- the XOR of a number's k lowest binary digits and of the rest
abbrev pub halved : ℕ → ℕ → ℕ
halved k x = bit_xor (x % 2 ^ k) (x / 2 ^ k)

-- the XOR of a double word's four bytes
abbrev pub folded : ℕ → ℕ
folded x = halved 8 (halved 16 x)

halved_xor : (k a b : ℕ) → halved k (bit_xor a b) ≡ bit_xor (halved k a) (halved k b)
halved_xor k a b = rw (xor_mod a b k, xor_shr a b k) (medial (a % 2 ^ k) (b % 2 ^ k) (a / 2 ^ k) (b / 2 ^ k))

folded_xor : (a b : ℕ) → folded (bit_xor a b) ≡ bit_xor (folded a) (folded b)
folded_xor a b = ap (halved 8) (halved_xor 16 a b) ∙ halved_xor 8 (halved 16 a) (halved 16 b)

halved_word : (h l : ℕ) → l < 256 → halved 8 (word_of h l) ≡ bit_xor l h
halved_word h l b =
    let e : word_of h l % 256 ≡ l = omega arith in
    let f : word_of h l / 256 ≡ h = omega arith in
    rw (e, f)

folded_double : (h l : ℕ) → l < 65536 → folded (double_of h l) ≡ bit_xor (halved 8 l) (halved 8 h)
folded_double h l b =
    let e : double_of h l % 65536 ≡ l = omega arith in
    let f : double_of h l / 65536 ≡ h = omega arith in
    rw (e, f) (halved_xor 8 l h)

folded_word : (h l : ℕ) → h < 256 → l < 256 → folded (word_of h l) ≡ bit_xor l h
folded_word h l a b =
    let e : word_of h l ≡ double_of 0 (word_of h l) = omega arith in
    ap folded e ∙ folded_double 0 (word_of h l) (omega arith) ∙ xor_zero_r (halved 8 (word_of h l)) ∙ halved_word h l b

folded_byte : (x : ℕ) → x < 256 → folded x ≡ x
folded_byte x b =
    let e : x ≡ word_of 0 x = omega arith in
    ap folded e ∙ folded_word 0 x (omega arith) b ∙ xor_zero_r x

pub folded_lt : (x : ℕ) → x < 4294967296 → folded x < 256
folded_lt x h =
    let b : halved 16 x < 65536 = xor_lt 16 (x % 65536) (x / 65536) (omega arith) (omega arith) in
    xor_lt 8 (halved 16 x % 256) (halved 16 x / 256) (omega arith) (omega arith)

-- y is x with z mixed in where the test holds, and x where it does not
abbrev pub Mixed : Type 0 → ℕ → ℕ → ℕ → Type 0
Mixed test x z y = (test × (y ≡ bit_xor x z)) ⊎ ((test → ⊥) × (y ≡ x))

-- ---- the XOR of the first k bytes

abbrev pub up_to : List ℕ → ℕ → ℕ
up_to t k = xor_all (take k t)

-- four bytes as the code has them
abbrev pub four_at : List ℕ → ℕ → ℕ
four_at t k = double_of (word_of (byte_at t (k + 3)) (byte_at t (k + 2))) (word_of (byte_at t (k + 1)) (byte_at t k))

-- the XOR of the first k bytes, and of k bytes from place m on
abbrev pub halves : List ℕ → ℕ → ℕ → ℕ
halves t m k = bit_xor (up_to t k) (bit_xor (up_to t m) (up_to t (m + k)))

pub halves_none : (t : List ℕ) (m : ℕ) → halves t m 0 ≡ 0
unfolding xor_all
halves_none t m =
    let e : m + 0 ≡ m = omega arith in
    rw e (xor_self (up_to t m))

halves_all : (t : List ℕ) (m : ℕ) → halves t m m ≡ up_to t (m + m)
halves_all t m = sym (xor_assoc (up_to t m) (up_to t m) (up_to t (m + m))) ∙ rw (xor_self (up_to t m))

module _ (t : List ℕ) (bytes : Bytes t) where
  one_more : (k : ℕ) → k < length t → up_to t (k + 1) ≡ bit_xor (up_to t k) (byte_at t k)
  one_more k h = rw add-one (ap xor_all (take-suc t k 0 h) ∙ xor_snoc (take k t) (byte_at t k))

  two_more : (k : ℕ) → k + 2 ≤ length t → up_to t (k + 2) ≡ bit_xor (up_to t k) (bit_xor (byte_at t k) (byte_at t (k + 1)))
  two_more k h =
      let e : k + 2 ≡ k + 1 + 1 = omega arith in
      rw (e, one_more (k + 1) (omega arith), one_more k (omega arith)) (xor_assoc (up_to t k) (byte_at t k) (byte_at t (k + 1)))

  four_more : (k : ℕ) → k + 4 ≤ length t → up_to t (k + 4) ≡ bit_xor (up_to t k) (folded (four_at t k))
  four_more k h =
      let e : k + 4 ≡ k + 2 + 2 = omega arith in
      let f : k + 2 + 1 ≡ k + 3 = omega arith in
      let d = folded_double (word_of (byte_at t (k + 3)) (byte_at t (k + 2))) (word_of (byte_at t (k + 1)) (byte_at t k)) (omega (arith, bytes (k + 1), bytes k)) in
      rw (e, two_more (k + 2) (omega arith), two_more k (omega arith), f, d, halved_word (byte_at t (k + 3)) (byte_at t (k + 2)) (bytes (k + 2)), halved_word (byte_at t (k + 1)) (byte_at t k) (bytes k))
      (xor_assoc (up_to t k) (bit_xor (byte_at t k) (byte_at t (k + 1))) (bit_xor (byte_at t (k + 2)) (byte_at t (k + 3))))

  -- four more of each of two parts of m double words
  pub halves_more : (x m i : ℕ) → i < m → m * 8 ≤ length t → folded x ≡ halves t (m * 4) (i * 4)
      → folded (bit_xor x (bit_xor (four_at t (i * 4)) (four_at t ((m + i) * 4)))) ≡ halves t (m * 4) ((i + 1) * 4)
  halves_more x m i b h e =
      let k = i * 4 in
      let f : (m + i) * 4 ≡ m * 4 + k = omega arith in
      let g : (i + 1) * 4 ≡ k + 4 = omega arith in
      let u : m * 4 + (k + 4) ≡ m * 4 + k + 4 = omega arith in
      rw (f, g, folded_xor x (bit_xor (four_at t k) (four_at t (m * 4 + k))), e, folded_xor (four_at t k) (four_at t (m * 4 + k)), u, four_more k (omega arith), four_more (m * 4 + k) (omega arith))
      (medial (up_to t k) (bit_xor (up_to t (m * 4)) (up_to t (m * 4 + k))) (folded (four_at t k)) (folded (four_at t (m * 4 + k)))
      ∙ ap (λ (r : ℕ). bit_xor (bit_xor (up_to t k) (folded (four_at t k))) r) (xor_assoc (up_to t (m * 4)) (up_to t (m * 4 + k)) (folded (four_at t (m * 4 + k)))))

  -- a double word that has the first k bytes has the first m after a test that mixes in the d between, where there are any
  more_mixed : {test : Type 0} (d x z y k m : ℕ) → Mixed test x z y → folded x ≡ up_to t k → (test → up_to t (k + d) ≡ bit_xor (up_to t k) (folded z))
      → (test → k + d ≡ m) → ((test → ⊥) → k ≡ m) → folded y ≡ up_to t m
  more_mixed d x z y k m (inl w) e f g h = ap folded w.1 ∙ folded_xor x z ∙ rw e (sym (f w.0)) ∙ ap (up_to t) (g w.0)
  more_mixed d x z y k m (inr w) e f g h = ap folded w.1 ∙ e ∙ ap (up_to t) (h w.0)

  -- the tests after the loop: four, two and one byte
  pub all_mixed : (x i a b c : ℕ) → i ≡ length t / 8 → folded x ≡ halves t (length t / 8 * 4) (i * 4)
      → Mixed (length t / 4 % 2 ≡ 1) x (four_at t (length t / 8 * 8)) a
      → Mixed (length t / 2 % 2 ≡ 1) a (word_of (byte_at t (length t / 4 * 4 + 1)) (byte_at t (length t / 4 * 4))) b
      → Mixed (length t % 2 ≡ 1) b (byte_at t (length t - 1)) c → folded c ≡ xor_all t
  all_mixed x i a b c p e four two one =
      let n = length t in
      let m = n / 8 * 4 in
      let k = n / 4 * 4 in
      let z : m + m ≡ n / 8 * 8 = omega arith in
      let s8 = e ∙ rw p (halves_all t m) ∙ ap (up_to t) z in
      let s4 = more_mixed 4 x (four_at t (n / 8 * 8)) a (n / 8 * 8) k four s8 (λ o. four_more (n / 8 * 8) (omega arith)) (λ o. omega arith) (λ o. omega arith) in
      let s2 = more_mixed 2 a (word_of (byte_at t (k + 1)) (byte_at t k)) b k (n / 2 * 2) two s4 (λ o. rw (folded_word (byte_at t (k + 1)) (byte_at t k) (bytes (k + 1)) (bytes k)) (two_more k (omega arith))) (λ o. omega arith) (λ o. omega arith) in
      let s1 = more_mixed 1 b (byte_at t (n - 1)) c (n / 2 * 2) n one s2 (λ o. let q : n - 1 ≡ n / 2 * 2 = omega arith in rw (q, folded_byte (byte_at t (n / 2 * 2)) (bytes (n / 2 * 2))) (one_more (n / 2 * 2) (omega arith))) (λ o. omega arith) (λ o. omega arith) in
      s1 ∙ ap xor_all (take-length t)
