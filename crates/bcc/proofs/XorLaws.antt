-- Laws of XOR on numbers, by their binary digits, and of the XOR of a list. Assumes nothing.
use mathlib.Core.Path.{◌≡◌, refl, sym, ap, ◌∙◌}
use mathlib.Core.List.{List, [], ◌∷◌, ◌++◌, zip_with}
use Prim.Native.Nat.{ℕ, zero, suc, ◌+◌, ◌*◌, ◌/◌, ◌%◌, ◌^◌, ◌<◌}
use native.Mathlib.Omega.{arith}
use lib.Arith.{bin_ind}
use lib.Bits.{bit_xor, bit_and, xor_add_and, xor_shr, xor_zero_r, xor_self, xor_comm, xor_lt}
use lib.ListN.{length, get_or}
use Rattle.bcc.specs.Bcc.{xor_all}

-- ---- digits

-- two numbers are equal where their halves and their lowest digits are
same_digits : (x y : ℕ) → x / 2 ≡ y / 2 → x % 2 ≡ y % 2 → x ≡ y
same_digits x y h l = omega arith

xor_low : (a b : ℕ) → bit_xor a b % 2 ≡ (a + b) % 2
xor_low a b = omega (arith, xor_add_and a b)

xor_half : (a b : ℕ) → bit_xor a b / 2 ≡ bit_xor (a / 2) (b / 2)
xor_half a b = xor_shr a b 1

-- digit k of a XOR is the parity of the operands' digits
pub xor_digit : (a b k : ℕ) → bit_xor a b / 2 ^ k % 2 ≡ (a / 2 ^ k + b / 2 ^ k) % 2
xor_digit a b k = ap (λ (x : ℕ). x % 2) (xor_shr a b k) ∙ xor_low (a / 2 ^ k) (b / 2 ^ k)

parity : (p q n b c u v : ℕ) → p + u * 2 ≡ n + b → q + v * 2 ≡ b + c → (p + c) % 2 ≡ (n + q) % 2
parity p q n b c u v h k = omega arith

pub xor_assoc : (a b c : ℕ) → bit_xor (bit_xor a b) c ≡ bit_xor a (bit_xor b c)
xor_assoc a =
    bin_ind (λ (n : ℕ). (b c : ℕ) → bit_xor (bit_xor n b) c ≡ bit_xor n (bit_xor b c)) (λ b c. refl)
    (λ n ih b c.
    same_digits (bit_xor (bit_xor n b) c) (bit_xor n (bit_xor b c))
    (xor_half (bit_xor n b) c ∙ ap (λ (x : ℕ). bit_xor x (c / 2)) (xor_half n b) ∙ ih (b / 2) (c / 2)
    ∙ sym (xor_half n (bit_xor b c) ∙ ap (λ (x : ℕ). bit_xor (n / 2) x) (xor_half b c)))
    (xor_low (bit_xor n b) c ∙ parity (bit_xor n b) (bit_xor b c) n b c (bit_and n b) (bit_and b c) (xor_add_and n b) (xor_add_and b c) ∙ sym (xor_low n (bit_xor b c))))
    a

-- ---- the XOR of a list

pub xor_append : (xs ys : List ℕ) → xor_all (xs ++ ys) ≡ bit_xor (xor_all xs) (xor_all ys)
unfolding xor_all
xor_append [] ys = refl
xor_append (x ∷ xs) ys = ap (λ (r : ℕ). bit_xor x r) (xor_append xs ys) ∙ sym (xor_assoc x (xor_all xs) (xor_all ys))

-- the XOR of one more element at the end
pub xor_snoc : (xs : List ℕ) (y : ℕ) → xor_all (xs ++ y ∷ []) ≡ bit_xor (xor_all xs) y
unfolding xor_all
xor_snoc xs y = xor_append xs (y ∷ []) ∙ ap (λ (r : ℕ). bit_xor (xor_all xs) r) (xor_zero_r y)

pub xor_all_lt : (t : List ℕ) → ((i : ℕ) → get_or t i 0 < 256) → xor_all t < 256
unfolding xor_all
xor_all_lt [] h = h 0
xor_all_lt (x ∷ xs) h = xor_lt 8 x (xor_all xs) (h 0) (xor_all_lt xs (λ i. h (suc i)))

-- ---- what cancels

pub xor_eq : (a b : ℕ) → bit_xor a b ≡ 0 → a ≡ b
xor_eq a b e =
    sym (xor_zero_r a) ∙ ap (λ (x : ℕ). bit_xor a x) (sym (xor_self b)) ∙ sym (xor_assoc a b b) ∙ ap (λ (x : ℕ). bit_xor x b) e

pub xor_fix : (a b : ℕ) → bit_xor a b ≡ a → b ≡ 0
xor_fix a b e = ap (λ (x : ℕ). bit_xor x b) (sym (xor_self a)) ∙ xor_assoc a a b ∙ ap (λ (x : ℕ). bit_xor a x) e ∙ xor_self a

pub medial : (a b c d : ℕ) → bit_xor (bit_xor a b) (bit_xor c d) ≡ bit_xor (bit_xor a c) (bit_xor b d)
medial a b c d =
    xor_assoc a b (bit_xor c d)
    ∙ ap (λ (x : ℕ). bit_xor a x) (sym (xor_assoc b c d) ∙ ap (λ (x : ℕ). bit_xor x d) (xor_comm b c) ∙ xor_assoc c b d)
    ∙ sym (xor_assoc a c (bit_xor b d))

-- ---- two lists, element by element

pub length_zip : (t f : List ℕ) → length t ≡ length f → length (zip_with bit_xor t f) ≡ length t
unfolding zip_with
length_zip [] f e = refl
length_zip (x ∷ xs) [] e = sym e
length_zip (x ∷ xs) (y ∷ ys) e = ap suc (length_zip xs ys (omega arith))

pub get_or_zip : (t f : List ℕ) (i : ℕ) → length t ≡ length f → get_or (zip_with bit_xor t f) i 0 ≡ bit_xor (get_or t i 0) (get_or f i 0)
unfolding zip_with
get_or_zip [] [] i e = refl
get_or_zip [] (y ∷ ys) i e = absurd (omega arith)
get_or_zip (x ∷ xs) [] i e = absurd (omega arith)
get_or_zip (x ∷ xs) (y ∷ ys) zero e = refl
get_or_zip (x ∷ xs) (y ∷ ys) (suc i) e = get_or_zip xs ys i (omega arith)

pub xor_zip : (t f : List ℕ) → length t ≡ length f → xor_all (zip_with bit_xor t f) ≡ bit_xor (xor_all t) (xor_all f)
unfolding zip_with xor_all
xor_zip [] [] e = refl
xor_zip [] (y ∷ ys) e = absurd (omega arith)
xor_zip (x ∷ xs) [] e = absurd (omega arith)
xor_zip (x ∷ xs) (y ∷ ys) e =
    ap (λ (r : ℕ). bit_xor (bit_xor x y) r) (xor_zip xs ys (omega arith)) ∙ medial x y (xor_all xs) (xor_all ys)
