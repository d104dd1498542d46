-- The lines of a text, by the place of its first LF, and the bytes of a line, by its first three. Assumes nothing.
use Rattle.std.proofs.Common.{◌≡◌, ℕ, ◌+◌, ◌-◌, ◌<◌, ◌≤◌, ◌==◌, Bool, List, [], ◌∷◌, ◌++◌, length, get_or, take, drop, set, min, append-nil, length-take-le, refl, ap, sym, ◌∙◌, arith}
use Rattle.std.proofs.lemmas.Grind.{common_steps}
use Rattle.std.proofs.lemmas.List.{take_rest, take_all, take-append-drop, set-get_or}
use Rattle.std.specs.List.{position, position_or_len}
use Rattle.std.specs.Prelude.{Some, None}
use Rattle.hex_lines.specs.HexLines.{lines_of, bytes_of, byte_of}

abbrev pub is_lf : ℕ → Bool
is_lf b = b == 10

pub lines_none : (t : List ℕ) → length t ≤ position_or_len is_lf t → lines_of t ≡ []
unfolding lines_of
lines_none [] h = refl
lines_none (b ∷ t) h = grind (arith, common_steps, lines_none t)

pub lines_first : (t : List ℕ) → position_or_len is_lf t < length t → lines_of t ≡ take (position_or_len is_lf t) t ∷ lines_of (drop (position_or_len is_lf t + 1) t)
unfolding lines_of
lines_first [] h = absurd (omega arith)
lines_first (b ∷ t) h = grind (arith, common_steps, lines_first t)

-- no LF: no line
pub no_line : (t : List ℕ) → position (λ b. b == 10) t ≡ None → lines_of t ≡ []
no_line t h = grind (arith, common_steps, lines_none t)

-- an LF: the line before it, and the lines behind it
pub one_line : (t : List ℕ) (i : ℕ) → position (λ b. b == 10) t ≡ Some i → lines_of t ≡ take i t ∷ lines_of (take (length t - (i + 1)) (drop (i + 1) t))
one_line t i h = grind (arith, common_steps, lines_first t)

pub fewer_lines : (t : List ℕ) (i : ℕ) → position (λ b. b == 10) t ≡ Some i → length (lines_of (take (length t - (i + 1)) (drop (i + 1) t))) < length (lines_of t)
fewer_lines t i h = rw (one_line t i h) (omega arith)

-- ---- the bytes of a line

pub bytes_end : (r : List ℕ) → length r < 2 → bytes_of r ≡ []
unfolding bytes_of
bytes_end [] h = refl
bytes_end (a ∷ []) h = refl
bytes_end (a ∷ b ∷ r) h = absurd (omega arith)

pub bytes_text : (r : List ℕ) → get_or r 0 0 ≡ 35 → bytes_of r ≡ []
unfolding bytes_of
bytes_text [] h = refl
bytes_text (a ∷ []) h = refl
bytes_text (a ∷ b ∷ []) h = grind (arith, common_steps)
bytes_text (a ∷ b ∷ c ∷ r) h = grind (arith, common_steps)

pub bytes_more : (r : List ℕ) → 2 ≤ length r → (get_or r 0 0 ≡ 35 → ⊥) → bytes_of r ≡ byte_of (get_or r 0 0) (get_or r 1 0) ∷ bytes_of (drop (min (length r) 3) r)
unfolding bytes_of
bytes_more [] h n = absurd (omega arith)
bytes_more (a ∷ []) h n = absurd (omega arith)
bytes_more (a ∷ b ∷ []) h n = grind (arith, common_steps)
bytes_more (a ∷ b ∷ c ∷ r) h n = grind (arith, common_steps)

-- nothing is left: the bytes read are the line's
line_read : (b out r : List ℕ) (n : ℕ) → b ≡ take n out ++ bytes_of r → bytes_of r ≡ [] → b ≡ take n out
line_read b out r n e z = e ∙ rw z (append-nil (take n out))

pub all_counted : (b out r : List ℕ) (n m : ℕ) → b ≡ take n out ++ bytes_of r → bytes_of r ≡ [] → n < length out → length out ≡ m → n ≡ min (length b) m
all_counted b out r n m e z h f = rw (line_read b out r n e z, length-take-le n out (omega arith)) (omega arith)

pub all_there : (b out r old : List ℕ) (n : ℕ) → b ≡ take n out ++ bytes_of r → bytes_of r ≡ [] → n < length out → length out ≡ length old → drop n out ≡ drop n old
    → set out n (get_or out n 0) ≡ take (length old) b ++ drop (length b) old
all_there b out r old n e z h f g =
    rw (line_read b out r n e z, length-take-le n out (omega arith), sym g)
    (set-get_or out n 0 ∙ sym (take-append-drop n out) ∙ ap (λ (p : List ℕ). p ++ drop n out) (sym (take_all (length old) (take n out) (omega (arith, length-take-le n out)))))

-- one more is read: those read and those of the rest are the line's still
pub one_read : (b out r : List ℕ) (n k x : ℕ) → b ≡ take n out ++ bytes_of r → n < length out → bytes_of r ≡ x ∷ bytes_of (drop k r) → b ≡ take (n + 1) (set out n x) ++ bytes_of (take (length r - k) (drop k r))
one_read b out r n k x e h f = e ∙ grind (arith, common_steps, take_rest r k)
