-- What a set-up that may be used is, both ways, and what lines 16 and 17 say. Assumes nothing.
use mathlib.Core.Path.{◌≡◌, refl, sym, ap}
use mathlib.Core.Logic.{◌⊎◌, inl, inr}
use mathlib.Core.Bool.{Bool, true, false, not, ◌&&◌, ◌||◌, false≢true}
use Prim.Native.Nat.{ℕ, ◌+◌, ◌*◌, ◌<◌, ◌≤◌}
use native.Mathlib.Omega.{arith}
use lib.Dec.{ltb, eqb}
use borrow.Author.Tests.{le-ltb, eq-eqb, ne_eqb, ltb-false, eqb-true, eqb-false, not-true, not-false}
use Rattle.rows.proofs.BoolLaws.{or_left, or_right}
use Rattle.setup.specs.declared.Setup.{Setup}
use Rattle.setup.specs.SetupRules.{setup_bad, setup_ok, area_count, other_node, other_length}

-- an area of three or four words
abbrev pub Wide : ℕ → Type 0
Wide n = (n ≡ 3) ⊎ (n ≡ 4)

-- the facts of a set-up that may be used
pub record Configured (s : Setup) : Type 0 where
  pub nodes : s.node ≤ 31
  pub areas : (s.pkw ≡ 0) ⊎ Wide s.pkw
  pub process : s.pzd ≤ 4
  pub some : 0 < s.pkw + s.pzd

-- one of three tests held
one_held : (x : ℕ) → (eqb x 0 || eqb x 3 || eqb x 4) ≡ true → (x ≡ 0) ⊎ Wide x
one_held x e = go (eqb x 0) (eqb x 3) (eqb x 4) refl refl refl e
  where
    go : (a b c : Bool) → eqb x 0 ≡ a → eqb x 3 ≡ b → eqb x 4 ≡ c → (a || b || c) ≡ true → (x ≡ 0) ⊎ Wide x
    go true b c p q r h = inl (eqb-true x 0 p)
    go false true c p q r h = inr (inl (eqb-true x 3 q))
    go false false true p q r h = inr (inr (eqb-true x 4 r))
    go false false false p q r h = absurd (false≢true h)

-- not both tests held
not_both : (x y : ℕ) → (eqb x 0 && eqb y 0) ≡ false → 0 < x + y
not_both x y e = go (eqb x 0) (eqb y 0) refl refl e
  where
    go : (a b : Bool) → eqb x 0 ≡ a → eqb y 0 ≡ b → (a && b) ≡ false → 0 < x + y
    go true true p q h = absurd (false≢true (sym h))
    go true false p q h = let n = eqb-false y 0 q in omega arith
    go false b p q h = let n = eqb-false x 0 p in omega arith

pub ok_configured : (s : Setup) → setup_ok s ≡ true → Configured s
unfolding setup_ok
ok_configured s e =
    let a = ltb 31 s.node in
    let b = not (eqb s.pkw 0 || eqb s.pkw 3 || eqb s.pkw 4) in
    let c = ltb 4 s.pzd in
    let d = eqb s.pkw 0 && eqb s.pzd 0 in
    let none = not-true (setup_bad s) e in
    let abc = or_left (a || b || c) d none in
    let ab = or_left (a || b) c abc in
    record {
      nodes = ltb-false 31 s.node (or_left a b ab);
      areas = one_held s.pkw (not-false (eqb s.pkw 0 || eqb s.pkw 3 || eqb s.pkw 4) (or_right a b ab));
      process = ltb-false 4 s.pzd (or_right (a || b) c abc);
      some = not_both s.pkw s.pzd (or_right (a || b || c) d none);
    }

-- the same test of numbers
ok_of : (n p z : ℕ) → n ≤ 31 → (p ≡ 0) ⊎ Wide p → z ≤ 4 → 0 < p + z
    → not (ltb 31 n || not (eqb p 0 || eqb p 3 || eqb p 4) || ltb 4 z || eqb p 0 && eqb z 0) ≡ true
ok_of n p z a (inl e) c d =
    let y : z ≡ 0 → ⊥ = λ q. omega arith in
    rw (le-ltb 31 n a, e, le-ltb 4 z c, ne_eqb z 0 y)
ok_of n p z a (inr (inl e)) c d = rw (le-ltb 31 n a, e, le-ltb 4 z c)
ok_of n p z a (inr (inr e)) c d = rw (le-ltb 31 n a, e, le-ltb 4 z c)

pub configured_passes : (s : Setup) → Configured s → setup_ok s ≡ true
unfolding setup_ok
configured_passes s f = ok_of s.node s.pkw s.pzd f.nodes f.areas f.process f.some

wide_between : (n : ℕ) → Wide n → (3 ≤ n) × (n ≤ 4)
wide_between n (inl e) = (omega arith, omega arith)
wide_between n (inr e) = (omega arith, omega arith)

-- ---- how many words the area of a telegram with n net bytes has

module _ (s : Setup) (n : ℕ) (c : Configured s) where
  -- none, or three or four
  none_or_wide : (area_count s n ≡ 0) ⊎ Wide (area_count s n)
  none_or_wide = c.areas

  -- at most four
  pub area_few : area_count s n ≤ 4
  area_few = go none_or_wide
    where
      go : (area_count s n ≡ 0) ⊎ Wide (area_count s n) → area_count s n ≤ 4
      go (inl e) = omega arith
      go (inr (inl e)) = omega arith
      go (inr (inr e)) = omega arith

  -- none, or three at least
  pub area_sized : (area_count s n ≡ 0) ⊎ (3 ≤ area_count s n)
  area_sized = go none_or_wide
    where
      go : (area_count s n ≡ 0) ⊎ Wide (area_count s n) → (area_count s n ≡ 0) ⊎ (3 ≤ area_count s n)
      go (inl e) = inl e
      go (inr (inl e)) = inr (omega arith)
      go (inr (inr e)) = inr (omega arith)

  -- a parameter area has three or four
  pub area_wide : (area_count s n ≡ 0 → ⊥) → Wide (area_count s n)
  area_wide h = go none_or_wide
    where
      go : (area_count s n ≡ 0) ⊎ Wide (area_count s n) → Wide (area_count s n)
      go (inl z) = absurd (h z)
      go (inr w) = w

  pub area_words_lem : (area_count s n ≡ 0 → ⊥) → (3 ≤ area_count s n) × (area_count s n ≤ 4)
  area_words_lem h = wide_between (area_count s n) (area_wide h)

  -- the two areas are not both without a word
  pub area_some : 0 < area_count s n + s.pzd
  area_some = c.some

-- k is what the set-up counts in a telegram with an area of k words
abbrev pub Counted : Setup → ℕ → Type 0
Counted s k = area_count s ((k + s.pzd) * 2) ≡ k

-- ---- lines 16 and 17, each as its Bool and as an equation

pub own_node : (s : Setup) (node : ℕ) → other_node s node ≡ false → node ≡ s.node
own_node s node e = eqb-true node s.node (not-false (eqb node s.node) e)

pub node_own : (s : Setup) (node : ℕ) → node ≡ s.node → other_node s node ≡ false
node_own s node e = ap not (eq-eqb node s.node e)

pub node_other_lem : (s : Setup) (node : ℕ) → (node ≡ s.node → ⊥) → other_node s node ≡ true
node_other_lem s node h = ap not (ne_eqb node s.node h)

-- the words of a telegram of the set-up's length
pub own_words : (s : Setup) (n : ℕ) → other_length s n ≡ false → n ≡ (area_count s n + s.pzd) * 2
own_words s n e = eqb-true n ((area_count s n + s.pzd) * 2) (not-false (eqb n ((area_count s n + s.pzd) * 2)) e)

pub words_own : (s : Setup) (n : ℕ) → n ≡ (area_count s n + s.pzd) * 2 → other_length s n ≡ false
words_own s n e = ap not (eq-eqb n ((area_count s n + s.pzd) * 2) e)
