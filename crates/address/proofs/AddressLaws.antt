-- What the address bytes of a node, of a mirror telegram and of a broadcast mean. Assumes nothing.
use mathlib.Core.Path.{◌≡◌, refl, sym, ◌∙◌}
use mathlib.Core.Bool.{Bool, true, false}
use Prim.Native.Nat.{ℕ, ◌+◌, ◌/◌, ◌%◌, ◌≤◌, ◌<◌}
use native.Mathlib.Omega.{arith}
use borrow.Author.Tests.{leb-true, leb-false, lt-leb, eq-eqb, ne_eqb}
use lib.Dec.{leb, eqb}
use Rattle.std.specs.Prelude.{Ok}
use Rattle.rows.specs.Bits.{bit}
use Rattle.address.specs.Address.{top_bit, address_of}
use Rattle.address.specs.declared.Address.TheVariants.{ToOne, ToMirror, ToAll}

pub to_one : (node : ℕ) → node ≤ 31 → address_of node ≡ Ok (ToOne node)
unfolding address_of
to_one node h =
    let five : node / 32 % 2 ≡ 1 → ⊥ = λ e. omega arith in
    let six : node / 64 % 2 ≡ 1 → ⊥ = λ e. omega arith in
    let low : node % 32 ≡ node = omega arith in
    rw (lt-leb 128 node (omega arith), ne_eqb (node / 32 % 2) 1 five, ne_eqb (node / 64 % 2) 1 six, low)

pub to_mirror : (node : ℕ) → node ≤ 31 → address_of (node + 64) ≡ Ok (ToMirror node)
unfolding address_of
to_mirror node h =
    let five : (node + 64) / 32 % 2 ≡ 1 → ⊥ = λ e. omega arith in
    let six : (node + 64) / 64 % 2 ≡ 1 = omega arith in
    let low : (node + 64) % 32 ≡ node = omega arith in
    rw (lt-leb 128 (node + 64) (omega arith), ne_eqb ((node + 64) / 32 % 2) 1 five, eq-eqb ((node + 64) / 64 % 2) 1 six, low)

pub to_all : address_of 32 ≡ Ok ToAll
unfolding address_of
to_all = refl

-- bit 7 of a byte, as it is tested
pub top_is_bit_7 : (x : ℕ) → x < 256 → top_bit x ≡ eqb (bit 7 x) 1
top_is_bit_7 x h = go (leb 128 x) refl
  where
    go : (b : Bool) → leb 128 x ≡ b → leb 128 x ≡ eqb (bit 7 x) 1
    go true e = let l = leb-true 128 x e in e ∙ sym (eq-eqb (bit 7 x) 1 (omega arith))
    go false e = let l = leb-false 128 x e in e ∙ sym (ne_eqb (bit 7 x) 1 (λ q. omega arith))
