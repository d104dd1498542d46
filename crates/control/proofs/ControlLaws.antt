-- What is read of a telegram for the control words, and a broadcast by its two ends. Assumes nothing.
use mathlib.Core.Path.{◌≡◌, refl, ap, ◌∙◌}
use mathlib.Core.Bool.{Bool, true, false, cond}
use mathlib.Core.List.{List}
use Prim.Native.Nat.{ℕ, ◌/◌, ◌%◌}
use native.Mathlib.Omega.{arith}
use lib.Dec.{eqb}
use borrow.Author.Tests.{ne_eqb, eqb-false}
use Rattle.std.specs.Prelude.{Some, None}
use Rattle.words.specs.Words.{word_at, double_at, Bytes}
use Rattle.words.specs.declared.Words.{Words}
use Rattle.setup.specs.declared.Setup.{Setup}
use Rattle.setup.specs.SetupRules.{area_count}
use Rattle.area.specs.declared.Area.{Area}
use Rattle.area.specs.Read.{area_at}
use Rattle.area.proofs.AreaLaws.{area_four, process_first}
use Rattle.broadcast.specs.declared.Command.{Command}
use Rattle.broadcast.specs.Broadcast.{is_void}
use Rattle.control.specs.Control.{first_word, process_in, command_at, void_in, control_commanded, commanded_of}

pub first_taken : (s : Setup) (n : ℕ) (control : Words) (rx : List ℕ) {w : Words} → w ≡ process_in s n control rx → (s.pzd ≡ 0 → ⊥) → w.w1 ≡ first_word s n rx
first_taken s n control rx e h = ap (λ (x : Words). x.w1) e ∙ process_first rx (area_count s n) s.pzd control h

-- a command by the four words at its place
module _ (rx : List ℕ) (count : ℕ) (bytes : Bytes rx) {a : Area} (e : a ≡ area_at rx 4) where
  high : double_at rx 7 / 65536 ≡ word_at rx 7
  high = omega (arith, bytes 9, bytes 10)

  low : double_at rx 7 % 65536 ≡ word_at rx 9
  low = omega (arith, bytes 9, bytes 10)

  pub command_four : count ≡ 4 → record { selector = a.pke; mask1 = a.ind; mask2 = a.value / 65536; fourth = a.value % 65536 } ≡ command_at rx count
  unfolding command_at
  command_four four = rw (e, four, area_four rx bytes, high, low)

  pub command_other : (count ≡ 4 → ⊥) → record { selector = a.pke; mask1 = a.ind; mask2 = a.value / 65536; fourth = 0 } ≡ command_at rx count
  unfolding command_at
  command_other h = rw (e, ne_eqb count 4 h, area_four rx bytes, high)

-- without process words it is void, whatever the first one is
pub void_same : (c : Command) (pkw pzd f g : ℕ) → ((pzd ≡ 0 → ⊥) → f ≡ g) → is_void c pkw pzd f ≡ is_void c pkw pzd g
unfolding is_void
void_same c pkw pzd f g h = go (eqb pkw 0) (eqb pzd 0) refl refl
  where
    go : (x y : Bool) → eqb pkw 0 ≡ x → eqb pzd 0 ≡ y → is_void c pkw pzd f ≡ is_void c pkw pzd g
    go true y p q = rw p
    go false true p q = rw (p, q)
    go false false p q = rw (h (eqb-false pzd 0 q))

-- ---- what a broadcast comes to

module _ (s : Setup) (n : ℕ) (control : Words) (rx : List ℕ) where
  pub void_is : void_in s n rx ≡ true → commanded_of s n control rx ≡ None
  unfolding commanded_of
  void_is v = rw v

  pub changed_is : void_in s n rx ≡ false → commanded_of s n control rx ≡ Some (control_commanded s n control rx)
  unfolding commanded_of
  changed_is v = rw v

-- and back
void_told : (b : Bool) (w : Words) → cond b None (Some w) ≡ None → b ≡ true
void_told true w e = refl
void_told false w e = let z : ◌≡◌ {A = ℕ} 0 1 = cc in absurd (omega arith)

changed_told : (b : Bool) (w x : Words) → cond b None (Some w) ≡ Some x → (b ≡ false) × (x ≡ w)
changed_told true w x e = let z : ◌≡◌ {A = ℕ} 0 1 = cc in absurd (omega arith)
changed_told false w x e = (refl, cc)

module _ (s : Setup) (n : ℕ) (control : Words) (rx : List ℕ) where
  pub is_void_lem : commanded_of s n control rx ≡ None → void_in s n rx ≡ true
  unfolding commanded_of
  is_void_lem e = void_told (void_in s n rx) (control_commanded s n control rx) e

  pub is_changed : (w : Words) → commanded_of s n control rx ≡ Some w → (void_in s n rx ≡ false) × (w ≡ control_commanded s n control rx)
  unfolding commanded_of
  is_changed w e = changed_told (void_in s n rx) (control_commanded s n control rx) w e
