-- An area is no reply where one of the conditions holds, and is one where none does. Assumes nothing.
use mathlib.Core.Path.{◌≡◌, refl}
use mathlib.Core.Bool.{Bool, true, false, not, ◌&&◌, cond, false≢true}
use mathlib.Core.List.{List, [], ◌∷◌}
use Prim.Native.Nat.{ℕ, zero, suc, ◌/◌, ◌%◌}
use borrow.Author.Tests.{eq-eqb}
use lib.Dec.{eqb, ltb}
use lib.ListN.{get_or}
use Rattle.rows.specs.Rows.{first_of, Each}
use Rattle.rows.proofs.BoolLaws.{cond_same}
use Rattle.area.specs.declared.Area.{Area}
use Rattle.page.specs.Page.{base_of, nibble_of}
use Rattle.task.specs.Task.{is_double_id}
use Rattle.content.specs.declared.Question.{Question}
use Rattle.content.specs.Content.{known_id, all_zero, bad_rows, bad_reply}

-- where each row answers true, one test that holds decides
one_holds : (rows : List (Bool × Bool)) → Each (λ (row : Bool × Bool). row.1 ≡ true) rows → (k : ℕ) → (get_or rows k (false, true)).0 ≡ true → first_of rows false ≡ true
one_holds [] t k h = absurd (false≢true h)
one_holds (row ∷ rows) t zero h = rw h t.0
one_holds (row ∷ rows) t (suc k) h = go row.0 t.0 (one_holds rows t.1 k h)
  where
    go : (b : Bool) → row.1 ≡ true → first_of rows false ≡ true → cond b row.1 (first_of rows false) ≡ true
    go true p q = p
    go false p q = q

-- the condition in row k, from 0
abbrev pub condition : ℕ → Question → Area → ℕ → Bool
condition n q a k = (get_or (bad_rows n q a) k (false, true)).0

-- no condition of 33 holds, but for the last
pub record Fitting (n : ℕ) (q : Question) (a : Area) : Type 0 where
  pub id_known : known_id q.id (a.pke / 4096) ≡ true
  pub zero_kept : (eqb q.id 0 && not (all_zero a)) ≡ false
  pub room : (is_double_id (a.pke / 4096) && eqb n 3) ≡ false
  pub base : base_of a.pke ≡ q.number % 2000
  pub page : a.ind / 4096 ≡ nibble_of q.number
  pub index : a.ind % 256 ≡ q.index
  pub bit_none : a.pke / 2048 % 2 ≡ 0
  pub bits_none : a.ind / 256 % 16 ≡ 0
  pub word : (not (is_double_id (a.pke / 4096)) && ltb 65535 a.value) ≡ false

module _ (n : ℕ) (q : Question) (a : Area) where
  pub bad_by : (k : ℕ) → condition n q a k ≡ true → bad_reply n q a ≡ true
  unfolding bad_reply bad_rows
  bad_by k h = one_holds (bad_rows n q a) (refl, (refl, (refl, (refl, (refl, (refl, (refl, (refl, (refl, (refl, tt)))))))))) k h

  -- a value after 8 decides
  pub last_decides : Fitting n q a → bad_reply n q a ≡ (eqb (a.pke / 4096) 8 && not (eqb a.value 0))
  unfolding bad_reply bad_rows
  last_decides f =
      rw (
        f.id_known,
        f.zero_kept,
        f.room,
        eq-eqb _ _ f.base,
        eq-eqb _ _ f.page,
        eq-eqb _ _ f.index,
        eq-eqb _ _ f.bit_none,
        eq-eqb _ _ f.bits_none,
        f.word,
      )
      (cond_same (eqb (a.pke / 4096) 8 && not (eqb a.value 0)))
