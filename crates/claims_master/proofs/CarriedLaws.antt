-- What a task that can be asked carries: numbers and a value that fit its area. Assumes nothing.
use mathlib.Core.Path.{◌≡◌}
use mathlib.Core.Logic.{◌⊎◌, inl, inr}
use mathlib.Core.Bool.{true, false≢true}
use Prim.Native.Nat.{ℕ, ◌+◌, ◌-◌, ◌*◌, ◌^◌, ◌≤◌, ◌<◌}
use native.Mathlib.Omega.{arith}
use borrow.Author.Tests.{eqb-true, leb-true}
use Rattle.setup.specs.declared.Setup.{Setup}
use Rattle.setup.proofs.SetupLaws.{Configured, Wide, area_wide}
use Rattle.area.proofs.WordLaws.{Headed}
use Rattle.task.specs.declared.Act.{Act}
use Rattle.task.specs.declared.Act.TheVariants.{Nothing, Read, Change, Count, Refuse}
use Rattle.task.specs.declared.Width.{Width}
use Rattle.task.specs.declared.Width.TheVariants.{Either, Word, Double}
use Rattle.task.specs.Task.{task_of}
use Rattle.page.proofs.PageLaws.{nibble_small}
use Rattle.request.specs.Request.{value_fits, task_fits}
use Rattle.request.proofs.RequestLaws.{AllZero, Asked, task_asked, asked_id}
use Rattle.master.specs.Build.{task_area, task_count}

-- in three words a value of one word
word_carried : (act : Act) (width : Width) (v : ℕ) → value_fits act width 3 v ≡ true → v < 65536
unfolding value_fits
word_carried Nothing width v e = absurd (false≢true e)
word_carried Read width v e = omega (arith, eqb-true v 0 e)
word_carried Change Either v e = absurd (false≢true e)
word_carried Change Word v e = omega (arith, leb-true v 65535 e)
word_carried Change Double v e = absurd (false≢true e)
word_carried Count width v e = omega (arith, eqb-true v 0 e)
word_carried Refuse width v e = absurd (false≢true e)

-- the value fits the words that are left for it
pub value_fits_lem : (n v : ℕ) → Wide n → (n ≡ 3 → v < 65536) → v < 4294967296 → v < 65536 ^ (n - 2)
value_fits_lem n v (inl e) h g =
    let f : v < 65536 = h e in
    rw e f
value_fits_lem n v (inr e) h g = rw e g

pub record CarriedTask (s : Setup) (id number index value : ℕ) : Type 0 where
  pub id_few : id < 15
  pub numbers : number ≤ 31999
  pub indices : index < 256
  pub heads : Headed (task_area id number index value)
  pub fits : (task_count s id ≡ 0 → ⊥) → value < 65536 ^ (task_count s id - 2)

pub carried_of : (s : Setup) (id number index value : ℕ) → Configured s → task_fits s.pkw id number index value ≡ true → value < 4294967296 → CarriedTask s id number index value
unfolding task_area
carried_of s id number index value c h v = go (task_asked s.pkw id number index value h)
  where
    few : id < 15
    few = asked_id s.pkw id number index value h

    heads_of : index < 256 → Headed (task_area id number index value)
    heads_of i = record { pke_word = omega (arith, few); ind_word = omega (arith, nibble_small number) }

    go : ((id ≡ 0) × AllZero number index value) ⊎ Asked s.pkw id number index value → CarriedTask s id number index value
    go (inl e) =
        let i : index < 256 = omega (arith, e.1.index_none) in
        record {
          id_few = few;
          numbers = omega (arith, e.1.number_none);
          indices = i;
          heads = heads_of i;
          fits = λ p. value_fits_lem (task_count s id) value (area_wide s ((task_count s id + s.pzd) * 2) c p) (λ q. omega (arith, e.1.value_none)) v;
        }
    go (inr a) =
        let i : index < 256 = omega (arith, a.indices) in
        record {
          id_few = few;
          numbers = a.numbers;
          indices = i;
          heads = heads_of i;
          fits = λ p. value_fits_lem (task_count s id) value (area_wide s ((task_count s id + s.pzd) * 2) c p) (λ q. word_carried (task_of id).act (task_of id).width value (rw q at a.values)) v;
        }
