-- What it means that a request can be asked. Assumes nothing.
use mathlib.Core.Path.{◌≡◌, refl, sym, ap, ◌∙◌}
use mathlib.Core.Bool.{Bool, true, false, not, ◌&&◌, cond, and-false, false≢true}
use mathlib.Core.Logic.{◌⊎◌, inl, inr}
use mathlib.Core.List.{List}
use Prim.Native.Nat.{ℕ, ◌≤◌, ◌<◌}
use native.Mathlib.Omega.{arith}
use native.Mathlib.Decide.{dec_lt}
use borrow.Author.Tests.{ltb-false, leb-true, eqb-true, eqb-false, not-true}
use lib.Dec.{eqb, ltb, leb}
use lib.ListN.{length}
use Rattle.rows.proofs.BoolLaws.{and_left, and_right}
use Rattle.rows.proofs.RangeLaws.{between}
use Rattle.words.specs.declared.Words.{Words}
use Rattle.setup.specs.declared.Setup.{Setup}
use Rattle.task.specs.declared.Task.{Task as TaskKind}
use Rattle.task.specs.Task.{tasks, task_of}
use Rattle.task.proofs.TaskLaws.{refused_on}
use Rattle.request.specs.declared.Request.TheVariants.{Task, Mirror}
use Rattle.request.specs.Request.{unused_zero, task_known, value_fits, task_fits, expressible}

-- ---- tasks

-- a task that can be asked: 0 with number, index, value 0, or one in an area
pub record AllZero (number index value : ℕ) : Type 0 where
  pub number_none : number ≡ 0
  pub index_none : index ≡ 0
  pub value_none : value ≡ 0

pub record Asked (pkw id number index value : ℕ) : Type 0 where
  pub some : id ≡ 0 → ⊥
  pub area : pkw ≡ 0 → ⊥
  pub known : task_known id ≡ true
  pub numbers : number ≤ 31999
  pub indices : index ≤ 254
  pub values : value_fits (task_of id).act (task_of id).width pkw value ≡ true

pub task_asked : (pkw id number index value : ℕ) → task_fits pkw id number index value ≡ true
    → ((id ≡ 0) × AllZero number index value) ⊎ Asked pkw id number index value
unfolding task_fits
task_asked pkw id number index value h = go (eqb id 0) refl h
  where
    go : (b : Bool) → eqb id 0 ≡ b
        → cond b (eqb number 0 && eqb index 0 && eqb value 0) (not (eqb pkw 0) && task_known id && leb number 31999 && leb index 254 && value_fits (task_of id).act (task_of id).width pkw value) ≡ true
        → ((id ≡ 0) × AllZero number index value) ⊎ Asked pkw id number index value
    go true e f =
        let ni = eqb number 0 && eqb index 0 in
        let g = and_left ni (eqb value 0) f in
        inl (
          eqb-true id 0 e,
          record {
            number_none = eqb-true number 0 (and_left (eqb number 0) (eqb index 0) g);
            index_none = eqb-true index 0 (and_right (eqb number 0) (eqb index 0) g);
            value_none = eqb-true value 0 (and_right ni (eqb value 0) f);
          },
        )
    go false e f =
        let a = not (eqb pkw 0) in
        let k = task_known id in
        let b = leb number 31999 in
        let c = leb index 254 in
        let d = value_fits (task_of id).act (task_of id).width pkw value in
        let akbc = and_left (a && k && b && c) d f in
        let akb = and_left (a && k && b) c akbc in
        let ak = and_left (a && k) b akb in
        inr (record {
          some = eqb-false id 0 e;
          area = eqb-false pkw 0 (not-true (eqb pkw 0) (and_left a k ak));
          known = and_right a k ak;
          numbers = leb-true number 31999 (and_right (a && k) b akb);
          indices = leb-true index 254 (and_right (a && k && b) c akbc);
          values = and_right (a && k && b && c) d f;
        })

-- a value fits only what is a task
pub known_fits : (id pkw value : ℕ)
    → (task_known id && value_fits (task_of id).act (task_of id).width pkw value) ≡ value_fits (task_of id).act (task_of id).width pkw value
unfolding task_known value_fits task_of tasks
known_fits id pkw value = go (dec_lt id 15)
  where
    go : Dec (id < 15) → (task_known id && value_fits (task_of id).act (task_of id).width pkw value) ≡ value_fits (task_of id).act (task_of id).width pkw value
    go (yes h) =
        between (λ k. (task_known k && value_fits (task_of k).act (task_of k).width pkw value) ≡ value_fits (task_of k).act (task_of k).width pkw value) 15 0
        (refl, (refl, (refl, (refl, (refl, (refl, (refl, (refl, (refl, (refl, (refl, (refl, (refl, (refl, (refl, tt)))))))))))))))
        id (omega arith) h
    go (no h) = rw (refused_on id (omega arith), and-false (task_known id))

-- a task ID that can be asked is below 15
pub asked_id : (pkw id number index value : ℕ) → task_fits pkw id number index value ≡ true → id < 15
unfolding value_fits
asked_id pkw id number index value h = go (task_asked pkw id number index value h)
  where
    go : ((id ≡ 0) × AllZero number index value) ⊎ Asked pkw id number index value → id < 15
    go (inl e) = omega arith
    go (inr a) = low (dec_lt id 15)
      where
        low : Dec (id < 15) → id < 15
        low (yes l) = l
        low (no n) =
            absurd (false≢true (ap (λ (k : TaskKind). value_fits k.act k.width pkw value) (sym (refused_on id (omega arith))) ∙ a.values))

pub task_id : (s : Setup) (id number index value : ℕ) (process : Words) (net : List ℕ) → expressible s (Task id number index value process) net ≡ true → id < 15
unfolding expressible
task_id s id number index value process net h =
    asked_id s.pkw id number index value (and_left (task_fits s.pkw id number index value) (unused_zero s.pzd process) h)

-- ---- mirrors

pub mirror_asked : (s : Setup) (net : List ℕ) → expressible s Mirror net ≡ true → (1 ≤ length net) × (length net ≤ 252)
unfolding expressible
mirror_asked s net h = (
  ltb-false (length net) 1 (not-true (ltb (length net) 1) (and_left (not (ltb (length net) 1)) (leb (length net) 252) h)),
  leb-true (length net) 252 (and_right (not (ltb (length net) 1)) (leb (length net) 252) h),
)
