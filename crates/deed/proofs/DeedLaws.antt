-- Laws of what a task asks. Assumes nothing.
use mathlib.Core.Path.{◌≡◌, refl}
use mathlib.Core.Bool.{Bool, true, false}
use Prim.Native.Nat.{ℕ, ◌≤◌, ◌<◌}
use native.Mathlib.Omega.{arith}
use Rattle.std.specs.Prelude.{Result, Ok, Err}
use Rattle.area.specs.declared.Area.{Area}
use Rattle.entry.specs.declared.Entry.{Entry}
use Rattle.entry.specs.Fields.{count_of}
use Rattle.limits.specs.Limits.{is_within}
use Rattle.task.specs.declared.Act.{Act}
use Rattle.task.specs.declared.Act.TheVariants.{Nothing, Read, Change, Count, Refuse}
use Rattle.errors.specs.declared.ParameterError.{ParameterError}
use Rattle.task.specs.Task.{read_reply}
use Rattle.verdict.proofs.VerdictLaws.{granted_element, granted_inside}
use Rattle.deed.specs.declared.Deed.TheVariants.{Reply}
use Rattle.deed.specs.Deed.{error_area, task_in, index_in, value_in, element_in, verdict_in, act_deed, deed_on, DeedFits}
use Rattle.verdict.specs.Verdict.{granted}

-- the reply ID of a read is one digit
pub read_reply_le : (reply : ℕ) (double : Bool) → reply ≤ 14 → read_reply reply double ≤ 15
read_reply_le reply true h = omega arith
read_reply_le reply false h = omega arith

module _ (n : ℕ) (a : Area) (e : Entry) where
  pub deed_denied : (error : ParameterError) → verdict_in n a e ≡ Err error → deed_on n a e ≡ Reply (error_area a error)
  unfolding deed_on
  deed_denied error h = rw h

  pub deed_granted : verdict_in n a e ≡ granted → deed_on n a e ≡ act_deed (task_in a).act a e
  unfolding deed_on
  deed_granted h = rw h

  -- a granted task means an element that is there
  pub element_there : verdict_in n a e ≡ granted → element_in a e < count_of e
  element_there h = granted_element n (task_in a) e (index_in a) (value_in a) h

  -- a granted change is within the limits
  pub change_inside : (task_in a).act ≡ Change → verdict_in n a e ≡ granted → is_within e (value_in a) ≡ true
  change_inside c h = granted_inside n (task_in a) e (index_in a) (value_in a) c h

  act_fits : (act : Act) → element_in a e < count_of e → DeedFits (act_deed act a e) (count_of e)
  act_fits Nothing h = tt
  act_fits Read h = h
  act_fits Change h = h
  act_fits Count h = tt
  act_fits Refuse h = tt

  -- the element of a deed is one of the record's
  pub deed_fits : DeedFits (deed_on n a e) (count_of e)
  unfolding deed_on
  deed_fits = go (verdict_in n a e) refl
    where
      go : (v : Result (Unit {0}) ParameterError) → verdict_in n a e ≡ v → DeedFits (deed_on n a e) (count_of e)
      go (Err error) h = rw h tt
      go (Ok done) h = rw h (act_fits (task_in a).act (element_there h))
