-- What a slave may reply to a task, whatever the task: which reply IDs, the bits that must be 0, and a word but under the ID of a
-- double. Assumes nothing.
--     MayReply n p    p may be the reply's area of n words
--     id_replies      a reply ID by its width, count_replies, error_replies, idle_replies
--     deed_replies    what a task asks of a record is such a reply
use mathlib.Core.Path.{◌≡◌, refl, sym, ap, ◌∙◌}
use mathlib.Core.Logic.{inl, inr}
use mathlib.Core.Bool.{Bool, true, false, ◌&&◌, cond, false≢true}
use Prim.Native.Nat.{ℕ, ◌/◌, ◌%◌, ◌≤◌, ◌<◌}
use native.Mathlib.Omega.{arith}
use borrow.Author.Tests.{eq-eqb, not-false}
use lib.Dec.{eqb, lit<, lit≤}
use Rattle.std.specs.Prelude.{Result, Ok, Err}
use Rattle.area.specs.declared.Area.{Area}
use Rattle.area.specs.Read.{empty_area}
use Rattle.entry.specs.declared.Entry.{Entry}
use Rattle.entry.specs.Fields.{count_of}
use Rattle.task.specs.declared.Act.{Act}
use Rattle.task.specs.declared.Act.TheVariants.{Nothing, Read, Change, Count, Refuse}
use Rattle.task.specs.declared.Width.{Width}
use Rattle.task.specs.declared.Width.TheVariants.{Either, Word, Double}
use Rattle.errors.specs.declared.ParameterError.{ParameterError}
use Rattle.errors.specs.declared.ParameterError.TheVariants.{NoParameter, NotWritable, OutsideLimits, NoElement, NoArray, OtherWidth, NoRoom, NoTask}
use Rattle.task.specs.Task.{read_reply, is_double_id, carried}
use Rattle.errors.specs.ErrorNumbers.{error_number}
use Rattle.verdict.specs.Verdict.{refuses_act, changes_act, moves_value, differs_width, lacks_array, lacks_element, verdict_of, granted}
use Rattle.task.proofs.TaskLaws.{IdOf, RowOf, task_row_lem, id_width, read_id_lem}
use Rattle.verdict.proofs.VerdictLaws.{granted_clear}
use Rattle.deed.specs.declared.Deed.{Deed}
use Rattle.deed.specs.declared.Deed.TheVariants.{Reply, Fetch, Write}
use Rattle.deed.specs.Deed.{reply_area, error_area, task_in, index_in, value_in, element_in, verdict_in, act_deed, deed_on}

pub error_small : (error : ParameterError) → error_number error < 65536
error_small NoParameter = lit< tt
error_small NotWritable = lit< tt
error_small OutsideLimits = lit< tt
error_small NoElement = lit< tt
error_small NoArray = lit< tt
error_small OtherWidth = lit< tt
error_small NoRoom = lit< tt
error_small NoTask = lit< tt

-- ---- an area that may be sent in n words

pub record MayReply (n : ℕ) (p : Area) : Type 0 where
  pub few : p.pke / 4096 ≤ 7
  pub not_3 : p.pke / 4096 ≡ 3 → ⊥
  -- bit 11 of PKE, bits 11-8 of IND
  pub pke_zero : p.pke / 2048 % 2 ≡ 0
  pub ind_zero : p.ind / 256 % 16 ≡ 0
  pub word : is_double_id (p.pke / 4096) ≡ false → p.value < 65536
  pub single : n ≡ 3 → is_double_id (p.pke / 4096) ≡ false

-- a reply ID with base, page and index of a task, and any value
module _ (n : ℕ) (a : Area) (id v : ℕ) where
  reply_id : (reply_area a id v).pke / 4096 ≡ id
  reply_id = omega arith

  one_replies : id ≤ 7 → (id ≡ 3 → ⊥) → (is_double_id id ≡ false → v < 65536) → (n ≡ 3 → is_double_id id ≡ false) → MayReply n (reply_area a id v)
  one_replies few not_3 word single = record {
    few = rw reply_id few;
    not_3 = rw reply_id not_3;
    pke_zero = omega arith;
    ind_zero = omega arith;
    word = rw reply_id word;
    single = rw reply_id single;
  }

  -- 1, 2, 4 and 5, by the width of the value
  pub id_replies : (double : Bool) → IdOf double id → (double ≡ false → v < 65536) → (double ≡ true → n ≡ 3 → ⊥) → MayReply n (reply_area a id v)
  id_replies double r word room =
      let is = id_width double id r in
      one_replies (few double r).0 (few double r).1 (λ d. word (sym is ∙ d)) (λ q. is ∙ single double (λ d. room d q))
    where
      few : (d : Bool) → IdOf d id → (id ≤ 7) × (id ≡ 3 → ⊥)
      few true (inl e) = (omega arith, λ q. omega arith)
      few true (inr e) = (omega arith, λ q. omega arith)
      few false (inl e) = (omega arith, λ q. omega arith)
      few false (inr e) = (omega arith, λ q. omega arith)

      single : (d : Bool) → (d ≡ true → ⊥) → d ≡ false
      single true h = absurd (h refl)
      single false h = refl

  -- 6, the number of elements
  pub count_replies : id ≡ 6 → v < 65536 → MayReply n (reply_area a id v)
  count_replies e small = one_replies (omega arith) (λ q. omega arith) (λ d. small) (λ q. ap is_double_id e)

pub error_replies : (n : ℕ) (a : Area) (error : ParameterError) → MayReply n (error_area a error)
error_replies n a error = one_replies n a 7 (error_number error) (lit≤ tt) (λ q. omega arith) (λ d. error_small error) (λ q. refl)

pub idle_replies : (n : ℕ) → MayReply n empty_area
idle_replies n = record { few = lit≤ tt; not_3 = λ q. omega arith; pke_zero = refl; ind_zero = refl; word = λ d. lit< tt; single = λ q. refl }

-- ---- a granted task

pub count_few : (e : Entry) → e.elements ≤ 254 → count_of e < 65536
unfolding count_of
count_few e h = go (eqb e.elements 0)
  where
    go : (b : Bool) → cond b 1 e.elements < 65536
    go true = lit< tt
    go false = omega arith

-- the row of error 5 does not apply to a task that is granted
width_agrees : (r a b d : Bool) (rest : Result (Unit {0}) ParameterError) → cond r (Err NoTask) (cond a (Err NoArray) (cond b (Err NoElement) (cond d (Err OtherWidth) rest))) ≡ granted → d ≡ false
width_agrees true a b d rest e = let z : ◌≡◌ {A = ℕ} 0 1 = cc in absurd (omega arith)
width_agrees false true b d rest e = let z : ◌≡◌ {A = ℕ} 0 1 = cc in absurd (omega arith)
width_agrees false false true d rest e = let z : ◌≡◌ {A = ℕ} 0 1 = cc in absurd (omega arith)
width_agrees false false false true rest e = let z : ◌≡◌ {A = ℕ} 0 1 = cc in absurd (omega arith)
width_agrees false false false false rest e = refl

-- a double value has no room in three words
no_room : (double three moves : Bool) → (double && (three && moves)) ≡ false → moves ≡ true → double ≡ true → three ≡ true → ⊥
no_room true true true h m d t = false≢true (sym h)
no_room true true false h m d t = false≢true m
no_room true false moves h m d t = false≢true t
no_room false three moves h m d t = false≢true d

module _ (n : ℕ) (a : Area) (e : Entry) (granted : verdict_in n a e ≡ granted) where
  -- a granted task has room for its answer
  pub granted_room : moves_value (task_in a).act ≡ true → e.double ≡ true → n ≡ 3 → ⊥
  granted_room c d q = no_room e.double (eqb n 3) (moves_value (task_in a).act) (granted_clear n (task_in a) e (index_in a) (value_in a) granted).room_there c d (eq-eqb n 3 q)

  granted_width : (changes_act (task_in a).act && differs_width (task_in a).width e.double) ≡ false
  unfolding verdict_of
  granted_width =
      width_agrees (refuses_act (task_in a).act) (lacks_array (task_in a) e (index_in a)) (lacks_element (task_in a) e (index_in a))
      (changes_act (task_in a).act && differs_width (task_in a).width e.double) _ granted

-- a change, by the width of its task
change_replies : (n : ℕ) (a : Area) (reply x : ℕ) (width : Width) (double : Bool) → RowOf Change width reply → differs_width width double ≡ false → (double ≡ true → n ≡ 3 → ⊥)
    → MayReply n (reply_area a reply (carried width x))
change_replies n a reply x Either double r h room = absurd r
change_replies n a reply x Word double r h room = id_replies n a reply (x % 65536) false r (λ d. omega arith) (λ d. absurd (false≢true d))
change_replies n a reply x Double double r h room = id_replies n a reply x true r (λ d. absurd (false≢true (sym d))) (λ d. room (not-false double h))

-- ---- any task on a record

-- the reply of a deed where the element i holds x i
abbrev pub filled : Deed → (ℕ → ℕ) → Area
filled (Reply p) x = p
filled (Fetch p element) x = record { pke = p.pke; ind = p.ind; value = x element }
filled (Write p element) x = p

module _ (n : ℕ) (a : Area) (e : Entry) (few : e.elements ≤ 254) (x : ℕ → ℕ) where
  act_replies : verdict_in n a e ≡ granted → (e.double ≡ false → x (element_in a e) < 65536) → (act : Act) → (task_in a).act ≡ act
      → RowOf act (task_in a).width (task_in a).reply → MayReply n (filled (act_deed act a e) x)
  act_replies g word Nothing q row = idle_replies n
  act_replies g word Read q row =
      id_replies n a (read_reply (task_in a).reply e.double) (x (element_in a e)) e.double (read_id_lem (task_in a).reply e.double row) word (granted_room n a e g (ap moves_value q))
  act_replies g word Change q row =
      change_replies n a (task_in a).reply a.value (task_in a).width e.double row (rw q at (granted_width n a e g)) (granted_room n a e g (ap moves_value q))
  act_replies g word Count q row = count_replies n a (task_in a).reply (count_of e) row (count_few e few)
  act_replies g word Refuse q row = error_replies n a NoTask

  pub deed_replies : (verdict_in n a e ≡ granted → e.double ≡ false → x (element_in a e) < 65536) → MayReply n (filled (deed_on n a e) x)
  unfolding deed_on
  deed_replies word = go (verdict_in n a e) refl
    where
      go : (v : Result (Unit {0}) ParameterError) → verdict_in n a e ≡ v → MayReply n (filled (deed_on n a e) x)
      go (Err error) h = rw h (error_replies n a error)
      go (Ok done) h = rw h (act_replies h (word h) (task_in a).act refl (task_row_lem (a.pke / 4096)))
