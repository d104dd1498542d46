-- Reply IDs and values that suit a task, and what an act answers where no error applies. Assumes nothing.
use mathlib.Core.Path.{◌≡◌, refl, sym}
use mathlib.Core.Bool.{Bool, true, false, not, ◌&&◌, ◌||◌, and-false, false≢true}
use Prim.Native.Nat.{ℕ, ◌+◌, ◌/◌, ◌%◌, ◌≤◌, ◌<◌}
use native.Mathlib.Omega.{arith}
use borrow.Author.Tests.{eq-eqb, eqb-true, eqb-false, le-ltb, not-true}
use lib.Dec.{eqb, ltb}
use lib.ListN.{get_or}
use Rattle.setup.proofs.SetupLaws.{Wide}
use Rattle.rows.proofs.BoolLaws.{or_first, or_second}
use Rattle.area.specs.declared.Area.{Area}
use Rattle.entry.specs.declared.Entry.{Entry}
use Rattle.entry.specs.Fields.{count_of}
use Rattle.opening.specs.Lent.{Memory}
use Rattle.task.specs.declared.Act.{Act}
use Rattle.task.specs.declared.Act.TheVariants.{Nothing, Read, Change, Count, Refuse}
use Rattle.task.specs.declared.Width.{Width}
use Rattle.task.specs.declared.Width.TheVariants.{Either, Word, Double}
use Rattle.errors.specs.declared.ParameterError.{ParameterError}
use Rattle.task.specs.Task.{task_of, read_reply, is_double_id, carried}
use Rattle.errors.specs.ErrorNumbers.{error_number}
use Rattle.verdict.specs.Verdict.{moves_value}
use Rattle.task.proofs.TaskLaws.{IdOf, RowOf, read_id_lem}
use Rattle.deed.proofs.ReplyLaws.{MayReply, error_small, id_replies, count_replies, error_replies}
use Rattle.deed.specs.Deed.{reply_area, error_area, task_in, element_in, act_deed}
use Rattle.request.specs.Request.{value_fits}
use Rattle.slave.specs.Perform.{done_by}
use Rattle.content.specs.Content.{in_row, known_id}
use Rattle.claims_master.proofs.CarriedLaws.{value_fits_lem}
use Rattle.claims_reply.proofs.ReplyLaws.{Suits}

-- ---- reply IDs and values that suit

-- the area p is a reply to the task in the area a
pub record Answers (n : ℕ) (a p : Area) : Type 0 where
  pub reply_id : ℕ
  pub content : ℕ
  pub is : p ≡ reply_area a reply_id content
  pub suits : Suits n (a.pke / 4096) reply_id content

-- a reply ID that may follow, where the reply may be sent
id_answers : (n : ℕ) (a : Area) (replyId v : ℕ) → Wide n → known_id (a.pke / 4096) replyId ≡ true → v < 4294967296
    → MayReply n (reply_area a replyId v) → Answers n a (reply_area a replyId v)
id_answers n a replyId v w known small m =
    let is : (reply_area a replyId v).pke / 4096 ≡ replyId = omega arith in
    let word : is_double_id replyId ≡ false → v < 65536 = rw is at m.word in
    let single : n ≡ 3 → is_double_id replyId ≡ false = rw is at m.single in
    record {
      reply_id = replyId;
      content = v;
      is = refl;
      suits = record {
        id_known = known;
        double_room = has_room (eqb n 3) (λ q. single (eqb-true n 3 q));
        word = is_word (is_double_id replyId) word;
        small = value_fits_lem n v w (λ q. word (single q)) small;
        few = rw is at m.few;
      };
    }
  where
    has_room : (three : Bool) → (three ≡ true → is_double_id replyId ≡ false) → (is_double_id replyId && three) ≡ false
    has_room true h = rw (h refl)
    has_room false h = and-false (is_double_id replyId)

    is_word : (double : Bool) → (double ≡ false → v < 65536) → (not double && ltb 65535 v) ≡ false
    is_word true h = refl
    is_word false h = le-ltb 65535 v (omega (arith, h refl))

error_known : (id : ℕ) → known_id id 7 ≡ true
unfolding known_id
error_known id = or_second (in_row (task_of id).act (task_of id).reply 7) true refl

pub error_answers : (n : ℕ) (a : Area) (error : ParameterError) → Wide n → Answers n a (error_area a error)
error_answers n a error w = id_answers n a 7 (error_number error) w (error_known (a.pke / 4096)) (omega (arith, error_small error)) (error_replies n a error)

-- ---- a granted task

-- what a record that was found tells of the value that is read, and of its elements
pub record Valued (n : ℕ) (act : Act) (e : Entry) (x : ℕ) : Type 0 where
  pub room : moves_value act ≡ true → e.double ≡ true → n ≡ 3 → ⊥
  pub whole : x < 4294967296
  pub word : e.double ≡ false → x ≤ 65535
  pub few : count_of e ≤ 65535

module _ (n : ℕ) (a : Area) (e : Entry) (m : Memory) (first : ℕ) (w : Wide n) (small : a.value < 4294967296) where
  -- the reply IDs of the act's row may follow
  row_known : (act : Act) (replyId : ℕ) → (task_in a).act ≡ act → in_row act (task_in a).reply replyId ≡ true → known_id (a.pke / 4096) replyId ≡ true
  unfolding known_id
  row_known act replyId q h = rw q (or_first (in_row act (task_in a).reply replyId) (eqb replyId 7 || eqb replyId 8) h)

  read_answers : (double : Bool) (x : ℕ) → (task_in a).act ≡ Read → IdOf false (task_in a).reply → x < 4294967296 → (double ≡ false → x < 65536) → (double ≡ true → n ≡ 3 → ⊥)
      → Answers n a (reply_area a (read_reply (task_in a).reply double) x)
  read_answers double x q r whole word room =
      let id = read_reply (task_in a).reply double in
      id_answers n a id x w (row_known Read id q (in_row_lem double)) whole (id_replies n a id x double (read_id_lem (task_in a).reply double r) word room)
    where
      in_row_lem : (d : Bool) → in_row Read (task_in a).reply (read_reply (task_in a).reply d) ≡ true
      in_row_lem true = or_second (eqb (read_reply (task_in a).reply true) (read_reply (task_in a).reply false)) _ (eq-eqb (read_reply (task_in a).reply true) (read_reply (task_in a).reply true) refl)
      in_row_lem false = or_first _ (eqb (read_reply (task_in a).reply false) (read_reply (task_in a).reply true)) (eq-eqb (read_reply (task_in a).reply false) (read_reply (task_in a).reply false) refl)

  change_answers : (width : Width) → (task_in a).act ≡ Change → RowOf Change width (task_in a).reply → value_fits Change width n a.value ≡ true
      → Answers n a (reply_area a (task_in a).reply (carried width a.value))
  unfolding value_fits
  change_answers Either q r v = absurd (false≢true v)
  change_answers Word q r v =
      let reply = (task_in a).reply in
      id_answers n a reply (a.value % 65536) w (row_known Change reply q (eq-eqb reply reply refl)) (omega arith)
      (id_replies n a reply (a.value % 65536) false r (λ d. omega arith) (λ d. absurd (false≢true d)))
  change_answers Double q r v =
      let reply = (task_in a).reply in
      id_answers n a reply a.value w (row_known Change reply q (eq-eqb reply reply refl)) small
      (id_replies n a reply a.value true r (λ d. absurd (false≢true (sym d))) (λ d. eqb-false n 3 (not-true (eqb n 3) v)))

  -- what an act that can be asked does where no error applies
  pub done_answers : (act : Act) → (task_in a).act ≡ act → RowOf act (task_in a).width (task_in a).reply → value_fits act (task_in a).width n a.value ≡ true
      → Valued n act e (get_or m.values (first + element_in a e) 0) → Answers n a (done_by (act_deed act a e) first m).area
  unfolding value_fits
  done_answers Nothing q r v f = absurd (false≢true v)
  done_answers Read q r v f = read_answers e.double (get_or m.values (first + element_in a e) 0) q r f.whole (λ d. omega (arith, f.word d)) (f.room refl)
  done_answers Change q r v f = change_answers (task_in a).width q r v
  done_answers Count q r v f =
      let reply = (task_in a).reply in
      id_answers n a reply (count_of e) w (row_known Count reply q (eq-eqb reply reply refl)) (omega (arith, f.few)) (count_replies n a reply (count_of e) r (omega (arith, f.few)))
  done_answers Refuse q r v f = absurd (false≢true v)
