-- The master reads the slave's reply to a task as what the slave answered: never 33. Assumes nothing.
use mathlib.Core.Path.{◌≡◌, refl, sym, ap, subst, ◌∙◌}
use mathlib.Core.Logic.{◌⊎◌, inl, inr}
use mathlib.Core.Bool.{Bool, true, false, cond}
use mathlib.Core.List.{List}
use Prim.Native.Nat.{ℕ, ◌/◌, ◌<◌}
use native.Mathlib.Omega.{arith}
use borrow.Author.Tests.{eqb-true, eqb-false}
use lib.Dec.{eqb, lit<}
use lib.ListN.{get_or}
use Rattle.rows.proofs.BoolLaws.{and_left}
use Rattle.words.specs.declared.Words.{Words}
use Rattle.setup.specs.declared.Setup.{Setup}
use Rattle.setup.proofs.SetupLaws.{Configured, ok_configured, area_wide}
use Rattle.opening.specs.Answers.{passed}
use Rattle.opening.proofs.AnswersLaws.{passed_opened}
use Rattle.area.specs.declared.Area.{Area}
use Rattle.area.specs.Read.{empty_area, Worded}
use Rattle.area.proofs.WordLaws.{Headed}
use Rattle.task.specs.Task.{task_of}
use Rattle.page.proofs.PageLaws.{id_back}
use Rattle.request.specs.declared.Request.TheVariants.{Task}
use Rattle.request.specs.Request.{unused_zero, value_fits, task_fits, expressible}
use Rattle.request.proofs.RequestLaws.{AllZero, Asked, task_asked}
use Rattle.slave.specs.Slave.{Call, net_in, lent_by, opening_at, reply_of, reply_at}
use Rattle.slave.specs.Perform.{Performed, plan_in, perform_of}
use Rattle.master.specs.Build.{task_area, telegram_for}
use Rattle.content.specs.declared.Question.{Question}
use Rattle.reply.specs.Reply.{read_task, read_of}
use Rattle.claims_master.specs.Claims.{TaskRead}
use Rattle.claims_master.proofs.CarriedLaws.{carried_of}
use Rattle.claims_master.proofs.TaskIsRead.{task_is_read}
use Rattle.claims_reply.specs.Claims.{area_done, ReplyRead}
use Rattle.claims_reply.proofs.ReadingLaws.{read_none, read_area}
use Rattle.claims_reply.proofs.ReplyLaws.{Replies, Suits, empty_replies, suited_replies, reply_echoes}
use Rattle.claims_reply.proofs.AnswerLaws.{task_answers}

abbrev asking : ℕ → ℕ → ℕ → Question
asking id number index = record { id = id; number = number; index = index }

-- ---- what the slave answers to the task

module _ (k : Call) (id number index value : ℕ) (c : Configured k.setup) (opened : opening_at k ≡ passed) (fits : task_fits k.setup.pkw id number index value ≡ true)
    (v : value < 4294967296) (small : (i : ℕ) → get_or k.memory.values i 0 < 4294967296) where
  abbrev s : Setup
  s = k.setup

  abbrev a : Area
  a = task_area id number index value

  abbrev q : Question
  q = asking id number index

  abbrev done : Area
  done = (perform_of s.pkw k.table k.memory a).area

  idle_replies : (s.pkw ≡ 0 → ⊥) → id ≡ 0 → AllZero number index value → Replies s.pkw q done
  unfolding plan_in task_area
  idle_replies some e z =
      rw (e, z.number_none, z.index_none) (empty_replies s.pkw (area_wide s (net_in k.received) c some))

  asked_replies : (s.pkw ≡ 0 → ⊥) → Asked s.pkw id number index value → Replies s.pkw q done
  unfolding task_area
  asked_replies some asked =
      let f = carried_of s id number index value c fits v in
      let back : a.pke / 4096 ≡ id = id_back id number in
      let held = subst (λ (i : ℕ). value_fits (task_of i).act (task_of i).width s.pkw value ≡ true) (sym back) asked.values in
      let r = task_answers (lent_by k) s.pkw a (area_wide s (net_in k.received) c some) v small held opened (λ e. asked.some (sym back ∙ e)) in
      let is = r.is ∙ reply_echoes id number index value r.reply_id r.content f.numbers f.indices in
      rw is (suited_replies s.pkw id number index r.reply_id r.content asked.some f.numbers f.indices (subst (λ (i : ℕ). Suits s.pkw i r.reply_id r.content) back r.suits))

  pub performed_replies : (s.pkw ≡ 0 → ⊥) → Replies s.pkw q done
  performed_replies some = go (task_asked s.pkw id number index value fits)
    where
      go : ((id ≡ 0) × AllZero number index value) ⊎ Asked s.pkw id number index value → Replies s.pkw q done
      go (inl e) = idle_replies some e.0 e.1
      go (inr asked) = asked_replies some asked

-- ---- the theorem

-- with a call that passes the opening check, the reply to a task that can be asked
module _ (k : Call) (id number index value : ℕ) (process : Words) (net : List ℕ) where
  abbrev none : Performed
  none = record { area = empty_area; memory = k.memory }

  abbrev did : Performed
  did = perform_of k.setup.pkw k.table k.memory (task_area id number index value)

  reply_of_task : Configured k.setup → opening_at k ≡ passed → task_fits k.setup.pkw id number index value ≡ true → value < 4294967296 → Worded k.status
      → ((i : ℕ) → get_or k.memory.values i 0 < 4294967296) → TaskRead k id number index value process
      → ReplyRead k (read_task k.setup (asking id number index) (reply_at (net_in k.received) k))
  unfolding reply_of
  reply_of_task c opened fits v g small t = go (eqb k.setup.pkw 0) refl
    where
      go : (b : Bool) → eqb k.setup.pkw 0 ≡ b → ReplyRead k (read_task k.setup (asking id number index) (reply_at (net_in k.received) k))
      go true e =
          let is : area_done k ≡ empty_area = ap (λ (x : Performed). x.area) t.performed ∙ ap (λ (b : Bool). (cond b none did).area) e in
          let h : Headed empty_area = record { pke_word = lit< tt; ind_word = lit< tt } in
          let read = read_none k.setup (net_in k.received) c empty_area k.status h g (asking id number index) (eqb-true k.setup.pkw 0 e) in
          rw (is, read) (record { number_is = refl; id_is = ap (λ (x : Area). x.pke / 4096) (sym is); value_is = ap (λ (x : Area). x.value) (sym is); process_is = refl; not_8 = λ z. omega arith })
      go false e =
          let some = eqb-false k.setup.pkw 0 e in
          let is : area_done k ≡ did.area = ap (λ (x : Performed). x.area) t.performed ∙ ap (λ (b : Bool). (cond b none did).area) e in
          let r = performed_replies k id number index value c opened fits v small some in
          let read = read_area k.setup (net_in k.received) c did.area k.status r.heads g (asking id number index) some r in
          rw (is, read) (record {
            number_is = refl;
            id_is = r.same_id ∙ ap (λ (x : Area). x.pke / 4096) (sym is);
            value_is = r.same_value ∙ ap (λ (x : Area). x.value) (sym is);
            process_is = refl;
            not_8 = λ z. r.not_8 (sym r.same_id ∙ z);
          })

  pub reply_is_read : opening_at k ≡ passed → expressible k.setup (Task id number index value process) net ≡ true → value < 4294967296 → Worded process → Worded k.status
      → ((i : ℕ) → get_or k.memory.values i 0 < 4294967296) → k.received ≡ telegram_for k.setup (Task id number index value process) net
      → ReplyRead k (read_of k.setup (Task id number index value process) (reply_at (net_in k.received) k))
  unfolding read_of expressible
  reply_is_read opened asked v w g small e =
      let ok = (passed_opened (lent_by k) opened).setup_good in
      let t = task_is_read k id number index value process net ok asked v w e in
      let fits = and_left (task_fits k.setup.pkw id number index value) (unused_zero k.setup.pzd process) asked in
      rw (ok, asked) (reply_of_task (ok_configured k.setup ok) opened fits v g small t)
