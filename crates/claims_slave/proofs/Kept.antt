-- What a slave call keeps. Assumes nothing.
--     refused_keeps    a refused call leaves values, control words and reply buffer as they were, and reports length 0
--     opening_kept     after a call that passed the opening check, the next one passes it too
--     buffer_kept      a call that passed the opening check leaves a buffer of the same length
use Prim.Native.Nat.{ℕ, ◌+◌, ◌*◌, ◌/◌, ◌<◌}
use mathlib.Core.Path.{◌≡◌, refl}
use mathlib.Core.Bool.{Bool, true, false, false≢true}
use mathlib.Core.List.{List}
use native.Mathlib.Omega.{arith}
use lib.Dec.{eqb}
use lib.ListN.{length}
use Rattle.std.specs.Prelude.{Option, Some, None, Result, Ok, Err}
use Rattle.words.specs.declared.Words.{Words}
use Rattle.setup.specs.declared.Setup.{Setup}
use Rattle.setup.specs.SetupRules.{area_count}
use Rattle.setup.proofs.SetupLaws.{Configured, ok_configured, area_few, area_sized}
use Rattle.table.specs.Records.{entry_at, first_place}
use Rattle.address.specs.declared.Telegram.TheVariants.{Mirror}
use Rattle.address.proofs.DecodedLaws.{telegram_framed}
use Rattle.opening.specs.Lent.{Lent, lending}
use Rattle.opening.specs.Answers.{passed, opening_of}
use Rattle.opening.proofs.AnswersLaws.{passed_opened}
use Rattle.opening.proofs.KeptLaws.{change_keeps_opening}
use Rattle.area.specs.declared.Area.{Area}
use Rattle.area.specs.Read.{area_at}
use Rattle.net.proofs.NormalLaws.{length_normal}
use Rattle.net.proofs.SealLaws.{written_long}
use Rattle.page.specs.Page.{full_number}
use Rattle.task.specs.declared.Act.{Act}
use Rattle.task.specs.declared.Act.TheVariants.{Nothing as Idle, Read, Change, Count, Refuse}
use Rattle.errors.specs.declared.ParameterError.{ParameterError}
use Rattle.verdict.specs.Verdict.{granted}
use Rattle.deed.specs.Deed.{task_in, value_in, element_in, verdict_in, act_deed, deed_on}
use Rattle.deed.proofs.DeedLaws.{element_there, change_inside}
use Rattle.slave.specs.declared.Plan.{Plan}
use Rattle.slave.specs.Perform.{found_of, plan_on, plan_in, plan_at, carried_out}
use Rattle.slave.specs.Slave.{Call, Outcome, lent_by, opening_at, net_in, reply_of, reply_at, task_at, call_of}
use Rattle.slave.proofs.PerformLaws.{found_whole, named_found}
use Rattle.claims_slave.specs.Outcomes.{is_refused, Untouched}
use Rattle.claims_slave.proofs.Cases.{call_cases}

-- ---- refusals

module _ (k : Call) where
  pub refused_keeps : is_refused (call_of k).served.answer ≡ true → Untouched (call_of k) k
  refused_keeps =
      call_cases k (λ o. is_refused o.served.answer ≡ true → Untouched o k)
      (λ r b e. record { silent = refl; held = refl; memory_stays = refl; buffer_stays = refl })
      (λ o d l e. absurd (false≢true e))
      (λ o d e. absurd (false≢true e))
      (λ o d l v e. absurd (false≢true e))

-- ---- a task keeps the opening check passing

-- what is found is a record of the table
pub found_is : (t : List ℕ) (a : Area) (j : ℕ) → found_of t a ≡ Some j → j < length t / 12
found_is t a j e = omega (arith, found_whole t (full_number a.pke a.ind) j (named_found t a j e))

module _ (l : Lent) (opens : opening_of l ≡ passed) where
  -- a plan carried out keeps it
  abbrev Stays : Plan → Type 0
  Stays p = opening_of (lending l (carried_out p l.memory).memory) ≡ passed

  module _ (n : ℕ) (a : Area) where
    module _ (j : ℕ) (below : j < length l.table / 12) where
      act_keeps : (act : Act) → (task_in a).act ≡ act → verdict_in n a (entry_at l.table j) ≡ granted
          → Stays (record { deed = act_deed act a (entry_at l.table j); first = first_place l.table j })
      act_keeps Idle q g = opens
      act_keeps Read q g = opens
      act_keeps Change q g =
          let e = entry_at l.table j in
          change_keeps_opening l j (element_in a e) (value_in a) opens below (element_there n a e g) (change_inside n a e q g)
      act_keeps Count q g = opens
      act_keeps Refuse q g = opens

      record_keeps : Stays (record { deed = deed_on n a (entry_at l.table j); first = first_place l.table j })
      unfolding deed_on
      record_keeps = go (verdict_in n a (entry_at l.table j)) refl
        where
          go : (v : Result (Unit {0}) ParameterError) → verdict_in n a (entry_at l.table j) ≡ v → Stays (record { deed = deed_on n a (entry_at l.table j); first = first_place l.table j })
          go (Ok done) g = rw g (act_keeps (task_in a).act refl g)
          go (Err error) g = rw g opens

    found_keeps : (f : Option ℕ) → found_of l.table a ≡ f → Stays (plan_on n l.table a f)
    found_keeps None e = opens
    found_keeps (Some j) e = record_keeps j (found_is l.table a j e)

    area_keeps : Stays (plan_in n l.table a)
    unfolding plan_in
    area_keeps = go (eqb (a.pke / 4096) 0) refl
      where
        go : (b : Bool) → eqb (a.pke / 4096) 0 ≡ b → Stays (plan_in n l.table a)
        go true e = rw e opens
        go false e = rw e (found_keeps (found_of l.table a) refl)

  task_keeps : (n : ℕ) (rx : List ℕ) → Stays (plan_at n l.table rx)
  unfolding plan_at
  task_keeps n rx = go (eqb n 0) refl
    where
      go : (b : Bool) → eqb n 0 ≡ b → Stays (plan_at n l.table rx)
      go true e = rw e opens
      go false e = rw e (area_keeps n (area_at rx n))

-- ---- the buffer's length

-- a reply has the words of its areas, and four more bytes
pub reply_long : (s : Setup) (n : ℕ) (a : Area) (status : Words) → Configured s → length (reply_of s n a status) ≡ (area_count s n + s.pzd) * 2 + 4
unfolding reply_of
reply_long s n a status c = omega (arith, length_normal a (area_count s n) status s.pzd c.process (area_sized s n c) s.node)

-- ---- the next call passes the opening check too

module _ (k : Call) where
  abbrev after : Outcome
  after = call_of k

  pub buffer_kept : opening_at k ≡ passed → length after.reply ≡ length k.buffer
  buffer_kept p =
      let o = passed_opened (lent_by k) p in
      let c = ok_configured k.setup o.setup_good in
      let n = net_in k.received in
      call_cases k (λ r. length r.reply ≡ length k.buffer)
      (λ r b. refl)
      (λ q d l. written_long k.buffer (reply_at n k) (omega (arith, reply_long k.setup n (task_at n k).area k.status c, o.buffer, c.process, area_few k.setup n c)))
      (λ q d. let f = telegram_framed k.received (Ok (Mirror k.setup.node)) d refl in
      written_long k.buffer k.received (omega (arith, f.counted.count, f.counted.high, o.buffer)))
      (λ q d l v. refl)

  pub memory_kept : opening_at k ≡ passed → opening_of (lending (lent_by k) after.memory) ≡ passed
  memory_kept p =
      call_cases k (λ r. opening_of (lending (lent_by k) r.memory) ≡ passed)
      (λ r b. p)
      (λ q d l. task_keeps (lent_by k) p (area_count k.setup (net_in k.received)) k.received)
      (λ q d. p)
      (λ q d l v. p)

  pub opening_kept : opening_at k ≡ passed → opening_of (record { setup = k.setup; table = k.table; memory = after.memory; list = k.list; room = length after.reply }) ≡ passed
  opening_kept p = rw (buffer_kept p) (memory_kept p)
