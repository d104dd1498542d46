-- What a slave call that replies sends, stores and takes. Assumes nothing.
--     reply_sound         a reply passes the frame check and has the task's node and lengths
--     mirror_same         a mirror's reply is the received telegram, byte for byte
--     change_stored       a granted change stores the value that it carries at the place that it means, and nowhere else
--     control_replaced    with bit 10, the first PZD control words are those received
--     taken_runs          after a broadcast that is taken, bit 10 of the first control word is 1
use Prim.Native.Nat.{ℕ, ◌/◌, ◌<◌}
use mathlib.Core.Path.{◌≡◌, refl, sym, ap, ◌∙◌}
use mathlib.Core.Bool.{Bool, true, false, false≢true}
use native.Mathlib.Omega.{arith}
use borrow.Author.Tests.{ne_eqb, eqb-true}
use lib.Dec.{eqb}
use lib.ListN.{length}
use Rattle.std.specs.Prelude.{Result, Ok}
use Rattle.rows.specs.Bits.{bit}
use Rattle.words.specs.Words.{Bytes}
use Rattle.setup.proofs.SetupLaws.{ok_configured, area_few, own_words}
use Rattle.table.specs.Records.{entry_at, first_place}
use Rattle.frame.specs.Frame.{last_of, frame_of}
use Rattle.address.specs.Address.{addressed, decoded_of}
use Rattle.address.specs.declared.Address.{Address}
use Rattle.address.specs.declared.Fault.{Fault}
use Rattle.address.specs.declared.Telegram.TheVariants.{Normal}
use Rattle.address.proofs.AddressLaws.{to_one}
use Rattle.address.proofs.DecodedLaws.{telegram_framed}
use Rattle.opening.specs.Lent.{stored}
use Rattle.opening.proofs.AnswersLaws.{passed_opened}
use Rattle.area.specs.Net.{fixed_words, process_words, net_of}
use Rattle.area.proofs.AreaLaws.{process_first}
use Rattle.net.proofs.SealLaws.{length_telegram, telegram_passes, written_first, written_rest}
use Rattle.broadcast.specs.Broadcast.{is_void}
use Rattle.broadcast.proofs.VoidLaws.{not_void_commands, runs_after}
use Rattle.page.specs.Page.{full_number}
use Rattle.task.specs.declared.Act.{Act}
use Rattle.task.specs.declared.Act.TheVariants.{Change}
use Rattle.task.specs.Task.{tasks, task_of}
use Rattle.verdict.specs.Verdict.{changes_act}
use Rattle.deed.specs.Deed.{value_in, act_deed}
use Rattle.deed.proofs.DeedLaws.{deed_granted, element_there}
use Rattle.control.specs.Control.{first_word, process_in, control_taken, command_at, command_in}
use Rattle.slave_answers.specs.declared.Answer.TheVariants.{Replied, Mirrored, Taken}
use Rattle.slave.specs.Perform.{plan_in, plan_at, done_by}
use Rattle.slave.specs.Slave.{count_in, Call, lent_by, net_in, task_at, reply_of, reply_at, call_of}
use Rattle.slave.proofs.PerformLaws.{found_fits, named_found}
use Rattle.claims_slave.specs.Outcomes.{SoundReply, SameReply, area_in, GrantedChange, place_in}
use Rattle.claims_slave.proofs.Kept.{reply_long}
use Rattle.claims_slave.proofs.WhenAnswered.{replied_call, mirrored_call, taken_call, replied_exactly, mirrored_exactly, taken_exactly}

-- ---- replies

module _ (k : Call) where
  pub reply_sound : (call_of k).served.answer ≡ Ok Replied → SoundReply (call_of k) k
  unfolding reply_of
  reply_sound e =
      let h = (replied_exactly k).0 e in
      let c = ok_configured k.setup (passed_opened (lent_by k) h.0).setup_good in
      let n = net_in k.received in
      let a = (task_at n k).area in
      let net = net_of (fixed_words (count_in k) a) (process_words k.setup.pzd k.status) in
      let f = telegram_framed k.received (Ok (Normal k.setup.node 3 (last_of k.received))) h.1 refl in
      let own = own_words k.setup n h.2 in
      let rl = reply_long k.setup n a k.status c in
      let long : length net ≡ n = omega (arith, length_telegram k.setup.node net, rl, own) in
      let frame : frame_of (reply_at n k) ≡ Ok (last_of k.received) =
      telegram_passes k.setup.node net (omega (arith, f.counted.long)) (omega (arith, own, c.process, area_few k.setup n c)) ∙ ap Ok (omega (arith, f.counted.long)) in
      let sent = written_first k.buffer (reply_at n k) in
      rw (replied_call k h.0 h.1 h.2)
      (record {
        passes = ap frame_of sent ∙ frame;
        reads = ap decoded_of sent ∙ rw frame (ap (λ (x : Result Address Fault). addressed x (last_of k.received)) (to_one k.setup.node c.nodes));
        reported = ap length (sym sent);
        as_long = rl ∙ omega (arith, own, f.counted.long);
        rest = written_rest k.buffer (reply_at n k);
      })

  pub mirror_same : (call_of k).served.answer ≡ Ok Mirrored → SameReply (call_of k) k
  mirror_same e =
      let h = (mirrored_exactly k).0 e in
      rw (mirrored_call k h.0 h.1)
      (record { same = written_first k.buffer k.received; as_long = refl; rest = written_rest k.buffer k.received })

-- ---- what is stored

-- task 0 is no change
change_busy : (id : ℕ) → (task_of id).act ≡ Change → eqb id 0 ≡ false
unfolding task_of tasks
change_busy id q = go (eqb id 0) refl
  where
    go : (b : Bool) → eqb id 0 ≡ b → eqb id 0 ≡ false
    go true e = absurd (false≢true (ap changes_act (rw (eqb-true id 0 e) at q)))
    go false e = e

module _ (k : Call) where
  -- a granted change of record j
  change_done : (j : ℕ) → GrantedChange k j → (task_at (net_in k.received) k).memory ≡ stored k.memory (place_in k j) (value_in (area_in k))
  unfolding plan_at plan_in
  change_done j g =
      let a = area_in k in
      let e = entry_at k.table j in
      rw (ne_eqb (count_in k) 0 g.has_area, change_busy (a.pke / 4096) g.changes, g.found, deed_granted (count_in k) a e g.granted)
      (ap (λ (x : Act). (done_by (act_deed x a e) (first_place k.table j) k.memory).memory) g.changes)

  pub change_stored : (call_of k).served.answer ≡ Ok Replied → (j : ℕ) → GrantedChange k j
      → ((call_of k).memory ≡ stored k.memory (place_in k j) (value_in (area_in k))) × (place_in k j < length k.memory.values)
  change_stored e j g =
      let h = (replied_exactly k).0 e in
      let o = passed_opened (lent_by k) h.0 in
      let a = area_in k in
      let fits = found_fits k.table (full_number a.pke a.ind) j (named_found k.table a j g.found) in (
        rw (replied_call k h.0 h.1 h.2) (change_done j g),
        omega (arith, o.count, fits, element_there (count_in k) a (entry_at k.table j) g.granted),
      )

  pub control_replaced : (call_of k).served.answer ≡ Ok Replied → (k.setup.pzd ≡ 0 → ⊥) → bit 10 (first_word k.setup (net_in k.received) k.received) ≡ 1
      → (call_of k).served.control ≡ process_in k.setup (net_in k.received) k.control k.received
  unfolding control_taken
  control_replaced e some b =
      let h = (replied_exactly k).0 e in
      rw (replied_call k h.0 h.1 h.2) (rw (ne_eqb k.setup.pzd 0 some, b))

  pub taken_runs : Bytes k.received → (call_of k).served.answer ≡ Ok Taken → bit 10 (call_of k).served.control.w1 ≡ 1
  unfolding command_at
  taken_runs b e =
      let h = (taken_exactly k).0 e in
      let s = k.setup in
      let n = net_in k.received in
      let p = process_in s n k.control k.received in
      let c = command_in s n k.received in
      let commands = not_void_commands c s.pkw s.pzd (first_word s n k.received) h.3 in
      let first : first_word s n k.received ≡ p.w1 = sym (process_first k.received (count_in k) s.pzd k.control commands.process) in
      let v : is_void c s.pkw s.pzd p.w1 ≡ false = rw first at h.3 in
      rw (taken_call k h.0 h.1 h.2 h.3) (runs_after c s.pkw s.pzd k.control p v (omega (arith, b 5, b 6)))
