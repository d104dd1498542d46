-- The parameter area of every reply, for any received bytes. Assumes nothing.
--     four_sent     four words: ID, must-be-zero bits, and PWE1 is 0 unless the ID is 2 or 5
--     three_sent    three words: the same, no double value, and PWE1 holds the value or error number
use Prim.Native.Nat.{ℕ, ◌/◌, ◌%◌, ◌<◌}
use mathlib.Core.Path.{◌≡◌, ap, ◌∙◌}
use mathlib.Core.List.{List}
use native.Mathlib.Omega.{arith}
use Rattle.std.specs.Prelude.{Ok}
use Rattle.words.specs.Words.{word_at}
use Rattle.area.specs.declared.Area.{Area}
use Rattle.area.specs.Net.{fixed_words, process_words, net_of}
use Rattle.net.specs.Telegram.{telegram_of}
use Rattle.net.proofs.SealLaws.{written_first}
use Rattle.deed.proofs.ReplyLaws.{MayReply}
use Rattle.slave_answers.specs.declared.Answer.TheVariants.{Replied}
use Rattle.slave.specs.Slave.{count_in, Call, lent_by, net_in, task_at, reply_of, reply_at, sent_by, call_of}
use Rattle.claims_slave.specs.ReplyArea.{id_of, reply_ids, OneOf, ZeroBits, NotDouble, FourSent, ThreeSent}
use Rattle.claims_slave.proofs.WhenAnswered.{replied_call, replied_exactly}
use Rattle.claims_slave.proofs.SendLaws.{id_listed, task_sends}

-- ---- the bytes

-- the words of an area of four words, and of three, as they stand in a telegram
module _ (adr : ℕ) (a : Area) (ps : List ℕ) where
  abbrev four_bytes : List ℕ
  four_bytes = telegram_of adr (net_of (fixed_words 4 a) ps)

  abbrev three_bytes : List ℕ
  three_bytes = telegram_of adr (net_of (fixed_words 3 a) ps)

  four_words : (word_at four_bytes 3 ≡ a.pke) × (word_at four_bytes 5 ≡ a.ind) × (word_at four_bytes 7 ≡ a.value / 65536 % 65536) × (word_at four_bytes 9 ≡ a.value % 65536)
  unfolding net_of
  four_words = (omega arith, omega arith, omega arith, omega arith)

  three_words : (word_at three_bytes 3 ≡ a.pke) × (word_at three_bytes 5 ≡ a.ind) × (word_at three_bytes 7 ≡ a.value % 65536)
  unfolding net_of
  three_words = (omega arith, omega arith, omega arith)

module _ (t : List ℕ) (n : ℕ) (a : Area) (m : MayReply n a) (pke : word_at t 3 ≡ a.pke) (ind : word_at t 5 ≡ a.ind) where
  id_sent : OneOf (id_of t) reply_ids
  id_sent = rw pke (id_listed (a.pke / 4096) m.few m.not_3)

  zero_sent : ZeroBits t
  zero_sent = record { pke = rw pke m.pke_zero; ind = rw ind m.ind_zero }

  word_sent : NotDouble (id_of t) → a.value < 65536
  word_sent = rw pke m.word

  single_sent : n ≡ 3 → NotDouble (id_of t)
  single_sent = rw pke m.single

  pub in_four : word_at t 7 ≡ a.value / 65536 % 65536 → word_at t 9 ≡ a.value % 65536 → FourSent t a.value
  in_four high low = record {
    id = id_sent;
    zero = zero_sent;
    pwe1 = λ d. high ∙ omega (arith, word_sent d);
    pwe2 = λ d. low ∙ omega (arith, word_sent d);
  }

  pub in_three : n ≡ 3 → word_at t 7 ≡ a.value % 65536 → ThreeSent t a.value
  in_three three low = record {
    id = id_sent;
    zero = zero_sent;
    single = single_sent three;
    pwe1 = low ∙ omega (arith, word_sent (single_sent three));
  }

-- ---- every reply

module _ (k : Call) where
  abbrev n : ℕ
  n = net_in k.received

  abbrev area : Area
  area = (task_at n k).area

  abbrev process : List ℕ
  process = process_words k.setup.pzd k.status

  -- what is sent, over the words of the area
  sent_is : (call_of k).served.answer ≡ Ok Replied → sent_by (call_of k) ≡ telegram_of k.setup.node (net_of (fixed_words (count_in k) area) process)
  unfolding reply_of
  sent_is e =
      let h = (replied_exactly k).0 e in
      rw (replied_call k h.0 h.1 h.2) (written_first k.buffer (reply_at n k))

  sends : (call_of k).served.answer ≡ Ok Replied → MayReply (count_in k) area
  sends e = task_sends (lent_by k) ((replied_exactly k).0 e).0 (count_in k) k.received

  pub four_sent : (call_of k).served.answer ≡ Ok Replied → count_in k ≡ 4 → FourSent (sent_by (call_of k)) (task_at (net_in k.received) k).area.value
  four_sent e four =
      let w = four_words k.setup.node area process in
      let is = sent_is e ∙ ap (λ (c : ℕ). telegram_of k.setup.node (net_of (fixed_words c area) process)) four in
      rw is (in_four (four_bytes k.setup.node area process) (count_in k) area (sends e) w.0 w.1 w.2 w.3)

  pub three_sent : (call_of k).served.answer ≡ Ok Replied → count_in k ≡ 3 → ThreeSent (sent_by (call_of k)) (task_at (net_in k.received) k).area.value
  three_sent e three =
      let w = three_words k.setup.node area process in
      let is = sent_is e ∙ ap (λ (c : ℕ). telegram_of k.setup.node (net_of (fixed_words c area) process)) three in
      rw is (in_three (three_bytes k.setup.node area process) (count_in k) area (sends e) w.0 w.1 three w.2)
