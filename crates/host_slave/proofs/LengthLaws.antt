-- A reply has as many bytes as the telegram that it answers, so at most 256, and its length fits in 32 bits. Assumes nothing.
use mathlib.Core.Path.{◌≡◌, refl}
use mathlib.Core.Bool.{Bool, true, false}
use mathlib.Core.List.{List}
use Prim.Native.Nat.{ℕ, ◌+◌, ◌-◌, ◌≤◌}
use native.Mathlib.Omega.{arith}
use lib.Dec.{lit≤}
use lib.ListN.{length}
use Rattle.std.specs.Prelude.{Result, Ok, Err}
use Rattle.words.specs.declared.Words.{Words}
use Rattle.setup.specs.declared.Setup.{Setup}
use Rattle.setup.specs.SetupRules.{area_count, other_node, other_length}
use Rattle.setup.proofs.SetupLaws.{Configured, ok_configured, own_words, area_sized}
use Rattle.address.specs.Address.{decoded_of}
use Rattle.address.specs.declared.Telegram.{Telegram}
use Rattle.address.specs.declared.Fault.{Fault}
use Rattle.address.specs.declared.Telegram.TheVariants.{Normal, Mirror, Broadcast}
use Rattle.address.proofs.DecodedLaws.{telegram_framed, normal_bounds}
use Rattle.area.specs.declared.Area.{Area}
use Rattle.area.specs.Net.{fixed_words, process_words}
use Rattle.area.proofs.WordLaws.{length_fixed, length_process}
use Rattle.net.proofs.NetLaws.{length_sent}
use Rattle.opening.specs.Lent.{Memory}
use Rattle.opening.proofs.AnswersLaws.{passed_opened}
use Rattle.control.specs.Control.{void_in}
use Rattle.slave.specs.declared.Served.{Served}
use Rattle.slave.specs.Slave.{Call, Leaves, lent_by, opening_at, reply_of, task_at, normal_case, mirror_case, broadcast_case, execute_decoded, call_opened, call_of}
use Rattle.slave.proofs.CaseLaws.{normal_other_node, normal_other_length, normal_replied, mirror_other_node, mirror_sent, broadcast_other_length, broadcast_void, broadcast_taken, executed, called}
use Rattle.slave_answers.specs.declared.OpeningFault.{OpeningFault}

-- the reply of a telegram with n net bytes has n of them too
reply_as_long : (s : Setup) (n : ℕ) (a : Area) (status : Words) → Configured s → other_length s n ≡ false → length (reply_of s n a status) ≡ n + 4
unfolding reply_of
reply_as_long s n a status c own =
    omega (
      arith,
      length_sent s.node (fixed_words (area_count s n) a) (process_words s.pzd status),
      length_fixed (area_count s n) a (area_sized s n c),
      length_process s.pzd status c.process,
      own_words s n own,
    )

module _ (k : Call) where
  normal_most : (node n : ℕ) → Configured k.setup → n ≤ 252 → (normal_case node n k).served.length ≤ 256
  normal_most node n c few = go (other_node k.setup node) (other_length k.setup n) refl refl
    where
      go : (x y : Bool) → other_node k.setup node ≡ x → other_length k.setup n ≡ y → (normal_case node n k).served.length ≤ 256
      go true y e f = rw (normal_other_node node n k e) (lit≤ tt)
      go false true e f = rw (normal_other_length node n k e f) (lit≤ tt)
      go false false e f = rw (normal_replied node n k e f) (omega (arith, reply_as_long k.setup n (task_at n k).area k.status c f))

  mirror_most : (node : ℕ) → length k.received ≤ 256 → (mirror_case node k).served.length ≤ 256
  mirror_most node few = go (other_node k.setup node) refl
    where
      go : (x : Bool) → other_node k.setup node ≡ x → (mirror_case node k).served.length ≤ 256
      go true e = rw (mirror_other_node node k e) (lit≤ tt)
      go false e = rw (mirror_sent node k e) few

  broadcast_most : (n : ℕ) → (broadcast_case n k).served.length ≤ 256
  broadcast_most n = go (other_length k.setup n) (void_in k.setup n k.received) refl refl
    where
      go : (x y : Bool) → other_length k.setup n ≡ x → void_in k.setup n k.received ≡ y → (broadcast_case n k).served.length ≤ 256
      go true y e f = rw (broadcast_other_length n k e) (lit≤ tt)
      go false true e f = rw (broadcast_void n k e f) (lit≤ tt)
      go false false e f = rw (broadcast_taken n k e f) (lit≤ tt)

  executed_most : Configured k.setup → (d : Result Telegram Fault) → decoded_of k.received ≡ d → (execute_decoded d k).served.length ≤ 256
  executed_most c (Ok (Normal node start end)) e =
      let f = telegram_framed k.received (Ok (Normal node start end)) e refl in
      let b = normal_bounds k.received node start end e in
      normal_most node (end - start) c (omega (arith, b.0, b.1, f.counted.count, f.counted.high))
  executed_most c (Ok (Mirror node)) e =
      let f = telegram_framed k.received (Ok (Mirror node)) e refl in
      mirror_most node (omega (arith, f.counted.count, f.counted.high))
  executed_most c (Ok Broadcast) e = broadcast_most (length k.received - 4)
  executed_most c (Err fault) e = lit≤ tt

  opened_most : (o : Result (Unit {0}) OpeningFault) → opening_at k ≡ o → (call_opened o k).served.length ≤ 256
  opened_most (Ok done) e =
      rw (executed k (decoded_of k.received) refl)
      (executed_most (ok_configured k.setup (passed_opened (lent_by k) e).setup_good) (decoded_of k.received) refl)
  opened_most (Err fault) e = lit≤ tt

  pub call_most : (call_of k).served.length ≤ 256
  call_most = rw (called k (opening_at k) refl) (opened_most (opening_at k) refl)

  pub served_fits : {r : Served} {m : Memory} {out : List ℕ} → Leaves (call_of k) r m out → r.length ≤ 256
  served_fits l = rw l.answers call_most
