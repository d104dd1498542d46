-- A slave takes a broadcast as it was asked, whatever its node and the master's are. Assumes nothing.
use mathlib.Core.Path.{◌≡◌, sym, ap, subst, ◌∙◌}
use mathlib.Core.Logic.{inl, inr}
use mathlib.Core.Bool.{true, false, not}
use mathlib.Core.List.{List}
use Prim.Native.Nat.{ℕ, ◌+◌, ◌*◌, ◌<◌}
use native.Mathlib.Omega.{arith}
use borrow.Author.Tests.{not-true}
use lib.Dec.{lit<}
use lib.ListN.{length}
use Rattle.std.specs.Prelude.{Result, Ok}
use Rattle.rows.proofs.BoolLaws.{and_left}
use Rattle.words.specs.Words.{word_at}
use Rattle.words.specs.declared.Words.{Words}
use Rattle.setup.specs.declared.Setup.{Setup}
use Rattle.setup.specs.SetupRules.{setup_ok}
use Rattle.setup.proofs.SetupLaws.{Configured, ok_configured, Wide, area_sized, area_wide}
use Rattle.address.specs.Address.{decoded_of, addressed}
use Rattle.address.specs.declared.Address.{Address}
use Rattle.address.specs.declared.Fault.{Fault}
use Rattle.address.specs.declared.Telegram.TheVariants.{Broadcast as BroadcastTelegram}
use Rattle.address.proofs.AddressLaws.{to_all}
use Rattle.area.specs.declared.Area.{Area}
use Rattle.area.specs.Net.{fixed_words}
use Rattle.area.specs.Read.{Worded, first_words}
use Rattle.area.proofs.WordLaws.{Headed}
use Rattle.area.proofs.StandLaws.{Stands}
use Rattle.net.specs.Telegram.{telegram_of}
use Rattle.net.proofs.SealLaws.{telegram_decoded}
use Rattle.net.proofs.ReadLaws.{area_stands, process_word, process_back}
use Rattle.broadcast.specs.declared.Command.{Command}
use Rattle.broadcast.specs.Broadcast.{is_void, control_after}
use Rattle.broadcast.proofs.VoidLaws.{not_void_commands}
use Rattle.control.specs.Control.{first_word, process_in, command_at, void_in}
use Rattle.request.specs.declared.Request.TheVariants.{Broadcast}
use Rattle.request.specs.Request.{unused_zero, command_of, expressible}
use Rattle.slave.specs.Slave.{Call, receiving, net_in, Outcome}
use Rattle.slave_answers.specs.declared.Answer.TheVariants.{Taken}
use Rattle.slave.proofs.CaseLaws.{executed, broadcast_taken}
use Rattle.master.specs.Build.{command_area, command_count, net_for, telegram_for}
use Rattle.master.proofs.BuildLaws.{command_counted}
use Rattle.claims_master.specs.Claims.{at_node, BroadcastRead}
use Rattle.claims_master.proofs.SentLaws.{net_some, net_fits, own_count}

-- the words of a command's area
command_words : (t : List ℕ) (n selector mask1 mask2 : ℕ) → Wide n → mask2 < 65536 → Stands t 3 (fixed_words n (command_area n selector mask1 mask2))
    → command_at t n ≡ command_of selector mask1 mask2
unfolding command_area command_at
command_words t n selector mask1 mask2 (inl e) m s =
    let a : Area = record { pke = selector; ind = mask1; value = mask2 } in
    let st : Stands t 3 (fixed_words 3 a) = rw e at s in
    let w1 : word_at t 3 ≡ selector = st 0 (lit< tt) in
    let w2 : word_at t 5 ≡ mask1 = st 1 (lit< tt) in
    let w3 : word_at t 7 ≡ mask2 = st 2 (lit< tt) ∙ omega arith in
    rw e (λ i. record { selector = w1 i; mask1 = w2 i; mask2 = w3 i; fourth = 0 })
command_words t n selector mask1 mask2 (inr e) m s =
    let a : Area = record { pke = selector; ind = mask1; value = mask2 * 65536 } in
    let st : Stands t 3 (fixed_words 4 a) = rw e at s in
    let w1 : word_at t 3 ≡ selector = st 0 (lit< tt) in
    let w2 : word_at t 5 ≡ mask1 = st 1 (lit< tt) in
    let w3 : word_at t 7 ≡ mask2 = st 2 (lit< tt) ∙ omega arith in
    let w4 : word_at t 9 ≡ 0 = st 3 (lit< tt) ∙ omega arith in
    rw e (λ i. record { selector = w1 i; mask1 = w2 i; mask2 = w3 i; fourth = w4 i })

taken_of : (k : Call) {c c' : Command} {p p' : Words} → c ≡ c' → p ≡ p'
    → ◌≡◌ {A = Outcome} (record { served = record { answer = Ok Taken; length = 0; control = control_after c k.control p }; memory = k.memory; reply = k.buffer })
    (record { served = record { answer = Ok Taken; length = 0; control = control_after c' k.control p' }; memory = k.memory; reply = k.buffer })
taken_of k e f = rw (e, f)

module _ (k : Call) (selector mask1 mask2 : ℕ) (process : Words) where
  abbrev s : Setup
  s = k.setup

  -- the words of the area
  abbrev p : ℕ
  p = command_count s

  abbrev a : Area
  a = command_area p selector mask1 mask2

  abbrev rx : List ℕ
  rx = telegram_of 32 (net_for s p a process)

  -- the master's node is not looked at, nor the slave's
  broadcast_read : (node : ℕ) → Configured (at_node node s) → is_void (command_of selector mask1 mask2) s.pkw s.pzd process.w1 ≡ false → mask1 < 65536 → mask2 < 65536 → Worded process
      → BroadcastRead (receiving k rx) selector mask1 mask2 process
  unfolding command_area
  broadcast_read node c v m1 m2 g =
      let n = net_in rx in
      let counted = command_counted (at_node node s) in
      let f = not_void_commands (command_of selector mask1 mask2) s.pkw s.pzd process.w1 v in
      let h : Headed a = record { pke_word = omega (arith, f.selects); ind_word = m1 } in
      let d : decoded_of rx ≡ Ok BroadcastTelegram =
      telegram_decoded 32 (net_for s p a process) (net_some (at_node node s) p c counted a process) (net_fits (at_node node s) p c counted a process)
      ∙ ap (λ (x : Result Address Fault). addressed x (length (net_for s p a process) + 3)) to_all in
      let own = own_count (at_node node s) p c counted a process 32 in
      let sized = area_sized (at_node node s) n c in
      let said = command_words rx p selector mask1 mask2 (area_wide (at_node node s) n c f.areas) m2 (area_stands 32 a p process s.pzd h g) in
      let words : (old : Words) → process_in s n old rx ≡ first_words s.pzd process old =
      λ old. process_back 32 a p process s.pzd h g old sized c.process in
      let some : 0 < s.pzd = let z = f.process in omega arith in
      let one : first_word s n rx ≡ process.w1 =
      process_word 32 a p process s.pzd h g 0 (p * 2 + 3) sized some c.process (omega arith) in
      let sound : void_in s n rx ≡ false = rw (said, one) v in
      record {
        decoded = d;
        own_length = own;
        command = said;
        process_is = words;
        first = one;
        not_void = sound;
        served = executed (receiving k rx) (Ok BroadcastTelegram) d ∙ broadcast_taken n (receiving k rx) own sound ∙ taken_of k said (words k.control);
      }

  pub broadcast_is_read : (node : ℕ) (net : List ℕ) → setup_ok (at_node node s) ≡ true → expressible (at_node node s) (Broadcast selector mask1 mask2 process) net ≡ true
      → mask1 < 65536 → mask2 < 65536 → Worded process
      → k.received ≡ telegram_for (at_node node s) (Broadcast selector mask1 mask2 process) net → BroadcastRead k selector mask1 mask2 process
  unfolding telegram_for expressible
  broadcast_is_read node net ok asked m1 m2 g e =
      let void = is_void (command_of selector mask1 mask2) s.pkw s.pzd process.w1 in
      subst (λ (t : List ℕ). BroadcastRead (receiving k t) selector mask1 mask2 process) (sym e)
      (broadcast_read node (ok_configured (at_node node s) ok) (not-true void (and_left (not void) (unused_zero s.pzd process) asked)) m1 m2 g)
