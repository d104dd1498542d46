-- A slave of the same set-up reads a task telegram as the task that was asked. Assumes nothing.
use mathlib.Core.Path.{◌≡◌, refl, sym, ap, subst, ◌∙◌}
use mathlib.Core.Bool.{Bool, true, false, not, ◌&&◌, cond}
use mathlib.Core.List.{List}
use Prim.Native.Nat.{ℕ, ◌+◌, ◌-◌, ◌*◌, ◌/◌, ◌%◌, ◌^◌, ◌<◌}
use native.Mathlib.Omega.{arith}
use borrow.Author.Tests.{eqb-false}
use lib.Dec.{eqb}
use Rattle.std.specs.Prelude.{Ok}
use Rattle.rows.proofs.BoolLaws.{and_left}
use Rattle.words.specs.declared.Words.{Words}
use Rattle.setup.specs.declared.Setup.{Setup}
use Rattle.setup.specs.SetupRules.{setup_ok, area_count, other_length}
use Rattle.setup.proofs.SetupLaws.{Configured, ok_configured, area_few, area_sized, area_words_lem, Counted, node_own}
use Rattle.address.specs.Address.{decoded_of}
use Rattle.address.specs.declared.Telegram.TheVariants.{Normal}
use Rattle.area.specs.declared.Area.{Area}
use Rattle.area.specs.Read.{empty_area, area_at, Worded, first_words}
use Rattle.area.proofs.WordLaws.{Headed}
use Rattle.net.specs.Telegram.{telegram_of}
use Rattle.net.proofs.ReadLaws.{process_word, area_back, process_back}
use Rattle.page.proofs.PageLaws.{ind_index, number_back, named_back, id_back}
use Rattle.opening.specs.Lent.{Memory}
use Rattle.control.specs.Control.{first_word, process_in, control_taken}
use Rattle.request.specs.declared.Request.TheVariants.{Task}
use Rattle.request.specs.Request.{unused_zero, task_fits, expressible}
use Rattle.slave.specs.Slave.{Call, receiving, net_in, execute_of, normal_outcome}
use Rattle.slave.specs.Perform.{replying, plan_in, plan_at, carried_out, perform_of, task_done}
use Rattle.slave.proofs.CaseLaws.{executed, normal_replied}
use Rattle.master.specs.Build.{task_area, task_count, net_for, telegram_for}
use Rattle.master.proofs.BuildLaws.{task_counted}
use Rattle.claims_master.specs.Claims.{TaskRead}
use Rattle.claims_master.proofs.SentLaws.{own_count, normal_decoded}
use Rattle.claims_master.proofs.CarriedLaws.{CarriedTask, carried_of}

-- an area of k words comes back
pub normal_area : (s : Setup) (k : ℕ) (c : Configured s) → Counted s k → (a : Area) (w : Words) → Headed a → Worded w → (k ≡ 0 → ⊥) → a.value < 65536 ^ (k - 2)
    → area_at (telegram_of s.node (net_for s k a w)) k ≡ a
normal_area s k c counted a w h g p fits =
    let n = (k + s.pzd) * 2 in
    let q : area_count s n ≡ 0 → ⊥ = λ z. p (sym counted ∙ z) in
    area_back s.node a k w s.pzd h g (omega (arith, counted, (area_words_lem s n c q).0)) (omega (arith, counted, area_few s n c)) fits

control_of : (z : Bool) (x y : ℕ) (p q control : Words) → (z ≡ false → x ≡ y) → p ≡ q
    → cond (not z && eqb (x / 1024 % 2) 1) p control ≡ cond (not z && eqb (y / 1024 % 2) 1) q control
control_of true x y p q control h e = refl
control_of false x y p q control h e = rw (h refl, e)

-- a slave replies to a telegram that is decoded as normal with its node and its length
pub normal_served : (k : Call) → decoded_of k.received ≡ Ok (Normal k.setup.node 3 (net_in k.received + 3)) → other_length k.setup (net_in k.received) ≡ false
    → execute_of k ≡ normal_outcome (net_in k.received) k
normal_served k d own =
    let n = net_in k.received in
    let same : n + 3 - 3 ≡ n = omega arith in
    executed k (Ok (Normal k.setup.node 3 (n + 3))) d
    ∙ rw same (normal_replied k.setup.node n k (node_own k.setup k.setup.node refl) own)

-- the task of an area that is read
task_of_lem : (n : ℕ) (t : List ℕ) (m : Memory) (rx : List ℕ) (a : Area) → ((n ≡ 0 → ⊥) → area_at rx n ≡ a)
    → task_done n t m rx ≡ cond (eqb n 0) (record { area = empty_area; memory = m }) (perform_of n t m a)
unfolding plan_at
task_of_lem n t m rx a h = go (eqb n 0) refl
  where
    go : (b : Bool) → eqb n 0 ≡ b
        → carried_out (cond b (replying empty_area) (plan_in n t (area_at rx n))) m ≡ cond b (record { area = empty_area; memory = m }) (perform_of n t m a)
    go true e = refl
    go false e = ap (λ (x : Area). perform_of n t m x) (h (eqb-false n 0 e))

-- the control words of a telegram whose first word and process words are known
control_taken_lem : (s : Setup) (n : ℕ) (rx : List ℕ) (process control : Words) → (0 < s.pzd → first_word s n rx ≡ process.w1)
    → process_in s n control rx ≡ first_words s.pzd process control
    → control_taken s n control rx ≡ cond (not (eqb s.pzd 0) && eqb (process.w1 / 1024 % 2) 1) (first_words s.pzd process control) control
unfolding control_taken
control_taken_lem s n rx process control h w =
    control_of (eqb s.pzd 0) (first_word s n rx) process.w1 (process_in s n control rx) (first_words s.pzd process control) control
    (λ e. let z = eqb-false s.pzd 0 e in h (omega arith)) w

module _ (k : Call) (id number index value : ℕ) (process : Words) where
  abbrev s : Setup
  s = k.setup

  abbrev a : Area
  a = task_area id number index value

  -- the words of the area
  abbrev p : ℕ
  p = task_count s id

  abbrev rx : List ℕ
  rx = telegram_of s.node (net_for s p a process)

  task_read : Configured s → CarriedTask s id number index value → Worded process → TaskRead (receiving k rx) id number index value process
  unfolding task_area
  task_read c f g =
      let n = net_in rx in
      let d = normal_decoded s p c (task_counted s id) a process in
      let own = own_count s p c (task_counted s id) a process s.node in
      let back : (p ≡ 0 → ⊥) → area_at rx p ≡ a = λ z. normal_area s p c (task_counted s id) a process f.heads g z (f.fits z) in
      let words : (old : Words) → process_in s n old rx ≡ first_words s.pzd process old =
      λ old. process_back s.node a p process s.pzd f.heads g old (area_sized s n c) c.process in
      let one : 0 < s.pzd → first_word s n rx ≡ process.w1 =
      λ z. process_word s.node a p process s.pzd f.heads g 0 (p * 2 + 3) (area_sized s n c) z c.process (omega arith) in
      record {
        decoded = d;
        own_length = own;
        area = back;
        task_id = id_back id number;
        number_is = number_back number index f.numbers f.indices id;
        names = named_back id number;
        index_is = ind_index number index f.numbers f.indices;
        value_is = refl;
        process_is = words;
        first = one;
        served = normal_served (receiving k rx) d own;
        performed = task_of_lem p k.table k.memory rx a back;
        controlled = control_taken_lem s n rx process k.control one (words k.control);
      }

  pub task_is_read : (net : List ℕ) → setup_ok s ≡ true → expressible s (Task id number index value process) net ≡ true → value < 4294967296 → Worded process
      → k.received ≡ telegram_for s (Task id number index value process) net → TaskRead k id number index value process
  unfolding telegram_for expressible
  task_is_read net ok asked v g e =
      let c = ok_configured s ok in
      let fits = and_left (task_fits s.pkw id number index value) (unused_zero s.pzd process) asked in
      subst (λ (t : List ℕ). TaskRead (receiving k t) id number index value process) (sym e) (task_read c (carried_of s id number index value c fits v) g)
