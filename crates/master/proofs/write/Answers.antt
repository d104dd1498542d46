-- `master::write` meets its contract: the words of a task and of a broadcast are sent as an area, the net bytes of a mirror as they were
-- put. Assumes nothing.
use Rattle.std.proofs.Common.{◌≡◌, true, ◌+◌, ◌*◌, ◌%◌, ◌<◌, ℕ, List, Option, unwrap_or, cond, eqb, subst, ap, ◌∙◌, arith}
use borrow.Author.Tests.{eq-eqb, ne_eqb}
use Rattle.area.specs.declared.Area.{Area}
use Rattle.net.proofs.NetLaws.{net_sealed}
use Rattle.page.proofs.PageLaws.{nibble_small}
use Rattle.request.proofs.RequestLaws.{task_id, mirror_asked}
use Rattle.request.specs.Request.{expressible}
use Rattle.request.specs.declared.Request.{Request}
use Rattle.request.specs.declared.Request.TheVariants.{Task}
use Rattle.setup.proofs.SetupLaws.{ok_configured}
use Rattle.setup.specs.declared.Setup.{Setup}
use Rattle.store.proofs.StoreLaws.{put_fits}
use Rattle.store.specs.Placed.{Placed}
use Rattle.words.specs.declared.Words.{Words}
use Rattle.master.proofs.BuildLaws.{task_counted, command_counted, sends_normal}
use Rattle.master.specs.Build.{telegram_for, task_area, task_count, command_area, command_count}
use Rattle.master.proofs.write.Goals as goal
use Rattle.master.proofs.write.Goals.{then-count-eq4, else-count-eq4}

small_id : (s : Setup) (net : List ℕ) {r : Request} {id number index value : ℕ} {process : Words}
    → r ≡ Task id number index value process → expressible s r net ≡ true → id < 15
small_id s net {r} {id} {number} {index} {value} {process} is h = task_id s id number index value process net (subst (λ (q : Request). expressible s q net ≡ true) is h)

pub overflow_mul-area : goal.overflow_mul-area
overflow_mul-area c = omega (arith, small_id c.args.setup c.args.net.now c.in-Task.is c.requires.1)

pub overflow_add-area : goal.overflow_add-area
overflow_add-area c = omega (arith, small_id c.args.setup c.args.net.now c.in-Task.is c.requires.1)

pub overflow_mul-area-in-Task : goal.overflow_mul-area-in-Task
overflow_mul-area-in-Task c = omega (arith, c.nibble_of-nibble.ensures, nibble_small c.in-Task.number)

pub overflow_add-area-in-Task : goal.overflow_add-area-in-Task
overflow_add-area-in-Task c = omega (arith, c.nibble_of-nibble.ensures, nibble_small c.in-Task.number)

pub overflow_add-setup : goal.overflow_add-setup
overflow_add-setup c = omega (arith, (ok_configured c.args.setup c.requires.0).nodes)

pub returns-in-Task : goal.returns-in-Task
unfolding telegram_for task_area
returns-in-Task c =
    let a = c.args in
    let t = c.in-Task in
    let area : Area = record { pke = t.id * 4096 + t.number % 2000; ind = c.nibble_of-nibble.result * 4096 + t.index; value = t.value } in
    rw (t.is, ← c.nibble_of-nibble.ensures) (sends_normal a.setup (task_count a.setup t.id) a.setup.node area t.process a.out.now (task_counted a.setup t.id) c.requires.0 c.requires.2 c.write_normal.ensures c.unwrap_or.ensures)

pub returns-in-Mirror : goal.returns-in-Mirror
unfolding telegram_for
returns-in-Mirror c =
    let a = c.args in
    let net = a.net.now in
    let n = mirror_asked a.setup net (subst (λ (q : Request). expressible a.setup q net ≡ true) c.in-Mirror.is c.requires.1) in
    let fit = put_fits a.out.now 3 net (omega (arith, n.1)) in
    let m = net_sealed a.out.now (a.setup.node + 64) net c.requires.2 n.1 (c.put.ensures.out_after ∙ ap (λ (x : Placed). x.bytes) fit) n.0 in
    rw c.in-Mirror.is (record {
      long = c.unwrap_or-in-Mirror.ensures ∙ ap (λ (o : Option ℕ). unwrap_or o 0) (c.seal.ensures.0 ∙ m.0);
      there = c.seal.ensures.1 ∙ m.1;
    })

pub returns-after-count-eq4 : goal.returns-after-count-eq4
unfolding telegram_for command_area
returns-after-count-eq4 c =
    let a = c.args in
    let b = c.in-Broadcast in
    let v = c.if-count-eq4.value in
    let e : v ≡ cond (eqb (command_count a.setup) 4) (b.mask2 * 65536) b.mask2 =
    elim c.if-count-eq4.branch [
      | then-count-eq4 w ↦ rw (eq-eqb _ _ w.if-count-eq4.true) w.value-is
      | else-count-eq4 w ↦ rw (ne_eqb _ _ w.if-count-eq4.false) w.value-is
    ] in
    let area : Area = record { pke = b.selector; ind = b.mask1; value = v } in
    rw (b.is, ← e) (sends_normal a.setup (command_count a.setup) 32 area b.process a.out.now (command_counted a.setup) c.requires.0 c.requires.2 c.write_normal-in-Broadcast.ensures c.unwrap_or-in-Broadcast.ensures)
