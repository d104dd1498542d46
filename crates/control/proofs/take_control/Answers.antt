-- `control::take_control` meets its contract: the process words over the words that the area has. Assumes nothing.
use Rattle.std.proofs.Common.{◌≡◌, ℕ, ◌/◌, ◌%◌, sym, ap, ◌∙◌}
use borrow.Author.Tests.{ne_eqb}
use Rattle.rows.proofs.RowsLaws.{tests}
use Rattle.control.specs.Control.{first_word, process_in, control_taken}
use Rattle.control.proofs.ControlLaws.{first_taken}
use Rattle.control.proofs.take_control.Goals as goal
use Rattle.control.proofs.take_control.Goals.{else-setup-ne0-via-then-setup-ne0+else-process-eq1, else-setup-ne0-via-else-setup-ne0}

pub returns-then-process-eq1 : goal.returns-then-process-eq1
unfolding control_taken
returns-then-process-eq1 c =
    let a = c.args in
    let process : c.read_process-process.result ≡ process_in a.setup a.n a.control a.received.now = rw (← c.area_count-count.ensures) c.read_process-process.ensures in
    let first = first_taken a.setup a.n a.control a.received.now process c.if-setup-ne0.true in
    let bit : first_word a.setup a.n a.received.now / 1024 % 2 ≡ 1 = ap (λ (x : ℕ). x / 1024 % 2) (sym first) ∙ c.if-process-eq1.true in
    process ∙ sym (rw (ne_eqb _ 0 c.if-setup-ne0.true, bit))

pub returns : goal.returns
unfolding control_taken
returns c =
    let a = c.args in
    let process : c.read_process-process.result ≡ process_in a.setup a.n a.control a.received.now = rw (← c.area_count-count.ensures) c.read_process-process.ensures in
    elim c.else-setup-ne0.branch [
      | else-setup-ne0-via-then-setup-ne0+else-process-eq1 w ↦ search (tests, ← (first_taken a.setup a.n a.control a.received.now process w.if-setup-ne0.true))
      | else-setup-ne0-via-else-setup-ne0 w ↦ search tests
    ]
