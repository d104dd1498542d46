-- `control::take_command` meets its contract: the command and the process words over the words that the area has. Assumes nothing.
use Rattle.std.proofs.Common.{◌≡◌, sym, ◌∙◌}
use Rattle.control.specs.Control.{process_in, command_in, void_in}
use Rattle.control.proofs.ControlLaws.{first_taken, void_same, void_is, changed_is}
use Rattle.control.proofs.take_command.Goals as goal
use Rattle.control.proofs.take_command.Goals.{After-is_void}

command_is : (c : After-is_void) → c.read_command-command.result ≡ command_in c.args.setup c.args.n c.args.received.now
command_is c = rw (← c.area_count-count.ensures) c.read_command-command.ensures

process_is : (c : After-is_void) → c.read_process-process.result ≡ process_in c.args.setup c.args.n c.args.control c.args.received.now
process_is c = rw (← c.area_count-count.ensures) c.read_process-process.ensures

void_told : (c : After-is_void) → c.is_void.result ≡ void_in c.args.setup c.args.n c.args.received.now
void_told c =
    let a = c.args in
    c.is_void.ensures
    ∙ rw (command_is c) (void_same (command_in a.setup a.n a.received.now) a.setup.pkw a.setup.pzd _ _
    (first_taken a.setup a.n a.control a.received.now (process_is c)))

pub returns-then-is_void : goal.returns-then-is_void
returns-then-is_void c =
    let at = (goal.at.returns-then-is_void c).After-is_void in
    sym (void_is _ _ _ _ (sym (void_told at) ∙ c.if-is_void.true))

pub returns : goal.returns
returns c =
    let at = (goal.at.returns c).After-is_void in
    sym (changed_is _ _ _ _ (sym (void_told at) ∙ c.if-is_void.false) ∙ sym (rw (c.command_control.ensures, command_is at, process_is at)))
