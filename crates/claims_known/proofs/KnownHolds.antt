-- K1 to K12 hold of the definitions, all at once; beside them 000's XOR, the other half of K8, and plain tasks by index. Assumes nothing.
use mathlib.Core.Path.{◌≡◌, refl}
use mathlib.Core.List.{map}
use Rattle.bcc.specs.Bcc.{xor_all}
use Rattle.frame.specs.Frame.{frame_of}
use Rattle.address.specs.Address.{address_of}
use Rattle.setup.specs.SetupRules.{setup_ok}
use Rattle.entry.specs.Fields.{entry_of, count_of}
use Rattle.signs.specs.Signs.{signed_of}
use Rattle.limits.specs.Limits.{number_of, at_most, fits_in, is_within, entry_ok}
use Rattle.table.specs.Records.{entry_at, entries_from, entries, find_from, counts_of}
use Rattle.opening.specs.Rules.{rising_from, each_ok, run_ok, runs_ok}
use Rattle.opening.specs.Answers.{opening_of}
use Rattle.area.specs.Net.{net_of}
use Rattle.area.specs.Read.{value_at, area_at, process_at}
use Rattle.task.specs.Task.{tasks, task_of}
use Rattle.page.specs.Page.{page_of, nibble_of}
use Rattle.verdict.specs.Verdict.{verdict_of, element_of}
use Rattle.deed.specs.Deed.{deed_on}
use Rattle.broadcast.specs.Broadcast.{is_void, merge_of, control_after}
use Rattle.control.specs.Control.{control_taken, command_at}
use Rattle.slave.specs.Perform.{found_of, plan_in, plan_at}
use Rattle.slave.specs.Slave.{reply_of, normal_case, broadcast_case, execute_of, call_of}
use Rattle.request.specs.Request.{unused_zero, task_known, value_fits, task_fits, expressible}
use Rattle.master.specs.Build.{task_area, telegram_for, admitted, built_of}
use Rattle.claims_known.specs.Known.{Case, known, printed, k8_paged, Cases, indexed}

pub known_holds : map (λ (k : Case). k.0) known ≡ map (λ (k : Case). k.1) known
unfolding xor_all frame_of address_of setup_ok entry_of count_of signed_of number_of at_most fits_in is_within entry_ok entry_at entries_from entries find_from counts_of rising_from each_ok run_ok runs_ok opening_of net_of value_at area_at process_at tasks task_of page_of nibble_of verdict_of element_of deed_on is_void merge_of control_after control_taken command_at found_of plan_in plan_at reply_of normal_case broadcast_case execute_of call_of task_area telegram_for unused_zero task_known value_fits task_fits expressible admitted built_of
known_holds = refl

pub printed_holds : printed.0 ≡ printed.1
unfolding xor_all
printed_holds = refl

pub paged_holds : k8_paged.0 ≡ k8_paged.1
unfolding entry_of count_of entry_at entries_from entries find_from counts_of tasks task_of page_of verdict_of element_of deed_on found_of plan_in
paged_holds = refl

pub indexed_holds : map (λ (k : Cases). k.0) indexed ≡ map (λ (k : Cases). k.1) indexed
unfolding entry_of count_of signed_of number_of at_most fits_in is_within entry_at entries_from entries find_from counts_of tasks task_of page_of verdict_of element_of deed_on found_of plan_in
indexed_holds = refl
