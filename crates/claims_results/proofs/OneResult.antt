-- Any two outcomes that the contract of a public function allows are equal: the result, and each lent slice afterwards. An instance is
-- named after crate, function and, for a slice, its parameter; a function for C stands without its crate, and a `From` has its types.
-- `F.Post` is the contract of F as its source states it. Assumes nothing.
use mathlib.Core.Path.{◌≡◌, sym, ap, ◌∙◌}
use mathlib.Core.List.{[]}
use Rattle.opening.specs.Lent.{Memory}
use Rattle.words.proofs.join.Reads as words-join
use Rattle.words.proofs.join_double.Reads as words-join-double
use Rattle.store.proofs.has_room.Reads as store-has-room
use Rattle.store.proofs.put.Reads as store-put
use Rattle.bcc.proofs.bcc.Reads as bcc-bcc
use Rattle.step.proofs.settle.Reads as step-settle
use Rattle.step.proofs.step.Reads as step-step
use Rattle.receiver.proofs.receive.Reads as receiver-receive
use Rattle.receiver.proofs.receive_bytes.Reads as receiver-receive-bytes
use Rattle.receiver.proofs.pause.Reads as receiver-pause
use Rattle.frame.proofs.check.Reads as frame-check
use Rattle.frame.proofs.U32FromFrameFault.from.Reads as frame-number-of-frame-fault
use Rattle.address.proofs.decode.Reads as address-decode
use Rattle.address.proofs.decode_found.Reads as address-decode-found
use Rattle.address.proofs.FaultFromFrameFault.from.Reads as address-fault-from-frame-fault
use Rattle.address.proofs.U32FromFault.from.Reads as address-number-of-fault
use Rattle.slave_answers.proofs.U32FromOpeningFault.from.Reads as slave-answers-number-of-opening-fault
use Rattle.slave_answers.proofs.RefusalFromOpeningFault.from.Reads as slave-answers-refusal-from-opening-fault
use Rattle.slave_answers.proofs.RefusalFromFault.from.Reads as slave-answers-refusal-from-fault
use Rattle.slave_answers.proofs.U32FromRefusal.from.Reads as slave-answers-number-of-refusal
use Rattle.slave_answers.proofs.U32FromAnswer.from.Reads as slave-answers-number-of-answer
use Rattle.build_answers.proofs.U32FromBuildFault.from.Reads as build-answers-number-of-build-fault
use Rattle.build_answers.proofs.number_built.Reads as build-answers-number-built
use Rattle.read_answers.proofs.ReadFaultFromFault.from.Reads as read-answers-read-fault-from-fault
use Rattle.read_answers.proofs.U32FromReadFault.from.Reads as read-answers-number-of-read-fault
use Rattle.read_answers.proofs.Content.id.Reads as read-answers-content-id
use Rattle.read_answers.proofs.Content.value.Reads as read-answers-content-value
use Rattle.setup.proofs.setup_ok.Reads as setup-setup-ok
use Rattle.setup.proofs.area_count.Reads as setup-area-count
use Rattle.setup.proofs.is_other_length.Reads as setup-is-other-length
use Rattle.entry.proofs.entry_of.Reads as entry-entry-of
use Rattle.entry.proofs.count_places.Reads as entry-count-places
use Rattle.signs.proofs.signed_of.Reads as signs-signed-of
use Rattle.limits.proofs.at_most.Reads as limits-at-most
use Rattle.limits.proofs.within.Reads as limits-within
use Rattle.limits.proofs.entry_ok.Reads as limits-entry-ok
use Rattle.table.proofs.record_of.Reads as table-record-of
use Rattle.table.proofs.entry_in.Reads as table-entry-in
use Rattle.table.proofs.find.Reads as table-find
use Rattle.opening.proofs.Drive.«open».Reads as opening-drive-open
use Rattle.table_check.proofs.check_table.Reads as table-check-check-table
use Rattle.table_check.proofs.is_table.Reads as table-check-is-table
use Rattle.table_check.proofs.OpeningFaultFromRule.from.Reads as table-check-opening-fault-from-rule
use Rattle.table_check.proofs.U32FromRule.from.Reads as table-check-number-of-rule
use Rattle.places.proofs.fill.Reads as places-fill
use Rattle.places.proofs.fill_numbered.Reads as places-fill-numbered
use Rattle.view.proofs.first.Reads as view-first
use Rattle.view.proofs.look.Reads as view-look
use Rattle.view.proofs.next.Reads as view-next
use Rattle.claims_view.specs.HeldTable.{NewPost, ShowPost, StepPost}
use Rattle.figure.proofs.show.Reads as figure-show
use Rattle.figure.proofs.U32FromFigureFault.from.Reads as figure-number-of-figure-fault
use Rattle.host_figure.proofs.show.Reads as host-figure-show
use Rattle.area.proofs.empty_area.Reads as area-empty-area
use Rattle.area.proofs.read_area.Reads as area-read-area
use Rattle.area.proofs.read_process.Reads as area-read-process
use Rattle.net.proofs.seal.Reads as net-seal
use Rattle.net.proofs.write_normal.Reads as net-write-normal
use Rattle.page.proofs.page_of.Reads as page-page-of
use Rattle.page.proofs.nibble_of.Reads as page-nibble-of
use Rattle.page.proofs.full_number.Reads as page-full-number
use Rattle.task.proofs.task_of.Reads as task-task-of
use Rattle.errors.proofs.U32FromParameterError.from.Reads as errors-number-of-parameter-error
use Rattle.verdict.proofs.judge.Reads as verdict-judge
use Rattle.verdict.proofs.pick_element.Reads as verdict-pick-element
use Rattle.deed.proofs.deny.Reads as deed-deny
use Rattle.deed.proofs.plan.Reads as deed-plan
use Rattle.broadcast.proofs.is_void.Reads as broadcast-is-void
use Rattle.broadcast.proofs.merge.Reads as broadcast-merge
use Rattle.broadcast.proofs.command_control.Reads as broadcast-command-control
use Rattle.control.proofs.take_control.Reads as control-take-control
use Rattle.control.proofs.take_command.Reads as control-take-command
use Rattle.slave.proofs.serve.Reads as slave-serve
use Rattle.request.proofs.can_ask.Reads as request-can-ask
use Rattle.request.proofs.can_express.Reads as request-can-express
use Rattle.master.proofs.build_task.Reads as master-build-task
use Rattle.master.proofs.build_mirror.Reads as master-build-mirror
use Rattle.master.proofs.build_broadcast.Reads as master-build-broadcast
use Rattle.content.proofs.is_bad.Reads as content-is-bad
use Rattle.content.proofs.read_content.Reads as content-read-content
use Rattle.reply.proofs.read.Reads as reply-read
use Rattle.reply.proofs.process_of.Reads as reply-process-of
use Rattle.host_slave.proofs.serve.Reads as host-slave-serve
use Rattle.host_slave.proofs.serve_listed.Reads as host-slave-serve-listed
use Rattle.host_master.proofs.build_task.Reads as host-master-build-task
use Rattle.host_master.proofs.build_mirror.Reads as host-master-build-mirror
use Rattle.host_master.proofs.build_broadcast.Reads as host-master-build-broadcast
use Rattle.host_reply.proofs.read_reply.Reads as host-reply-read-reply
use Rattle.text.proofs.count_digits.Reads as text-count-digits
use Rattle.text.proofs.put_number.Reads as text-put-number
use Rattle.listing.proofs.list.Reads as listing-list
use Rattle.hex_lines.proofs.read_bytes.Reads as hex-lines-read-bytes
use Rattle.uss_c.proofs.uss_receive.Reads as uss-receive
use Rattle.uss_c.proofs.uss_receive_bytes.Reads as uss-receive-bytes
use Rattle.uss_c.proofs.uss_pause.Reads as uss-pause
use Rattle.uss_c.proofs.uss_slave.Reads as uss-slave
use Rattle.uss_c.proofs.uss_slave_listed.Reads as uss-slave-listed
use Rattle.uss_c.proofs.uss_build_task.Reads as uss-build-task
use Rattle.uss_c.proofs.uss_build_mirror.Reads as uss-build-mirror
use Rattle.uss_c.proofs.uss_build_broadcast.Reads as uss-build-broadcast
use Rattle.uss_c.proofs.uss_read_reply.Reads as uss-read-reply
use Rattle.uss_c.proofs.uss_list.Reads as uss-list
use Rattle.uss_c.proofs.uss_bcc.Reads as uss-bcc
use Rattle.uss_c.proofs.uss_check_table.Reads as uss-check-table
use Rattle.uss_c.proofs.uss_fill_places.Reads as uss-fill-places
use Rattle.uss_c.proofs.uss_view_open.Reads as uss-view-open
use Rattle.uss_c.proofs.uss_view_show.Reads as uss-view-show
use Rattle.uss_c.proofs.uss_view_step.Reads as uss-view-step
use Rattle.uss_c.proofs.uss_show_hertz.Reads as uss-show-hertz
use Rattle.uss_c.proofs.uss_show_percent.Reads as uss-show-percent
use Rattle.uss_c.proofs.uss_show_raw.Reads as uss-show-raw
use Rattle.claims_results.specs.OneResult.{OneResult, OneExit}

-- what is equal to the same definition is equal
pub equal_through : {A : Type 0} {d r r' : A} → r ≡ d → r' ≡ d → r ≡ r'
equal_through e e' = e ∙ sym e'

pub words_join_one : OneResult words-join.Post
words_join_one κs a r r' s s' = equal_through

pub words_join_double_one : OneResult words-join-double.Post
words_join_double_one κs a r r' s s' = equal_through

pub store_has_room_one : OneResult store-has-room.Post
store_has_room_one κs a r r' s s' = equal_through

pub bcc_bcc_one : OneResult bcc-bcc.Post
bcc_bcc_one κs a r r' s s' = equal_through

pub step_settle_one : OneResult step-settle.Post
step_settle_one κs a r r' s s' = equal_through

pub frame_check_one : OneResult frame-check.Post
frame_check_one κs a r r' s s' = equal_through

pub frame_number_of_frame_fault_one : OneResult frame-number-of-frame-fault.Post
frame_number_of_frame_fault_one κs a r r' s s' = equal_through

pub address_decode_one : OneResult address-decode.Post
address_decode_one κs a r r' s s' = equal_through

pub address_decode_found_one : OneResult address-decode-found.Post
address_decode_found_one κs a r r' s s' = equal_through

pub address_fault_from_frame_fault_one : OneResult address-fault-from-frame-fault.Post
address_fault_from_frame_fault_one κs a r r' s s' = equal_through

pub address_number_of_fault_one : OneResult address-number-of-fault.Post
address_number_of_fault_one κs a r r' s s' = equal_through

pub slave_answers_number_of_opening_fault_one : OneResult slave-answers-number-of-opening-fault.Post
slave_answers_number_of_opening_fault_one κs a r r' s s' = equal_through

pub slave_answers_refusal_from_opening_fault_one : OneResult slave-answers-refusal-from-opening-fault.Post
slave_answers_refusal_from_opening_fault_one κs a r r' s s' = equal_through

pub slave_answers_refusal_from_fault_one : OneResult slave-answers-refusal-from-fault.Post
slave_answers_refusal_from_fault_one κs a r r' s s' = equal_through

pub slave_answers_number_of_refusal_one : OneResult slave-answers-number-of-refusal.Post
slave_answers_number_of_refusal_one κs a r r' s s' = equal_through

pub slave_answers_number_of_answer_one : OneResult slave-answers-number-of-answer.Post
slave_answers_number_of_answer_one κs a r r' s s' = equal_through

pub build_answers_number_of_build_fault_one : OneResult build-answers-number-of-build-fault.Post
build_answers_number_of_build_fault_one κs a r r' s s' = equal_through

pub build_answers_number_built_one : OneResult build-answers-number-built.Post
build_answers_number_built_one κs a r r' s s' = equal_through

pub read_answers_read_fault_from_fault_one : OneResult read-answers-read-fault-from-fault.Post
read_answers_read_fault_from_fault_one κs a r r' s s' = equal_through

pub read_answers_number_of_read_fault_one : OneResult read-answers-number-of-read-fault.Post
read_answers_number_of_read_fault_one κs a r r' s s' = equal_through

pub read_answers_content_id_one : OneResult read-answers-content-id.Post
read_answers_content_id_one κs a r r' s s' = equal_through

pub read_answers_content_value_one : OneResult read-answers-content-value.Post
read_answers_content_value_one κs a r r' s s' = equal_through

pub setup_setup_ok_one : OneResult setup-setup-ok.Post
setup_setup_ok_one κs a r r' s s' = equal_through

pub setup_area_count_one : OneResult setup-area-count.Post
setup_area_count_one κs a r r' s s' = equal_through

pub setup_is_other_length_one : OneResult setup-is-other-length.Post
setup_is_other_length_one κs a r r' s s' = equal_through

pub entry_entry_of_one : OneResult entry-entry-of.Post
entry_entry_of_one κs a r r' s s' = equal_through

pub entry_count_places_one : OneResult entry-count-places.Post
entry_count_places_one κs a r r' s s' = equal_through

pub signs_signed_of_one : OneResult signs-signed-of.Post
signs_signed_of_one κs a r r' s s' = equal_through

pub limits_at_most_one : OneResult limits-at-most.Post
limits_at_most_one κs a r r' s s' = equal_through

pub limits_within_one : OneResult limits-within.Post
limits_within_one κs a r r' s s' = equal_through

pub limits_entry_ok_one : OneResult limits-entry-ok.Post
limits_entry_ok_one κs a r r' s s' = equal_through

pub table_record_of_one : OneResult table-record-of.Post
table_record_of_one κs a r r' s s' = equal_through

pub table_entry_in_one : OneResult table-entry-in.Post
table_entry_in_one κs a r r' s s' = equal_through

pub table_find_one : OneResult table-find.Post
table_find_one κs a r r' s s' = equal_through

pub opening_drive_open_one : OneResult opening-drive-open.Post
opening_drive_open_one κs a r r' s s' = equal_through

pub table_check_check_table_one : OneResult table-check-check-table.Post
table_check_check_table_one κs a r r' s s' = equal_through

pub table_check_is_table_one : OneResult table-check-is-table.Post
table_check_is_table_one κs a r r' s s' = equal_through

pub table_check_opening_fault_from_rule_one : OneResult table-check-opening-fault-from-rule.Post
table_check_opening_fault_from_rule_one κs a r r' s s' = equal_through

pub table_check_number_of_rule_one : OneResult table-check-number-of-rule.Post
table_check_number_of_rule_one κs a r r' s s' = equal_through

pub places_fill_one : OneResult places-fill.Post
places_fill_one κs a r r' s s' p p' = equal_through p.0 p'.0

pub places_fill_places : OneExit places-fill.Post (λ κs s. s.1.0.now)
places_fill_places κs a r r' s s' p p' = equal_through p.1 p'.1

pub places_fill_numbered_one : OneResult places-fill-numbered.Post
places_fill_numbered_one κs a r r' s s' p p' = equal_through p.0 p'.0

pub places_fill_numbered_places : OneExit places-fill-numbered.Post (λ κs s. s.1.0.now)
places_fill_numbered_places κs a r r' s s' p p' = equal_through p.1 p'.1

pub view_first_one : OneResult view-first.Post
view_first_one κs a r r' s s' = equal_through

pub view_look_one : OneResult view-look.Post
view_look_one κs a r r' s s' = equal_through

pub view_next_one : OneResult view-next.Post
view_next_one κs a r r' s s' = equal_through

pub view_new_one : OneResult NewPost
view_new_one κs a r r' s s' = equal_through

pub view_show_one : OneResult ShowPost
view_show_one κs a r r' s s' = equal_through

pub view_step_one : OneResult StepPost
view_step_one κs a r r' s s' = equal_through

pub figure_show_one : OneResult figure-show.Post
figure_show_one κs a r r' s s' = equal_through

pub figure_number_of_figure_fault_one : OneResult figure-number-of-figure-fault.Post
figure_number_of_figure_fault_one κs a r r' s s' = equal_through

pub host_figure_show_one : OneResult host-figure-show.Post
host_figure_show_one κs a r r' s s' = equal_through

pub area_empty_area_one : OneResult area-empty-area.Post
area_empty_area_one κs a r r' s s' = equal_through

pub area_read_area_one : OneResult area-read-area.Post
area_read_area_one κs a r r' s s' = equal_through

pub area_read_process_one : OneResult area-read-process.Post
area_read_process_one κs a r r' s s' = equal_through

pub page_page_of_one : OneResult page-page-of.Post
page_page_of_one κs a r r' s s' = equal_through

pub page_nibble_of_one : OneResult page-nibble-of.Post
page_nibble_of_one κs a r r' s s' = equal_through

pub page_full_number_one : OneResult page-full-number.Post
page_full_number_one κs a r r' s s' = equal_through

pub task_task_of_one : OneResult task-task-of.Post
task_task_of_one κs a r r' s s' = equal_through

pub errors_number_of_parameter_error_one : OneResult errors-number-of-parameter-error.Post
errors_number_of_parameter_error_one κs a r r' s s' = equal_through

pub verdict_judge_one : OneResult verdict-judge.Post
verdict_judge_one κs a r r' s s' = equal_through

pub verdict_pick_element_one : OneResult verdict-pick-element.Post
verdict_pick_element_one κs a r r' s s' = equal_through

pub deed_deny_one : OneResult deed-deny.Post
deed_deny_one κs a r r' s s' = equal_through

pub deed_plan_one : OneResult deed-plan.Post
deed_plan_one κs a r r' s s' = equal_through

pub broadcast_is_void_one : OneResult broadcast-is-void.Post
broadcast_is_void_one κs a r r' s s' = equal_through

pub broadcast_merge_one : OneResult broadcast-merge.Post
broadcast_merge_one κs a r r' s s' = equal_through

pub broadcast_command_control_one : OneResult broadcast-command-control.Post
broadcast_command_control_one κs a r r' s s' = equal_through

pub control_take_control_one : OneResult control-take-control.Post
control_take_control_one κs a r r' s s' = equal_through

pub control_take_command_one : OneResult control-take-command.Post
control_take_command_one κs a r r' s s' = equal_through

pub request_can_ask_one : OneResult request-can-ask.Post
request_can_ask_one κs a r r' s s' = equal_through

pub request_can_express_one : OneResult request-can-express.Post
request_can_express_one κs a r r' s s' = equal_through

pub content_is_bad_one : OneResult content-is-bad.Post
content_is_bad_one κs a r r' s s' = equal_through

pub content_read_content_one : OneResult content-read-content.Post
content_read_content_one κs a r r' s s' = equal_through

pub reply_read_one : OneResult reply-read.Post
reply_read_one κs a r r' s s' = equal_through

pub reply_process_of_one : OneResult reply-process-of.Post
reply_process_of_one κs a r r' s s' = equal_through

pub host_reply_read_reply_one : OneResult host-reply-read-reply.Post
host_reply_read_reply_one κs a r r' s s' = equal_through

pub text_count_digits_one : OneResult text-count-digits.Post
text_count_digits_one κs a r r' s s' = equal_through

-- ---- a result, and what is written

pub store_put_one : OneResult store-put.Post
store_put_one κs a r r' s s' p p' = equal_through p.0 p'.0

pub store_put_out : OneExit store-put.Post (λ κs s. s.0.now)
store_put_out κs a r r' s s' p p' = equal_through p.1 p'.1

pub step_step_one : OneResult step-step.Post
step_step_one κs a r r' s s' p p' = equal_through p.0 p'.0

pub step_step_page : OneExit step-step.Post (λ κs s. s.1.1.0.now)
step_step_page κs a r r' s s' p p' = equal_through p.1 p'.1

pub receiver_receive_one : OneResult receiver-receive.Post
receiver_receive_one κs a r r' s s' p p' = equal_through p.answers p'.answers

pub receiver_receive_page : OneExit receiver-receive.Post (λ κs s. s.1.1.0.now)
receiver_receive_page κs a r r' s s' p p' = equal_through p.page_is p'.page_is

pub receiver_receive_bytes_one : OneResult receiver-receive-bytes.Post
receiver_receive_bytes_one κs a r r' s s' p p' = equal_through p.answers p'.answers

pub receiver_receive_bytes_page : OneExit receiver-receive-bytes.Post (λ κs s. s.1.1.0.now)
receiver_receive_bytes_page κs a r r' s s' p p' = equal_through p.page_is p'.page_is

-- what is promised for every page is promised for the empty one
pub receiver_pause_one : OneResult receiver-pause.Post
receiver_pause_one κs a r r' s s' p p' = equal_through (p.0 []) (p'.0 [])

pub net_seal_one : OneResult net-seal.Post
net_seal_one κs a r r' s s' p p' = equal_through p.0 p'.0

pub net_seal_out : OneExit net-seal.Post (λ κs s. s.0.now)
net_seal_out κs a r r' s s' p p' = equal_through p.1 p'.1

pub net_write_normal_one : OneResult net-write-normal.Post
net_write_normal_one κs a r r' s s' p p' = equal_through p.0 p'.0

pub net_write_normal_out : OneExit net-write-normal.Post (λ κs s. s.0.now)
net_write_normal_out κs a r r' s s' p p' = equal_through p.1 p'.1

pub slave_serve_one : OneResult slave-serve.Post
slave_serve_one κs a r r' s s' p p' = equal_through p.answers p'.answers

pub slave_serve_values : OneExit slave-serve.Post (λ κs s. s.1.0.now)
slave_serve_values κs a r r' s s' p p' = ap (λ (m : Memory). m.values) (equal_through p.memory_is p'.memory_is)

pub slave_serve_reply : OneExit slave-serve.Post (λ κs s. s.1.1.1.1.1.0.now)
slave_serve_reply κs a r r' s s' p p' = equal_through p.reply_is p'.reply_is

pub master_build_task_one : OneResult master-build-task.Post
master_build_task_one κs a r r' s s' p p' = equal_through p.answers p'.answers

pub master_build_task_out : OneExit master-build-task.Post (λ κs s. s.1.1.1.1.1.1.0.now)
master_build_task_out κs a r r' s s' p p' = equal_through p.bytes_are p'.bytes_are

pub master_build_mirror_one : OneResult master-build-mirror.Post
master_build_mirror_one κs a r r' s s' p p' = equal_through p.answers p'.answers

pub master_build_mirror_out : OneExit master-build-mirror.Post (λ κs s. s.1.1.0.now)
master_build_mirror_out κs a r r' s s' p p' = equal_through p.bytes_are p'.bytes_are

pub master_build_broadcast_one : OneResult master-build-broadcast.Post
master_build_broadcast_one κs a r r' s s' p p' = equal_through p.answers p'.answers

pub master_build_broadcast_out : OneExit master-build-broadcast.Post (λ κs s. s.1.1.1.1.1.0.now)
master_build_broadcast_out κs a r r' s s' p p' = equal_through p.bytes_are p'.bytes_are

pub host_slave_serve_one : OneResult host-slave-serve.Post
host_slave_serve_one κs a r r' s s' p p' = equal_through p.answers p'.answers

pub host_slave_serve_values : OneExit host-slave-serve.Post (λ κs s. s.1.1.0.now)
host_slave_serve_values κs a r r' s s' p p' = ap (λ (m : Memory). m.values) (equal_through p.memory_is p'.memory_is)

pub host_slave_serve_reply : OneExit host-slave-serve.Post (λ κs s. s.1.1.1.1.1.1.0.now)
host_slave_serve_reply κs a r r' s s' p p' = equal_through p.reply_is p'.reply_is

pub host_slave_serve_listed_one : OneResult host-slave-serve-listed.Post
host_slave_serve_listed_one κs a r r' s s' p p' = equal_through p.answers p'.answers

pub host_slave_serve_listed_values : OneExit host-slave-serve-listed.Post (λ κs s. s.1.1.0.now)
host_slave_serve_listed_values κs a r r' s s' p p' = ap (λ (m : Memory). m.values) (equal_through p.memory_is p'.memory_is)

pub host_slave_serve_listed_reply : OneExit host-slave-serve-listed.Post (λ κs s. s.1.1.1.1.1.1.1.0.now)
host_slave_serve_listed_reply κs a r r' s s' p p' = equal_through p.reply_is p'.reply_is

pub host_master_build_task_one : OneResult host-master-build-task.Post
host_master_build_task_one κs a r r' s s' p p' = equal_through p.answers p'.answers

pub host_master_build_task_out : OneExit host-master-build-task.Post (λ κs s. s.1.1.1.1.1.1.0.now)
host_master_build_task_out κs a r r' s s' p p' = equal_through p.bytes_are p'.bytes_are

pub host_master_build_mirror_one : OneResult host-master-build-mirror.Post
host_master_build_mirror_one κs a r r' s s' p p' = equal_through p.answers p'.answers

pub host_master_build_mirror_out : OneExit host-master-build-mirror.Post (λ κs s. s.1.1.0.now)
host_master_build_mirror_out κs a r r' s s' p p' = equal_through p.bytes_are p'.bytes_are

pub host_master_build_broadcast_one : OneResult host-master-build-broadcast.Post
host_master_build_broadcast_one κs a r r' s s' p p' = equal_through p.answers p'.answers

pub host_master_build_broadcast_out : OneExit host-master-build-broadcast.Post (λ κs s. s.1.1.1.1.1.0.now)
host_master_build_broadcast_out κs a r r' s s' p p' = equal_through p.bytes_are p'.bytes_are

pub text_put_number_one : OneResult text-put-number.Post
text_put_number_one κs a r r' s s' p p' = equal_through p.0 p'.0

pub text_put_number_out : OneExit text-put-number.Post (λ κs s. s.0.now)
text_put_number_out κs a r r' s s' p p' = equal_through p.1 p'.1

pub listing_list_one : OneResult listing-list.Post
listing_list_one κs a r r' s s' p p' = equal_through p.0 p'.0

pub listing_list_out : OneExit listing-list.Post (λ κs s. s.1.0.now)
listing_list_out κs a r r' s s' p p' = equal_through p.1 p'.1

pub hex_lines_read_bytes_one : OneResult hex-lines-read-bytes.Post
hex_lines_read_bytes_one κs a r r' s s' p p' = equal_through p.1.0 p'.1.0

pub hex_lines_read_bytes_out : OneExit hex-lines-read-bytes.Post (λ κs s. s.1.0.now)
hex_lines_read_bytes_out κs a r r' s s' p p' = equal_through p.1.1 p'.1.1

-- ---- the calls for C

pub uss_receive_one : OneResult uss-receive.Post
uss_receive_one κs a r r' s s' p p' = equal_through p.answers p'.answers

pub uss_receive_page : OneExit uss-receive.Post (λ κs s. s.1.1.0.now)
uss_receive_page κs a r r' s s' p p' = equal_through p.page_is p'.page_is

pub uss_receive_bytes_one : OneResult uss-receive-bytes.Post
uss_receive_bytes_one κs a r r' s s' p p' = equal_through p.answers p'.answers

pub uss_receive_bytes_page : OneExit uss-receive-bytes.Post (λ κs s. s.1.1.0.now)
uss_receive_bytes_page κs a r r' s s' p p' = equal_through p.page_is p'.page_is

pub uss_pause_one : OneResult uss-pause.Post
uss_pause_one κs a r r' s s' p p' = equal_through (p.0 []) (p'.0 [])

pub uss_slave_one : OneResult uss-slave.Post
uss_slave_one κs a r r' s s' p p' = equal_through p.answers p'.answers

pub uss_slave_values : OneExit uss-slave.Post (λ κs s. s.1.1.0.now)
uss_slave_values κs a r r' s s' p p' = ap (λ (m : Memory). m.values) (equal_through p.memory_is p'.memory_is)

pub uss_slave_reply : OneExit uss-slave.Post (λ κs s. s.1.1.1.1.1.1.0.now)
uss_slave_reply κs a r r' s s' p p' = equal_through p.reply_is p'.reply_is

pub uss_slave_listed_one : OneResult uss-slave-listed.Post
uss_slave_listed_one κs a r r' s s' p p' = equal_through p.answers p'.answers

pub uss_slave_listed_values : OneExit uss-slave-listed.Post (λ κs s. s.1.1.0.now)
uss_slave_listed_values κs a r r' s s' p p' = ap (λ (m : Memory). m.values) (equal_through p.memory_is p'.memory_is)

pub uss_slave_listed_reply : OneExit uss-slave-listed.Post (λ κs s. s.1.1.1.1.1.1.1.0.now)
uss_slave_listed_reply κs a r r' s s' p p' = equal_through p.reply_is p'.reply_is

pub uss_build_task_one : OneResult uss-build-task.Post
uss_build_task_one κs a r r' s s' p p' = equal_through p.answers p'.answers

pub uss_build_task_out : OneExit uss-build-task.Post (λ κs s. s.1.1.1.1.1.1.0.now)
uss_build_task_out κs a r r' s s' p p' = equal_through p.bytes_are p'.bytes_are

pub uss_build_mirror_one : OneResult uss-build-mirror.Post
uss_build_mirror_one κs a r r' s s' p p' = equal_through p.answers p'.answers

pub uss_build_mirror_out : OneExit uss-build-mirror.Post (λ κs s. s.1.1.0.now)
uss_build_mirror_out κs a r r' s s' p p' = equal_through p.bytes_are p'.bytes_are

pub uss_build_broadcast_one : OneResult uss-build-broadcast.Post
uss_build_broadcast_one κs a r r' s s' p p' = equal_through p.answers p'.answers

pub uss_build_broadcast_out : OneExit uss-build-broadcast.Post (λ κs s. s.1.1.1.1.1.0.now)
uss_build_broadcast_out κs a r r' s s' p p' = equal_through p.bytes_are p'.bytes_are

pub uss_read_reply_one : OneResult uss-read-reply.Post
uss_read_reply_one κs a r r' s s' = equal_through

pub uss_list_one : OneResult uss-list.Post
uss_list_one κs a r r' s s' p p' = equal_through p.0 p'.0

pub uss_list_out : OneExit uss-list.Post (λ κs s. s.1.0.now)
uss_list_out κs a r r' s s' p p' = equal_through p.1 p'.1

pub uss_bcc_one : OneResult uss-bcc.Post
uss_bcc_one κs a r r' s s' = equal_through

pub uss_check_table_one : OneResult uss-check-table.Post
uss_check_table_one κs a r r' s s' = equal_through

pub uss_fill_places_one : OneResult uss-fill-places.Post
uss_fill_places_one κs a r r' s s' p p' = equal_through p.0 p'.0

pub uss_fill_places_places : OneExit uss-fill-places.Post (λ κs s. s.1.0.now)
uss_fill_places_places κs a r r' s s' p p' = equal_through p.1 p'.1

pub uss_view_open_one : OneResult uss-view-open.Post
uss_view_open_one κs a r r' s s' = equal_through

pub uss_view_show_one : OneResult uss-view-show.Post
uss_view_show_one κs a r r' s s' = equal_through

pub uss_view_step_one : OneResult uss-view-step.Post
uss_view_step_one κs a r r' s s' = equal_through

pub uss_show_hertz_one : OneResult uss-show-hertz.Post
uss_show_hertz_one κs a r r' s s' = equal_through

pub uss_show_percent_one : OneResult uss-show-percent.Post
uss_show_percent_one κs a r r' s s' p p' = equal_through (p 0) (p' 0)

pub uss_show_raw_one : OneResult uss-show-raw.Post
uss_show_raw_one κs a r r' s s' p p' = equal_through (p 0) (p' 0)
