-- The hypotheses of the round hold together: a table with the parameter of K2 passes the opening check, and the replies K3 and K4
-- are read (document 01, Telegrams to prove). That K2 is built and that K3 and K4 answer it is `known_holds` of claims_known.
-- Assumes nothing.
use mathlib.Core.Path.{◌≡◌, refl}
use mathlib.Core.List.{List, map}
use Prim.Native.Nat.{ℕ}
use Rattle.std.specs.Prelude.{Result}
use Rattle.setup.specs.SetupRules.{setup_ok}
use Rattle.bcc.specs.Bcc.{xor_all}
use Rattle.frame.specs.Frame.{frame_of}
use Rattle.address.specs.Address.{address_of}
use Rattle.entry.specs.Fields.{entry_of, count_of}
use Rattle.limits.specs.Limits.{number_of, at_most, fits_in, is_within, entry_ok}
use Rattle.table.specs.Records.{entry_at, entries_from, entries, counts_of}
use Rattle.opening.specs.Rules.{rising_from, each_ok, run_ok, runs_ok}
use Rattle.opening.specs.Answers.{opening_of, passed}
use Rattle.area.specs.Read.{value_at, area_at, process_at}
use Rattle.task.specs.Task.{tasks, task_of}
use Rattle.page.specs.Page.{nibble_of}
use Rattle.request.specs.Request.{unused_zero, task_known, value_fits, task_fits}
use Rattle.content.specs.Content.{known_id, all_zero, bad_rows, bad_reply, reply_content}
use Rattle.read_answers.specs.declared.Reading.{Reading}
use Rattle.read_answers.specs.declared.ReadFault.{ReadFault}
use Rattle.reply.specs.Reply.{read_normal, read_task, read_of}
use Rattle.claims_known.specs.Telegrams.{setup, request1082}
use Rattle.claims_reply.specs.Known.{lent1082, readings1082}

pub table_opens : opening_of lent1082 ≡ passed
unfolding opening_of setup_ok entries entries_from entry_at entry_of count_of counts_of rising_from each_ok entry_ok fits_in at_most number_of run_ok runs_ok is_within
table_opens = refl

pub readings : map (λ (v : List ℕ × Result Reading ReadFault). read_of setup request1082 v.0) readings1082 ≡ map (λ (v : List ℕ × Result Reading ReadFault). v.1) readings1082
unfolding read_of setup_ok task_fits task_known value_fits tasks task_of unused_zero read_task frame_of xor_all address_of read_normal area_at value_at process_at bad_reply bad_rows known_id all_zero nibble_of reply_content
readings = refl
