-- What a task asks of a parameter (document 01, Parameter area): in an area a of n words, of the record e.
--     reply_area a id v        a reply to the area a: ID and value, with a's base, page and index; the ignored bits are 0
--     error_area a error       the reply with an error
--     task_in a, index_in a    the task of an area and its index
--     value_in a               the value that it carries
--     element_in a e           the element that it means
--     verdict_in n a e         granted, or the first error that applies
--     act_deed act a e         what an act asks where no error applies
--     deed_on n a e            what the task asks: the error's reply, or the act
--     DeedFits d n             the element of a deed is below n
use Rattle.std.specs.Prelude.{ℕ, ◌+◌, ◌*◌, ◌/◌, ◌%◌, ◌<◌, Result, Ok, Err}
use Rattle.area.specs.declared.Area.{Area}
use Rattle.area.specs.Read.{empty_area}
use Rattle.page.specs.Page.{base_of}
use Rattle.entry.specs.declared.Entry.{Entry}
use Rattle.entry.specs.Fields.{count_of}
use Rattle.task.specs.declared.Task.{Task}
use Rattle.task.specs.declared.Act.{Act}
use Rattle.task.specs.declared.Act.TheVariants.{Nothing, Read, Change, Count, Refuse}
use Rattle.errors.specs.declared.ParameterError.{ParameterError}
use Rattle.errors.specs.declared.ParameterError.TheVariants.{NoTask}
use Rattle.task.specs.Task.{task_of, read_reply, carried}
use Rattle.errors.specs.ErrorNumbers.{error_number}
use Rattle.verdict.specs.Verdict.{verdict_of, element_of}
use Rattle.deed.specs.declared.Deed.{Deed}
use Rattle.deed.specs.declared.Deed.TheVariants.{Reply, Fetch, Write}

-- ---- replies

abbrev pub reply_area : Area → ℕ → ℕ → Area
reply_area a id v = record { pke = id * 4096 + base_of a.pke; ind = a.ind / 4096 * 4096 + a.ind % 256; value = v }

-- errors carry reply ID 7
abbrev pub error_area : Area → ParameterError → Area
error_area a error = reply_area a 7 (error_number error)

-- ---- the task of an area

-- bits 15-12 of PKE
abbrev pub task_in : Area → Task
task_in a = task_of (a.pke / 4096)

-- bits 7-0 of IND
abbrev pub index_in : Area → ℕ
index_in a = a.ind % 256

abbrev pub value_in : Area → ℕ
value_in a = carried (task_in a).width a.value

abbrev pub element_in : Area → Entry → ℕ
element_in a e = element_of (task_in a) e (index_in a)

abbrev pub verdict_in : ℕ → Area → Entry → Result (Unit {0}) ParameterError
verdict_in n a e = verdict_of n (task_in a) e (index_in a) (value_in a)

-- ---- what it asks

-- where no error applies: the read's value comes from the element, a change replies with the new value, task 9 with the number of
-- elements, 1 where there is no array. Refuse is not met: 106 is an error
abbrev pub act_deed : Act → Area → Entry → Deed
act_deed Nothing a e = Reply empty_area
act_deed Read a e = Fetch (reply_area a (read_reply (task_in a).reply e.double) 0) (element_in a e)
act_deed Change a e = Write (reply_area a (task_in a).reply (value_in a)) (element_in a e)
act_deed Count a e = Reply (reply_area a (task_in a).reply (count_of e))
act_deed Refuse a e = Reply (error_area a NoTask)

abbrev pub judged_deed : Result (Unit {0}) ParameterError → Area → Entry → Deed
judged_deed (Ok done) a e = act_deed (task_in a).act a e
judged_deed (Err error) a e = Reply (error_area a error)

unfoldable pub deed_on : ℕ → Area → Entry → Deed
deed_on n a e = judged_deed (verdict_in n a e) a e

abbrev pub DeedFits : Deed → ℕ → Type 0
DeedFits (Reply area) n = Unit {0}
DeedFits (Fetch area element) n = element < n
DeedFits (Write area element) n = element < n
