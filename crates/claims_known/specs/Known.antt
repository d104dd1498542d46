-- The known telegrams of document 01 ("Telegrams to prove and to run"), each as what the definitions give beside what the
-- document says. Slave and master have four parameter words in all of them.
--     known                the list, K1 to K12 in order; k1_first to k12 are its cases, each under its K number
--     printed, k8_paged    beside the list: 000's example of an XOR, and the other half of K8
--     indexed              beside the list: plain tasks by index (document 02, W-203)
use Rattle.std.specs.Prelude.{ℕ, ◌/◌, ◌%◌, List, [], ◌∷◌, replicate, take, None}
use Rattle.bcc.specs.Bcc.{xor_all}
use Rattle.area.specs.declared.Area.{Area}
use Rattle.area.specs.Net.{words_of}
use Rattle.net.specs.Telegram.{telegram_of}
use Rattle.slave.specs.Perform.{perform_of}
use Rattle.slave.specs.Slave.{Outcome, sent_by, call_of}
use Rattle.request.specs.declared.Request.{Request}
use Rattle.master.specs.Build.{task_area, length_in, built_of}
use Rattle.claims_known.specs.Telegrams.{setup, two_words, status, request1082, table1082, task1082, value1082, error1082}
use Rattle.slave_answers.specs.SlaveNumbers.{answer_number}
use Rattle.build_answers.specs.BuildNumbers.{built_number}

-- what the definitions give, and what the document says
abbrev pub Case : Type 0
Case = List ℕ × List ℕ

abbrev pub buffer : List ℕ
buffer = replicate 256 0

-- ---- K1: check characters of 003

abbrev pub k1_first : Case
k1_first = (xor_all (0x02 ∷ 0x07 ∷ 0x00 ∷ 0x04 ∷ 0x00 ∷ 0x21 ∷ 0x00 ∷ 0x1C ∷ []) ∷ [], 0x3C ∷ [])

abbrev pub k1_second : Case
k1_second = (xor_all (0x02 ∷ 0x05 ∷ 0x00 ∷ 0x00 ∷ 0x0C ∷ 0x06 ∷ []) ∷ [], 0x0D ∷ [])

-- 000's printed example, 02 XOR D6 = D4
abbrev pub printed : Case
printed = (xor_all (0x02 ∷ 0xD6 ∷ []) ∷ [], 0xD4 ∷ [])

-- ---- K2: the master's telegram for task 1, number 1082

-- the answer's number, the length, and the telegram
abbrev pub built : Request → List ℕ
built request =
    let o = built_of setup request [] buffer in
    built_number o.built ∷ length_in o.built ∷ take (length_in o.built) o.out

abbrev pub k2 : Case
k2 = (built request1082, 0 ∷ 16 ∷ task1082 0x0E 0x7A)

-- ---- K3, K4, K5, K6: the slave's answers to it

abbrev pub call : List ℕ → List ℕ → List ℕ → Outcome
call table values received =
    call_of (record { setup = setup; table = table; memory = record { values = values }; list = None; control = two_words 0 0; status = status; received = received; buffer = buffer })

-- the answer's number, the reply's length, and the reply
abbrev pub shown : Outcome → List ℕ
shown o = answer_number o.served.answer ∷ o.served.length ∷ sent_by o

abbrev pub k3 : Case
k3 = (shown (call table1082 (5000 ∷ []) (task1082 0x0E 0x7A)), 0 ∷ 16 ∷ value1082)

abbrev pub k4 : Case
k4 = (shown (call [] [] (task1082 0x0E 0x7A)), 0 ∷ 16 ∷ error1082)

abbrev pub k5 : Case
k5 = (shown (call table1082 (5000 ∷ []) (task1082 0x0E 0x7B)), 14 ∷ 0 ∷ [])

abbrev pub k6 : Case
k6 = (shown (call table1082 (5000 ∷ []) (task1082 0x0F 0x7A)), 13 ∷ 0 ∷ [])

-- ---- K7: the IND word of numbers at index 0

abbrev pub ind_of : ℕ → ℕ
ind_of number = (task_area 1 number 0 0).ind

abbrev pub k7 : Case
k7 = (
  ind_of 1999 ∷ ind_of 2000 ∷ ind_of 4000 ∷ ind_of 16000 ∷ ind_of 31999 ∷ [],
  0x0000 ∷ 0x8000 ∷ 0x1000 ∷ 0x4000 ∷ 0xF000 ∷ [],
)

-- ---- parameter tasks on one record: the reply's ID and value, and the values afterwards

abbrev pub perform : List ℕ → List ℕ → Area → List ℕ
perform table values a =
    let p = perform_of 4 table (record { values = values }) a in
    p.area.pke / 4096 ∷ p.area.value ∷ p.memory.values

-- PKE, IND and the value of a task
abbrev pub area : ℕ → ℕ → ℕ → Area
area pke ind value = record { pke = pke; ind = ind; value = value }

-- K8: base 2000 is error 0, also where the table has number 2000
abbrev pub table2000 : List ℕ
table2000 = 0x0F ∷ 0xA0 ∷ 0x00 ∷ 0x00 ∷ 0x00 ∷ 0x00 ∷ 0x00 ∷ 0x00 ∷ 0x00 ∷ 0x00 ∷ 0xFF ∷ 0xFF ∷ []

abbrev pub k8 : Case
k8 = (perform table2000 (7 ∷ []) (area 0x17D0 0x0000 0), 7 ∷ 0 ∷ 7 ∷ [])

-- the same parameter by its page and base 0 is there (not in the document's list)
abbrev pub k8_paged : Case
k8_paged = (perform table2000 (7 ∷ []) (area 0x1000 0x8000 0), 1 ∷ 7 ∷ 7 ∷ [])

-- ---- K9, K10: broadcasts

-- a telegram with selector, first mask, two zero words, and two process words
abbrev pub broadcast : ℕ → ℕ → ℕ → ℕ → List ℕ
broadcast selector mask first second =
    telegram_of 0x20
    (selector / 256 ∷ selector % 256 ∷ mask / 256 ∷ mask % 256 ∷ 0 ∷ 0 ∷ 0 ∷ 0
    ∷ first / 256 ∷ first % 256 ∷ second / 256 ∷ second % 256 ∷ [])

-- the answer's number, the reply's length, and the four control words, from 047E 1111
abbrev pub commanded : List ℕ → List ℕ
commanded received =
    let o = call_of (record { setup = setup; table = []; memory = record { values = [] }; list = None; control = two_words 0x047E 0x1111; status = status; received = received; buffer = buffer }) in
    answer_number o.served.answer ∷ o.served.length ∷ words_of o.served.control

abbrev pub k9 : Case
k9 = (commanded (broadcast 0x0006 0x0401 0x0401 0x2000), 2 ∷ 0 ∷ 0x047F ∷ 0x1111 ∷ 0 ∷ 0 ∷ [])

abbrev pub k10 : Case
k10 = (commanded (broadcast 0x0002 0xFFFF 0x047F 0x2000), 2 ∷ 0 ∷ 0x047F ∷ 0x1111 ∷ 0 ∷ 0 ∷ [])

-- ---- K11: a signed word, number 1, writable, limits -100 to 100; task 2

abbrev pub signed_table : List ℕ
signed_table = 0x00 ∷ 0x02 ∷ 0xC0 ∷ 0x00 ∷ 0x00 ∷ 0x00 ∷ 0xFF ∷ 0x9C ∷ 0x00 ∷ 0x00 ∷ 0x00 ∷ 0x64 ∷ []

abbrev pub k11_taken : Case
k11_taken = (perform signed_table (0 ∷ []) (area 0x2001 0x0000 0xFF9C), 1 ∷ 0xFF9C ∷ 0xFF9C ∷ [])

abbrev pub k11_outside : Case
k11_outside = (perform signed_table (0 ∷ []) (area 0x2001 0x0000 0xFF9B), 7 ∷ 2 ∷ 0 ∷ [])

-- ---- K12: task 6 by index, without an array and with two elements

abbrev pub plain_table : List ℕ
plain_table = 0x00 ∷ 0x02 ∷ 0x00 ∷ 0x00 ∷ 0x00 ∷ 0x00 ∷ 0x00 ∷ 0x00 ∷ 0x00 ∷ 0x00 ∷ 0xFF ∷ 0xFF ∷ []

abbrev pub pair_table : List ℕ
pair_table = 0x00 ∷ 0x02 ∷ 0x00 ∷ 0x80 ∷ 0x00 ∷ 0x00 ∷ 0x00 ∷ 0x00 ∷ 0x00 ∷ 0x00 ∷ 0xFF ∷ 0xFF ∷ []

abbrev pub k12_plain_runs : Case
k12_plain_runs = (perform plain_table (11 ∷ []) (area 0x6001 0x0001 0), 4 ∷ 11 ∷ 11 ∷ [])

abbrev pub k12_plain_over : Case
k12_plain_over = (perform plain_table (11 ∷ []) (area 0x6001 0x0002 0), 7 ∷ 4 ∷ 11 ∷ [])

abbrev pub k12_pair_runs : Case
k12_pair_runs = (perform pair_table (11 ∷ 12 ∷ []) (area 0x6001 0x0001 0), 4 ∷ 12 ∷ 11 ∷ 12 ∷ [])

abbrev pub k12_pair_over : Case
k12_pair_over = (perform pair_table (11 ∷ 12 ∷ []) (area 0x6001 0x0002 0), 7 ∷ 3 ∷ 11 ∷ 12 ∷ [])

-- ---- K1 to K12 in one list

abbrev pub known : List Case
known =
    k1_first ∷ k1_second ∷ k2 ∷ k3 ∷ k4 ∷ k5 ∷ k6 ∷ k7 ∷ k8 ∷ k9 ∷ k10 ∷ k11_taken ∷ k11_outside
    ∷ k12_plain_runs ∷ k12_plain_over ∷ k12_pair_runs ∷ k12_pair_over ∷ []

-- ---- the index in plain tasks (document 02, W-203): what K12 says of task 6, said of tasks 1, 2, 3, 13 and 14

-- number 1, words or doubles that can be written; `low` is the byte with the lower bits of the element count: 00 no array, 80 two elements
abbrev pub word_record : ℕ → List ℕ
word_record low = 0x00 ∷ 0x02 ∷ 0x40 ∷ low ∷ 0x00 ∷ 0x00 ∷ 0x00 ∷ 0x00 ∷ 0x00 ∷ 0x00 ∷ 0xFF ∷ 0xFF ∷ []

abbrev pub double_record : ℕ → List ℕ
double_record low = 0x00 ∷ 0x03 ∷ 0x40 ∷ low ∷ 0x00 ∷ 0x00 ∷ 0x00 ∷ 0x00 ∷ 0xFF ∷ 0xFF ∷ 0xFF ∷ 0xFF ∷ []

-- a task with the value 13, without an array and with two elements, at index 1 and at index 2
abbrev pub as_k12 : (ℕ → List ℕ) → ℕ → List (List ℕ)
as_k12 table pke =
    perform (table 0x00) (11 ∷ []) (area pke 0x0001 13)
    ∷ perform (table 0x00) (11 ∷ []) (area pke 0x0002 13)
    ∷ perform (table 0x80) (11 ∷ 12 ∷ []) (area pke 0x0001 13)
    ∷ perform (table 0x80) (11 ∷ 12 ∷ []) (area pke 0x0002 13)
    ∷ []

-- a read with reply ID id: runs, error 4, element 1, error 3
abbrev pub reads : ℕ → List (List ℕ)
reads id = (id ∷ 11 ∷ 11 ∷ []) ∷ (7 ∷ 4 ∷ 11 ∷ []) ∷ (id ∷ 12 ∷ 11 ∷ 12 ∷ []) ∷ (7 ∷ 3 ∷ 11 ∷ 12 ∷ []) ∷ []

-- a change
abbrev pub changes : ℕ → List (List ℕ)
changes id = (id ∷ 13 ∷ 13 ∷ []) ∷ (7 ∷ 4 ∷ 11 ∷ []) ∷ (id ∷ 13 ∷ 11 ∷ 13 ∷ []) ∷ (7 ∷ 3 ∷ 11 ∷ 12 ∷ []) ∷ []

-- what the definitions give, and what is awaited, of several tasks
abbrev pub Cases : Type 0
Cases = List (List ℕ) × List (List ℕ)

-- task 9, the last, ignores the index
abbrev pub indexed : List Cases
indexed =
    (as_k12 word_record 0x1001, reads 1)
    ∷ (as_k12 double_record 0x1001, reads 2)
    ∷ (as_k12 word_record 0x2001, changes 1)
    ∷ (as_k12 word_record 0xE001, changes 1)
    ∷ (as_k12 double_record 0x3001, changes 2)
    ∷ (as_k12 double_record 0xD001, changes 2)
    ∷ (perform (word_record 0x80) (11 ∷ 12 ∷ []) (area 0x9001 0x00FF 0) ∷ [], (6 ∷ 2 ∷ 11 ∷ 12 ∷ []) ∷ [])
    ∷ []
