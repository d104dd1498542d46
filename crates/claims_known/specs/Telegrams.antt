-- The telegrams K2 to K4 of document 01 ("Telegrams to prove and to run"), with their set-up, words and parameter.
--     setup                node 3, PKW 4, PZD 2
--     process, status      the words 047F 2000 of the task, and 0331 2000 of the replies
--     request1082          task 1, number 1082
--     table1082            number 1082, an unsigned word, read only, no array, limits 0 to 65535
--     task1082 lge last    K2, with any LGE and last byte for K5 and K6
--     value1082            K3
--     error1082            K4
use Rattle.std.specs.Prelude.{ℕ, List, [], ◌∷◌}
use Rattle.words.specs.declared.Words.{Words}
use Rattle.setup.specs.declared.Setup.{Setup}
use Rattle.request.specs.declared.Request.{Request}
use Rattle.request.specs.declared.Request.TheVariants.{Task}

abbrev pub setup : Setup
setup = record { node = 3; pkw = 4; pzd = 2 }

abbrev pub two_words : ℕ → ℕ → Words
two_words a b = record { w1 = a; w2 = b; w3 = 0; w4 = 0 }

abbrev pub process : Words
process = two_words 0x047F 0x2000

abbrev pub status : Words
status = two_words 0x0331 0x2000

abbrev pub request1082 : Request
request1082 = Task 1 1082 0 0 process

abbrev pub table1082 : List ℕ
table1082 = 0x08 ∷ 0x74 ∷ 0x00 ∷ 0x00 ∷ 0x00 ∷ 0x00 ∷ 0x00 ∷ 0x00 ∷ 0x00 ∷ 0x00 ∷ 0xFF ∷ 0xFF ∷ []

abbrev pub task1082 : ℕ → ℕ → List ℕ
task1082 lge last =
    0x02 ∷ lge ∷ 0x03 ∷ 0x14 ∷ 0x3A ∷ 0x00 ∷ 0x00 ∷ 0x00 ∷ 0x00 ∷ 0x00 ∷ 0x00 ∷ 0x04 ∷ 0x7F ∷ 0x20 ∷ 0x00 ∷ last ∷ []

abbrev pub value1082 : List ℕ
value1082 =
    0x02 ∷ 0x0E ∷ 0x03 ∷ 0x14 ∷ 0x3A ∷ 0x00 ∷ 0x00 ∷ 0x00 ∷ 0x00 ∷ 0x13 ∷ 0x88 ∷ 0x03 ∷ 0x31 ∷ 0x20 ∷ 0x00 ∷ 0xA8 ∷ []

abbrev pub error1082 : List ℕ
error1082 =
    0x02 ∷ 0x0E ∷ 0x03 ∷ 0x74 ∷ 0x3A ∷ 0x00 ∷ 0x00 ∷ 0x00 ∷ 0x00 ∷ 0x00 ∷ 0x00 ∷ 0x03 ∷ 0x31 ∷ 0x20 ∷ 0x00 ∷ 0x53 ∷ []
