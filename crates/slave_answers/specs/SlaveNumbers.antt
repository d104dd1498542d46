-- The document's numbers of a slave call's answers (document 01, Answer numbers).
--     opening_number f    a refusal by the opening check, 20 to 23 and 25
--     refusal_number f    a refusal, 20 to 23, 25 and 10 to 18
--     accepted_number a   an answer that is no refusal, 0, 1, 2
--     answer_number r     an answer or a refusal
use Rattle.std.specs.Prelude.{ℕ, Result, Ok, Err}
use Rattle.address.specs.Address.{fault_number}
use Rattle.slave_answers.specs.declared.OpeningFault.{OpeningFault}
use Rattle.slave_answers.specs.declared.OpeningFault.TheVariants.{BadSetup, BadTable, BadValues, BadPlaces, ShortBuffer}
use Rattle.slave_answers.specs.declared.Refusal.{Refusal}
use Rattle.slave_answers.specs.declared.Refusal.TheVariants.{AtOpening, InTelegram, OtherNode, OtherLength, VoidBroadcast}
use Rattle.slave_answers.specs.declared.Answer.{Answer}
use Rattle.slave_answers.specs.declared.Answer.TheVariants.{Replied, Mirrored, Taken}

abbrev pub opening_number : OpeningFault → ℕ
opening_number BadSetup = 20
opening_number BadTable = 21
opening_number BadValues = 22
opening_number BadPlaces = 25
opening_number ShortBuffer = 23

abbrev pub refusal_number : Refusal → ℕ
refusal_number (AtOpening fault) = opening_number fault
refusal_number (InTelegram fault) = fault_number fault
refusal_number OtherNode = 16
refusal_number OtherLength = 17
refusal_number VoidBroadcast = 18

abbrev pub accepted_number : Answer → ℕ
accepted_number Replied = 0
accepted_number Mirrored = 1
accepted_number Taken = 2

abbrev pub answer_number : Result Answer Refusal → ℕ
answer_number (Ok answer) = accepted_number answer
answer_number (Err refusal) = refusal_number refusal
