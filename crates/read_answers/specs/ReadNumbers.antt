-- The document's numbers and values of a reading's answers (document 01, Answer numbers, "Reply reading").
--     read_fault_number f        a refusal: 30, 31, 10 to 17, 33
--     read_number r              a reading, 0 where it is no refusal
--     content_id c               the reply ID of what a reply holds
--     content_value c            its value or error number
--     read_id r, read_value r    the same of a reading, 0 in a refusal
use Rattle.std.specs.Prelude.{ℕ, Result, Ok, Err}
use Rattle.address.specs.Address.{fault_number}
use Rattle.read_answers.specs.declared.Content.{Content}
use Rattle.read_answers.specs.declared.Content.TheVariants.{Empty, Value, Failed, NoRight}
use Rattle.read_answers.specs.declared.ReadFault.{ReadFault}
use Rattle.read_answers.specs.declared.ReadFault.TheVariants.{UnfitSetup, NotAsked, InTelegram, OtherNode, OtherLength, NotTheReply}
use Rattle.read_answers.specs.declared.Reading.{Reading}

abbrev pub read_fault_number : ReadFault → ℕ
read_fault_number UnfitSetup = 30
read_fault_number NotAsked = 31
read_fault_number (InTelegram fault) = fault_number fault
read_fault_number OtherNode = 16
read_fault_number OtherLength = 17
read_fault_number NotTheReply = 33

abbrev pub content_id : Content → ℕ
content_id Empty = 0
content_id (Value id value) = id
content_id (Failed error) = 7
content_id NoRight = 8

abbrev pub content_value : Content → ℕ
content_value Empty = 0
content_value (Value id value) = value
content_value (Failed error) = error
content_value NoRight = 0

abbrev pub read_number : Result Reading ReadFault → ℕ
read_number (Ok reading) = 0
read_number (Err fault) = read_fault_number fault

abbrev pub read_id : Result Reading ReadFault → ℕ
read_id (Ok reading) = content_id reading.content
read_id (Err fault) = 0

abbrev pub read_value : Result Reading ReadFault → ℕ
read_value (Ok reading) = content_value reading.content
read_value (Err fault) = 0
