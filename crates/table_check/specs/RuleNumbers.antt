-- The numbers of the rules (ours), and the answer's number that goes with each (document 01, Answer numbers 21 and 22).
--     rule_number r    1 to 9 are the table's, 10 and 11 the values'
--     rule_fault r     what the opening check answers where rule r is broken
--     rule_answer r    its number
use Rattle.std.specs.Prelude.{ℕ, [], ◌∷◌, leb}
use Rattle.rows.specs.Rows.{first_of}
use Rattle.slave_answers.specs.SlaveNumbers.{opening_number}
use Rattle.slave_answers.specs.declared.OpeningFault.{OpeningFault}
use Rattle.slave_answers.specs.declared.OpeningFault.TheVariants.{BadTable, BadValues}
use Rattle.table_check.specs.declared.Rule.{Rule}
use Rattle.table_check.specs.declared.Rule.TheVariants.{PartRecord, ManyRecords, NumberOrder, HighNumber, ManyElements, SpareBit, UpperHalf, LimitOrder, ManyPlaces, ValueCount, OutsideLimits}

abbrev pub rule_number : Rule → ℕ
rule_number PartRecord = 1
rule_number ManyRecords = 2
rule_number NumberOrder = 3
rule_number HighNumber = 4
rule_number ManyElements = 5
rule_number SpareBit = 6
rule_number UpperHalf = 7
rule_number LimitOrder = 8
rule_number ManyPlaces = 9
rule_number ValueCount = 10
rule_number OutsideLimits = 11

abbrev pub rule_fault : Rule → OpeningFault
rule_fault r = first_of ((leb (rule_number r) 9, BadTable) ∷ []) BadValues

abbrev pub rule_answer : Rule → ℕ
rule_answer r = opening_number (rule_fault r)
