-- The fields of a record (document 01, Parameter table): packed most significant bit first, number 15 bits, double 1, signed 1,
-- writable 1, elements 8 (0 = no array), spare 6; then minimum 32, maximum 32.
--     entry_of head minimum maximum    the record of its first 32 bits and its limits
--     count_of e                       the places that it takes: one per element, one where it is no array
use Rattle.std.specs.Prelude.{ℕ, ◌/◌, ◌%◌, cond, eqb}
use Rattle.rows.specs.Bits.{bit}
use Rattle.entry.specs.declared.Entry.{Entry}

unfoldable pub entry_of : ℕ → ℕ → ℕ → Entry
entry_of head minimum maximum = record {
  number = head / 131072;
  double = eqb (bit 16 head) 1;
  signed = eqb (bit 15 head) 1;
  writable = eqb (bit 14 head) 1;
  elements = head / 64 % 256;
  spare = head % 64;
  minimum = minimum;
  maximum = maximum;
}

unfoldable pub count_of : Entry → ℕ
count_of e = cond (eqb e.elements 0) 1 e.elements
