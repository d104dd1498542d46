-- `text::count_digits` meets its contract: a number of 32 bits has at most ten digits, so the count fits. Assumes nothing.
use Rattle.std.proofs.Common.{arith}
use Rattle.text.proofs.DigitsLaws.{length_digits, some_digit}
use Rattle.text.proofs.count_digits.Goals as goal

pub overflow_add-count : goal.overflow_add-count
overflow_add-count c = omega (arith, length_digits 9 c.args.n (omega arith), some_digit c.loop-rest.rest)
