-- `text::write_digits`: its calls of itself end, since the number falls.
use Rattle.text.proofs.+write_digits.Given as goal

abbrev pub decreases-write_digits : goal.decreases-write_digits
decreases-write_digits l = l.n
