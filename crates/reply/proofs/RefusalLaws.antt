-- The process words of a reading that is refused are all 0. Assumes nothing.
use mathlib.Core.Path.{◌≡◌, refl}
use Rattle.std.specs.Prelude.{Err}
use Rattle.read_answers.specs.declared.ReadFault.{ReadFault}
use Rattle.reply.specs.Reply.{read_process}

pub refusal_words : (fault : ReadFault) → read_process (Err fault) ≡ record { w1 = 0; w2 = 0; w3 = 0; w4 = 0 }
refusal_words fault = refl
