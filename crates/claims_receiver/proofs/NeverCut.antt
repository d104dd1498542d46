-- A slave call with a whole telegram answers none of 10 to 13, whatever else it is given. Assumes nothing.
use mathlib.Core.Path.{◌≡◌, refl, ap}
use mathlib.Core.Logic.{◌⊎◌, inl, inr}
use mathlib.Core.Bool.{Bool, true, false}
use native.Mathlib.Omega.{arith}
use Prim.Native.Nat.{ℕ, ◌<◌}
use lib.Dec.{eqb, lit<}
use lib.ListN.{take}
use borrow.Author.Tests.{eqb-true, eqb-false}
use Rattle.std.specs.Prelude.{Result, Ok, Err}
use Rattle.words.specs.Words.{byte_at}
use Rattle.bcc.specs.Bcc.{xor_all}
use Rattle.frame.specs.Frame.{last_of}
use Rattle.frame.specs.declared.FrameFault.{FrameFault}
use Rattle.frame.specs.declared.FrameFault.TheVariants.{Check}
use Rattle.frame.proofs.FrameLaws.{check_wrong}
use Rattle.address.specs.Address.{decoded_from, decoded_of}
use Rattle.address.specs.declared.Fault.TheVariants.{InFrame}
use Rattle.opening.specs.Answers.{passed}
use Rattle.slave_answers.specs.declared.OpeningFault.{OpeningFault}
use Rattle.slave_answers.specs.declared.OpeningFault.TheVariants.{BadSetup, BadTable, BadValues, BadPlaces, ShortBuffer}
use Rattle.slave_answers.specs.SlaveNumbers.{opening_number, answer_number}
use Rattle.slave.specs.Slave.{Call, opening_at, call_of}
use Rattle.slave.proofs.CaseLaws.{executed, called}
use Rattle.claims_slave.proofs.AnswerTable.{beyond_frame}
use Rattle.claims_receiver.specs.Telegrams.{Whole}
use Rattle.claims_receiver.specs.Served.{NotCut}
use Rattle.claims_receiver.proofs.HandedOut.{whole_counted}

opening_above : (f : OpeningFault) → 13 < opening_number f
opening_above BadSetup = lit< tt
opening_above BadPlaces = lit< tt
opening_above BadTable = lit< tt
opening_above BadValues = lit< tt
opening_above ShortBuffer = lit< tt

pub call_never_cut : (k : Call) → Whole k.received → NotCut (answer_number (call_of k).served.answer)
call_never_cut k w = opened (opening_at k) refl
  where
    right : Bool
    right = eqb (byte_at k.received (last_of k.received)) (xor_all (take (last_of k.received) k.received))

    checked : opening_at k ≡ passed → (b : Bool) → right ≡ b → NotCut (answer_number (call_of k).served.answer)
    checked p true e = go (beyond_frame k p (record { counted = whole_counted k.received w; check = eqb-true _ _ e }))
      where
        go : (answer_number (call_of k).served.answer < 10) ⊎ (14 < answer_number (call_of k).served.answer) → NotCut (answer_number (call_of k).served.answer)
        go (inl h) = inl h
        go (inr h) = inr (omega arith)
    checked p false e =
        let d : decoded_of k.received ≡ Err (InFrame Check) =
        ap (λ (x : Result ℕ FrameFault). decoded_from x (byte_at k.received 2)) (check_wrong k.received (whole_counted k.received w) (eqb-false _ _ e)) in
        rw (called k passed p, executed k (Err (InFrame Check)) d) (inr (lit< tt))

    opened : (o : Result (Unit {0}) OpeningFault) → opening_at k ≡ o → NotCut (answer_number (call_of k).served.answer)
    opened (Err fault) e = rw (called k (Err fault) e) (inr (opening_above fault))
    opened (Ok done) e = checked e right refl
