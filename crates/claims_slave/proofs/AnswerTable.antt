-- The answer of a slave call is that of document 01's table, for every input. Assumes nothing.
--     answer_table      the number is that of the first line that holds, and 0, 1 or 2 where none does
--     answer_exactly    a number is given exactly when its line holds and no earlier one does
--     exactly_answer    and the number so told is the answer's
--     beyond_frame      with an opening check and a frame check that pass, the number is none of 10 to 14
use Prim.Native.Nat.{ℕ, ◌-◌, ◌%◌}
use mathlib.Core.Path.{◌≡◌, refl, sym, ap, subst, ◌∙◌}
use mathlib.Core.Logic.{inl, inr}
use mathlib.Core.Bool.{Bool, true, false, not, ◌&&◌, ◌||◌}
use mathlib.Core.List.{List, [], ◌∷◌}
use native.Mathlib.Omega.{arith}
use lib.Dec.{lit<}
use Rattle.std.specs.Prelude.{Result, Ok}
use Rattle.rows.specs.Rows.{first_of, read_rows, Chosen}
use Rattle.rows.proofs.RowsLaws.{first_all, first_chosen, chosen_first, first_read}
use Rattle.setup.specs.SetupRules.{other_node, other_length}
use Rattle.frame.specs.Frame.{last_of, frame_rows, frame_numbers, frame_of}
use Rattle.frame.specs.declared.FrameFault.{FrameFault}
use Rattle.address.specs.Address.{broadcast_bit, mirror_bit, top_bit, address_rows, address_of, addressed, decoded_from, adr_of}
use Rattle.address.specs.declared.Address.{Address}
use Rattle.address.specs.declared.Address.TheVariants.{ToOne}
use Rattle.address.specs.declared.Telegram.{Telegram}
use Rattle.address.specs.declared.Fault.{Fault}
use Rattle.frame.proofs.FrameLaws.{Framed}
use Rattle.address.proofs.DecodedLaws.{framed_decoded}
use Rattle.opening.specs.Answers.{opened_number, opening_rows, opening_of, passed}
use Rattle.slave_answers.specs.declared.Refusal.TheVariants.{OtherNode, OtherLength, VoidBroadcast}
use Rattle.slave_answers.specs.SlaveNumbers.{answer_number}
use Rattle.slave_answers.specs.declared.OpeningFault.{OpeningFault}
use Rattle.control.specs.Control.{void_in}
use Rattle.slave.specs.Slave.{Call, Outcome, lent_by, opening_at, net_in, refused_of, normal_outcome, normal_case, mirror_outcome, mirror_case, taken_outcome, broadcast_case, execute_decoded, execute_of, call_opened, call_of}
use Rattle.slave.proofs.CaseLaws.{executed, called}
use Rattle.claims_slave.specs.Outcomes.{NotFrame, PastFrame}
use Rattle.claims_slave.specs.AnswerTable.{answer_rows, accepted_number}

-- ---- the kinds

-- 15 to 18 as the call tests them by kind, and as the table has them: top bit, broadcast, mirror, other node, other length, void
abbrev by_kind : Bool → Bool → Bool → Bool → Bool → Bool → ℕ
by_kind h b m node long void =
    first_of ((h || b && m, 15) ∷ (b, first_of ((long, 17) ∷ (void, 18) ∷ []) 2) ∷ (m, first_of ((node, 16) ∷ []) 1) ∷ [])
    (first_of ((node, 16) ∷ (long, 17) ∷ []) 0)

abbrev line_rows : Bool → Bool → Bool → Bool → Bool → Bool → List (Bool × ℕ)
line_rows h b m node long void =
    (h || b && m, 15) ∷ (not b && node, 16) ∷ (not m && long, 17) ∷ (b && void, 18) ∷ (b, 2) ∷ (m, 1) ∷ []

abbrev by_line : Bool → Bool → Bool → Bool → Bool → Bool → ℕ
by_line h b m node long void = first_of (line_rows h b m node long void) 0

kinds : (h b m node long void : Bool) → by_kind h b m node long void ≡ by_line h b m node long void
kinds true b m node long void = refl
kinds false true true node long void = refl
kinds false true false node true void = refl
kinds false true false node false true = refl
kinds false true false node false false = refl
kinds false false true true long void = refl
kinds false false true false long void = refl
kinds false false false true long void = refl
kinds false false false false true void = refl
kinds false false false false false void = refl

abbrev number_in : Outcome → ℕ
number_in o = answer_number o.served.answer

module _ (k : Call) where
  abbrev adr : ℕ
  adr = adr_of k.received

  abbrev node_other : Bool
  node_other = other_node k.setup (adr % 32)

  abbrev length_other : Bool
  length_other = other_length k.setup (net_in k.received)

  abbrev is_void_in : Bool
  is_void_in = void_in k.setup (net_in k.received) k.received

  abbrev table_number : ℕ
  table_number = by_line (top_bit adr) (broadcast_bit adr) (mirror_bit adr) node_other length_other is_void_in

  -- past the frame check
  table_beyond : NotFrame table_number
  table_beyond =
      first_all NotFrame (line_rows (top_bit adr) (broadcast_bit adr) (mirror_bit adr) node_other length_other is_void_in) 0
      (inr (lit< tt), (inr (lit< tt), (inr (lit< tt), (inr (lit< tt), (inl (lit< tt), (inl (lit< tt), tt))))))
      (inl (lit< tt))

  normal_number : (node n : ℕ) → number_in (normal_case node n k) ≡ first_of ((other_node k.setup node, 16) ∷ (other_length k.setup n, 17) ∷ []) 0
  unfolding normal_case
  normal_number node n =
      first_read number_in ((other_node k.setup node, refused_of OtherNode k) ∷ (other_length k.setup n, refused_of OtherLength k) ∷ []) (normal_outcome n k)

  mirror_number : (node : ℕ) → number_in (mirror_case node k) ≡ first_of ((other_node k.setup node, 16) ∷ []) 1
  unfolding mirror_case
  mirror_number node = first_read number_in ((other_node k.setup node, refused_of OtherNode k) ∷ []) (mirror_outcome k)

  broadcast_number : number_in (broadcast_case (net_in k.received) k) ≡ first_of ((length_other, 17) ∷ (is_void_in, 18) ∷ []) 2
  unfolding broadcast_case
  broadcast_number =
      first_read number_in ((length_other, refused_of OtherLength k) ∷ (is_void_in, refused_of VoidBroadcast k) ∷ []) (taken_outcome (net_in k.received) k)

  -- ---- the address byte

  abbrev of_decoded : Result Telegram Fault → ℕ
  of_decoded d = number_in (execute_decoded d k)

  sound_number : of_decoded (addressed (address_of adr) (last_of k.received)) ≡ table_number
  unfolding address_of
  sound_number =
      let net : last_of k.received - 3 ≡ net_in k.received = omega arith in
      first_read (λ (a : Result Address Fault). of_decoded (addressed a (last_of k.received))) (address_rows adr) (Ok (ToOne (adr % 32)))
      ∙ rw (net, normal_number (adr % 32) (net_in k.received), mirror_number (adr % 32), broadcast_number)
      (kinds (top_bit adr) (broadcast_bit adr) (mirror_bit adr) node_other length_other is_void_in)

  -- ---- the frame check

  frame_number_lem : number_in (execute_of k) ≡ first_of (frame_numbers k.received) table_number
  unfolding execute_of frame_of
  frame_number_lem =
      first_read (λ (r : Result ℕ FrameFault). of_decoded (decoded_from r adr)) (frame_rows k.received) (Ok (last_of k.received))
      ∙ ap (λ (n : ℕ). first_of (frame_numbers k.received) n) sound_number

  -- ---- the opening check, and the whole

  abbrev opening_numbers : List (Bool × ℕ)
  opening_numbers = read_rows opened_number (opening_rows (lent_by k))

  call_number : number_in (call_of k) ≡ first_of opening_numbers (number_in (execute_of k))
  unfolding call_of opening_of
  call_number = first_read (λ (o : Result (Unit {0}) OpeningFault). number_in (call_opened o k)) (opening_rows (lent_by k)) passed

  pub answer_table : answer_number (call_of k).served.answer ≡ first_of (answer_rows k) (accepted_number k.received)
  answer_table = call_number ∙ ap (λ (n : ℕ). first_of opening_numbers n) frame_number_lem

  pub answer_exactly : Chosen (answer_rows k) (accepted_number k.received) (answer_number (call_of k).served.answer)
  answer_exactly =
      subst (λ (n : ℕ). Chosen (answer_rows k) (accepted_number k.received) n) (sym answer_table) (first_chosen (answer_rows k) (accepted_number k.received))

  pub exactly_answer : (n : ℕ) → Chosen (answer_rows k) (accepted_number k.received) n → answer_number (call_of k).served.answer ≡ n
  exactly_answer n c = answer_table ∙ sym (chosen_first (answer_rows k) (accepted_number k.received) n c)

  pub beyond_frame : opening_at k ≡ passed → Framed k.received → PastFrame (call_of k)
  beyond_frame p f =
      let o = called k passed p ∙ executed k (addressed (address_of adr) (last_of k.received)) (framed_decoded k.received f) in
      subst NotFrame (sym (ap number_in o ∙ sound_number)) table_beyond
