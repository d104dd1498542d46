-- The answers of a reading are those of document 01's lines, for every input. Assumes nothing.
--     read_exactly    a number is given exactly when its line holds and no earlier one does
--     exactly_read    and the number so told is the answer's
use Prim.Native.Nat.{ℕ, ◌-◌, ◌%◌}
use mathlib.Core.Path.{◌≡◌, refl, sym, ap, subst, ◌∙◌}
use mathlib.Core.Bool.{Bool, true, false, not, ◌&&◌, ◌||◌, cond}
use mathlib.Core.List.{List, [], ◌∷◌}
use native.Mathlib.Omega.{arith}
use lib.Dec.{eqb}
use Rattle.std.specs.Prelude.{Result, Ok, Err}
use Rattle.rows.specs.Rows.{first_of, Chosen}
use Rattle.rows.proofs.RowsLaws.{first_chosen, chosen_first, first_read}
use Rattle.setup.specs.declared.Setup.{Setup}
use Rattle.setup.specs.SetupRules.{setup_ok, area_count, other_node, other_length}
use Rattle.frame.specs.Frame.{last_of, frame_rows, frame_numbers, frame_of}
use Rattle.address.specs.Address.{bad_address, broadcast_bit, mirror_bit, address_rows, address_of, addressed, decoded_from, adr_of}
use Rattle.address.specs.declared.Address.{Address}
use Rattle.address.specs.declared.Address.TheVariants.{ToOne}
use Rattle.address.specs.declared.Telegram.{Telegram}
use Rattle.address.specs.declared.Fault.{Fault}
use Rattle.request.specs.declared.Request.{Request}
use Rattle.request.specs.declared.Request.TheVariants.{Task, Mirror, Broadcast}
use Rattle.request.specs.Request.{task_askable}
use Rattle.read_answers.specs.declared.ReadFault.{ReadFault}
use Rattle.read_answers.specs.declared.ReadFault.TheVariants.{UnfitSetup, NotAsked, OtherNode, OtherLength, NotTheReply}
use Rattle.read_answers.specs.declared.Content.TheVariants.{Empty}
use Rattle.read_answers.specs.ReadNumbers.{read_number}
use Rattle.content.specs.declared.Question.{Question}
use Rattle.content.specs.Content.{bad_reply, reply_content}
use Rattle.read_answers.specs.declared.Reading.{Reading}
use Rattle.reply.specs.Reply.{area_in, process_in, read_normal, read_decoded, read_task, read_of}
use Rattle.claims_reply.specs.AnswerTable.{reading_rows}
use Rattle.slave.specs.Slave.{net_in}
use Rattle.frame.specs.declared.FrameFault.{FrameFault}

-- 15 to 33 as the reading tests them by kind, and as the lines have them: bad address, broadcast, mirror, other node, other length, no
-- area, not the reply
abbrev by_kind : Bool → Bool → Bool → Bool → Bool → Bool → Bool → ℕ
by_kind h b m node long none bad = first_of ((h, 15) ∷ (b, 15) ∷ (m, 15) ∷ []) (first_of ((node, 16) ∷ (long, 17) ∷ (none, 0) ∷ (bad, 33) ∷ []) 0)

abbrev by_line : Bool → Bool → Bool → Bool → Bool → Bool → Bool → ℕ
by_line h b m node long none bad = first_of ((h || (b || m), 15) ∷ (node, 16) ∷ (long, 17) ∷ (not none && bad, 33) ∷ []) 0

lines : (h b m node long none bad : Bool) → by_kind h b m node long none bad ≡ by_line h b m node long none bad
lines true b m node long none bad = refl
lines false true m node long none bad = refl
lines false false true node long none bad = refl
lines false false false true long none bad = refl
lines false false false false true none bad = refl
lines false false false false false true bad = refl
lines false false false false false false bad = refl

module _ (s : Setup) (q : Question) (rx : List ℕ) where
  abbrev of_decoded : Result Telegram Fault → ℕ
  of_decoded d = read_number (read_decoded d s q rx)

  abbrev bad : ℕ → Bool
  bad n = bad_reply (area_count s n) q (area_in s rx n)

  normal_number : (node n : ℕ) → read_number (read_normal s q rx node n)
      ≡ first_of ((other_node s node, 16) ∷ (other_length s n, 17) ∷ (eqb (area_count s n) 0, 0) ∷ (bad n, 33) ∷ []) 0
  unfolding read_normal
  normal_number node n =
      first_read read_number
      ((other_node s node, Err OtherNode)
      ∷ (other_length s n, Err OtherLength)
      ∷ (eqb (area_count s n) 0, Ok (record { content = Empty; process = process_in s rx n }))
      ∷ (bad n, Err NotTheReply)
      ∷ [])
      (Ok (record { content = reply_content q.id (area_in s rx n); process = process_in s rx n }))

  abbrev after_frame : ℕ → ℕ
  after_frame n =
      by_line (bad_address (adr_of rx)) (broadcast_bit (adr_of rx)) (mirror_bit (adr_of rx)) (other_node s (adr_of rx % 32)) (other_length s n) (eqb (area_count s n) 0) (bad n)

  sound_number : of_decoded (addressed (address_of (adr_of rx)) (last_of rx)) ≡ after_frame (net_in rx)
  unfolding address_of
  sound_number =
      let net : last_of rx - 3 ≡ net_in rx = omega arith in
      first_read (λ (a : Result Address Fault). of_decoded (addressed a (last_of rx))) (address_rows (adr_of rx)) (Ok (ToOne (adr_of rx % 32)))
      ∙ rw (normal_number (adr_of rx % 32) (last_of rx - 3), net)
      (lines (bad_address (adr_of rx)) (broadcast_bit (adr_of rx)) (mirror_bit (adr_of rx)) (other_node s (adr_of rx % 32)) (other_length s (net_in rx)) (eqb (area_count s (net_in rx)) 0) (bad (net_in rx)))

  abbrev of_frame : Result ℕ FrameFault → ℕ
  of_frame f = of_decoded (decoded_from f (adr_of rx))

  task_number : read_number (read_task s q rx) ≡ first_of (frame_numbers rx) (after_frame (net_in rx))
  unfolding read_task frame_of
  task_number =
      first_read of_frame (frame_rows rx) (Ok (last_of rx)) ∙ ap (λ (n : ℕ). first_of (frame_numbers rx) n) sound_number

-- 30 and 31 before it
before : (ok asks : Bool) (r : Result Reading ReadFault) (n : ℕ) → read_number r ≡ n
    → read_number (cond ok (cond asks r (Err NotAsked)) (Err UnfitSetup)) ≡ first_of ((not ok, 30) ∷ (not asks, 31) ∷ []) n
before false asks r n e = refl
before true false r n e = refl
before true true r n e = e

read_table : (s : Setup) (r : Request) (rx : List ℕ) → read_number (read_of s r rx) ≡ first_of (reading_rows s r rx) 0
unfolding read_of
read_table s (Task id number index value process) rx =
    let q : Question = record { id = id; number = number; index = index } in
    before (setup_ok s) (task_askable s id number index value process) (read_task s q rx) _ (task_number s q rx)
read_table s Mirror rx = before (setup_ok s) false (Err NotAsked) _ refl
read_table s (Broadcast selector mask1 mask2 process) rx = before (setup_ok s) false (Err NotAsked) _ refl

module _ (s : Setup) (r : Request) (rx : List ℕ) where
  pub read_exactly : Chosen (reading_rows s r rx) 0 (read_number (read_of s r rx))
  read_exactly = subst (λ (n : ℕ). Chosen (reading_rows s r rx) 0 n) (sym (read_table s r rx)) (first_chosen (reading_rows s r rx) 0)

  pub exactly_read : (n : ℕ) → Chosen (reading_rows s r rx) 0 n → read_number (read_of s r rx) ≡ n
  exactly_read n c = read_table s r rx ∙ sym (chosen_first (reading_rows s r rx) 0 n c)
