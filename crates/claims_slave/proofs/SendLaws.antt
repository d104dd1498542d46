-- What any task of a slave that opened is answered with: a reply as the deed has it, of the values in the memory. Assumes nothing.
use Prim.Native.Nat.{ℕ, ◌+◌, ◌/◌, ◌≤◌, ◌<◌}
use mathlib.Core.Path.{◌≡◌, refl}
use mathlib.Core.Logic.{inl, inr}
use mathlib.Core.Bool.{Bool, true, false}
use mathlib.Core.List.{List}
use native.Mathlib.Omega.{arith}
use borrow.Author.Tests.{leb-true}
use lib.Dec.{eqb}
use lib.ListN.{get_or, length}
use Rattle.std.specs.Prelude.{Option, Some, None}
use Rattle.rows.proofs.RangeLaws.{between}
use Rattle.area.specs.declared.Area.{Area}
use Rattle.area.specs.Read.{area_at}
use Rattle.entry.specs.declared.Entry.{Entry}
use Rattle.limits.specs.Limits.{fits_in, is_within}
use Rattle.limits.proofs.LimitsLaws.{ok_ruled, within_fits}
use Rattle.table.specs.Records.{entry_at, first_place}
use Rattle.errors.specs.declared.ParameterError.TheVariants.{NoParameter}
use Rattle.deed.specs.declared.Deed.{Deed}
use Rattle.deed.specs.declared.Deed.TheVariants.{Reply, Fetch, Write}
use Rattle.deed.specs.Deed.{element_in, deed_on}
use Rattle.deed.proofs.DeedLaws.{element_there}
use Rattle.deed.proofs.ReplyLaws.{MayReply, idle_replies, error_replies, filled, deed_replies}
use Rattle.opening.specs.Lent.{Lent, Memory}
use Rattle.opening.specs.Answers.{opening_of, passed}
use Rattle.opening.proofs.FoundLaws.{passed_in_table}
use Rattle.slave.specs.declared.Plan.{Plan}
use Rattle.slave.specs.Perform.{done_by, found_of, plan_on, plan_in, plan_at, carried_out}
use Rattle.claims_slave.specs.ReplyArea.{reply_ids, OneOf}
use Rattle.claims_slave.proofs.Kept.{found_is}

-- the reply IDs are those of the document's table
pub id_listed : (id : ℕ) → id ≤ 7 → (id ≡ 3 → ⊥) → OneOf id reply_ids
id_listed id few not_3 =
    between (λ k. (k ≡ 3 → ⊥) → OneOf k reply_ids) 8 0 (
      λ h. inl refl,
      (
        λ h. inr (inl refl),
        (
          λ h. inr (inr (inl refl)),
          (
            λ h. absurd (h refl),
            (λ h. inr (inr (inr (inl refl))), (λ h. inr (inr (inr (inr (inl refl)))), (λ h. inr (inr (inr (inr (inr (inl refl))))), (λ h. inr (inr (inr (inr (inr (inr (inl refl)))))), tt)))),
          ),
        ),
      ),
    )
    id (omega arith) (omega arith) not_3

-- the element that a deed fetches comes from the memory
done_filled : (d : Deed) (first : ℕ) (m : Memory) → (done_by d first m).area ≡ filled d (λ i. get_or m.values (first + i) 0)
done_filled (Reply p) first m = refl
done_filled (Fetch p element) first m = refl
done_filled (Write p element) first m = refl

-- a value within the limits of a word is a word
word_small : (e : Entry) (v : ℕ) → is_within e v ≡ true → e.double ≡ false → v < 65536
unfolding fits_in
word_small e v w d = let h = leb-true v 65535 (rw d at (within_fits e v w)) in omega arith

module _ (l : Lent) (opens : opening_of l ≡ passed) (n : ℕ) where
  abbrev Sends : Plan → Type 0
  Sends p = MayReply n (carried_out p l.memory).area

  record_sends : (a : Area) (j : ℕ) → j < length l.table / 12 → Sends (plan_on n l.table a (Some j))
  record_sends a j below =
      let e = entry_at l.table j in
      let first = first_place l.table j in
      let there = passed_in_table l j opens below in
      rw (done_filled (deed_on n a e) first l.memory)
      (deed_replies n a e (ok_ruled e there.ok).elements_few (λ i. get_or l.memory.values (first + i) 0)
      (λ g. word_small e (get_or l.memory.values (first + element_in a e) 0) (there.value (element_in a e) (element_there n a e g))))

  found_sends : (a : Area) (f : Option ℕ) → found_of l.table a ≡ f → Sends (plan_on n l.table a f)
  found_sends a None e = error_replies n a NoParameter
  found_sends a (Some j) e = record_sends a j (found_is l.table a j e)

  area_sends : (a : Area) → Sends (plan_in n l.table a)
  unfolding plan_in
  area_sends a = go (eqb (a.pke / 4096) 0) refl
    where
      go : (b : Bool) → eqb (a.pke / 4096) 0 ≡ b → Sends (plan_in n l.table a)
      go true e = rw e (idle_replies n)
      go false e = rw e (found_sends a (found_of l.table a) refl)

  pub task_sends : (rx : List ℕ) → Sends (plan_at n l.table rx)
  unfolding plan_at
  task_sends rx = go (eqb n 0) refl
    where
      go : (b : Bool) → eqb n 0 ≡ b → Sends (plan_at n l.table rx)
      go true e = rw e (idle_replies n)
      go false e = rw e (area_sends (area_at rx n))
