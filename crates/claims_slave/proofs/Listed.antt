-- The slave with a list of first places. Assumes nothing.
--     listed_adds     with a right list it answers exactly as the slave that adds: answer, reply, values and control words
--     listed_run      so does every sequence of calls
--     right_list      a list is right exactly where it is the list of the first places
--     filled_right    the list that was filled from a table is right for it
--     wrong_list      any other list is 25 where the lines 20 to 22 do not hold, and nothing is touched
use Prim.Native.Nat.{ℕ}
use mathlib.Core.Path.{◌≡◌, refl, ap, ◌∙◌}
use mathlib.Core.Logic.{◌↔◌}
use mathlib.Core.Bool.{true, false}
use mathlib.Core.List.{List, [], ◌∷◌}
use lib.ListN.{length}
use Rattle.std.specs.Prelude.{Some, Result, Ok, Err}
use Rattle.setup.specs.SetupRules.{setup_ok}
use Rattle.address.specs.Address.{decoded_of}
use Rattle.address.specs.declared.Telegram.{Telegram}
use Rattle.address.specs.declared.Fault.{Fault}
use Rattle.address.specs.declared.Telegram.TheVariants.{Normal, Mirror, Broadcast}
use Rattle.slave_answers.specs.declared.OpeningFault.TheVariants.{BadPlaces}
use Rattle.slave_answers.specs.declared.Refusal.TheVariants.{AtOpening}
use Rattle.slave_answers.specs.declared.OpeningFault.{OpeningFault}
use Rattle.table.specs.Records.{entries, places_of}
use Rattle.opening.specs.Rules.{table_ok, values_ok, list_ok}
use Rattle.opening.specs.Answers.{opening_of, passed}
use Rattle.opening.proofs.SumsLaws.{sums_right, right_sums}
use Rattle.places.specs.Fill.{filling_of, filled_by}
use Rattle.slave.specs.Slave.{Call, Outcome, opening_at, refused_of, normal_case, mirror_case, broadcast_case, execute_decoded, execute_of, call_opened, call_of}
use Rattle.slave.proofs.CaseLaws.{called}
use Rattle.claims_slave.specs.Sequence.{Standing, State, Event, Run, asked, seen_of, left_by, run_of}
use Rattle.claims_slave.specs.Listed.{unlisted, adding}

-- ---- one call

-- the opening check passes over a right list, and what follows does not ask for it
module _ (k : Call) where
  opening_same : list_ok k.list k.table ≡ true → opening_at k ≡ opening_at (unlisted k)
  unfolding opening_of
  opening_same h = rw h

  decoded_same : (d : Result Telegram Fault) → execute_decoded d k ≡ execute_decoded d (unlisted k)
  unfolding normal_case mirror_case broadcast_case
  decoded_same (Ok (Normal node start end)) = refl
  decoded_same (Ok (Mirror node)) = refl
  decoded_same (Ok Broadcast) = refl
  decoded_same (Err fault) = refl

  opened_same : (o : Result (Unit {0}) OpeningFault) → call_opened o k ≡ call_opened o (unlisted k)
  unfolding execute_of
  opened_same (Ok done) = decoded_same (decoded_of k.received)
  opened_same (Err fault) = refl

  pub listed_adds : list_ok k.list k.table ≡ true → call_of k ≡ call_of (unlisted k)
  unfolding call_of
  listed_adds h = opened_same (opening_at k) ∙ ap (λ (o : Result (Unit {0}) OpeningFault). call_opened o (unlisted k)) (opening_same h)

  list_closed : setup_ok k.setup ≡ true → table_ok k.table ≡ true → values_ok k.table k.memory.values ≡ true → list_ok k.list k.table ≡ false
      → opening_at k ≡ Err BadPlaces
  unfolding opening_of
  list_closed s t v l = rw (s, t, v, l)

  pub wrong_list : setup_ok k.setup ≡ true → table_ok k.table ≡ true → values_ok k.table k.memory.values ≡ true → list_ok k.list k.table ≡ false
      → call_of k ≡ refused_of (AtOpening BadPlaces) k
  wrong_list s t v l = called k (Err BadPlaces) (list_closed s t v l)

-- ---- which list is right

pub right_list : (t ps : List ℕ) → list_ok (Some ps) t ≡ true ↔ ps ≡ places_of t
right_list t ps = (sums_right ps (entries t) 0, λ e. rw e (right_sums (entries t) 0))

pub filled_right : (t ps : List ℕ) → filling_of t (length ps) ≡ passed → list_ok (Some (filled_by (filling_of t (length ps)) t ps)) t ≡ true
filled_right t ps h = rw h (right_sums (entries t) 0)

-- ---- sequences

pub listed_run : (s : Standing) → list_ok s.list s.table ≡ true → (q : State) (es : List Event) → run_of s q es ≡ run_of (adding s) q es
unfolding run_of
listed_run s h q [] = refl
listed_run s h q (e ∷ es) =
    let same = listed_adds (asked s q e) h in
    ap (λ (o : Outcome). record { seen = seen_of o ∷ (run_of s (left_by o) es).seen; last = (run_of s (left_by o) es).last }) same
    ∙ ap (λ (r : Run). record { seen = seen_of (call_of (asked (adding s) q e)) ∷ r.seen; last = r.last }) (listed_run s h (left_by (call_of (asked (adding s) q e))) es)
