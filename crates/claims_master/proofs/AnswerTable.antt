-- The answers of a build are those of document 01's lines, for every input. Assumes nothing.
--     build_exactly          a number is given exactly when its line holds and no earlier one does
--     exactly_build          and the number so told is the answer's
--     refused_build_keeps    a build that is refused reports 0 and writes nothing
use Prim.Native.Nat.{ℕ}
use mathlib.Core.Path.{◌≡◌, refl, sym, subst, ◌∙◌}
use mathlib.Core.List.{List}
use lib.ListN.{length}
use Rattle.std.specs.Prelude.{Result, Ok, Err}
use Rattle.rows.specs.Rows.{first_of, Chosen}
use Rattle.rows.proofs.RowsLaws.{first_chosen, chosen_first, first_read}
use Rattle.setup.specs.declared.Setup.{Setup}
use Rattle.request.specs.declared.Request.{Request}
use Rattle.request.specs.Request.{expressible}
use Rattle.build_answers.specs.declared.BuildFault.{BuildFault}
use Rattle.build_answers.specs.BuildNumbers.{built_number}
use Rattle.master.specs.Build.{telegram_for, length_in, outcome_of, admit_rows, admitted, built_of, fit}
use Rattle.claims_master.specs.AnswerTable.{admitted_number, build_rows}

outcome_number : (a : Result (Unit {0}) BuildFault) (telegram out : List ℕ) → built_number (outcome_of a telegram out).built ≡ admitted_number a
outcome_number (Ok done) telegram out = refl
outcome_number (Err fault) telegram out = refl

outcome_keeps : (a : Result (Unit {0}) BuildFault) (telegram out : List ℕ) (fault : BuildFault) → (outcome_of a telegram out).built ≡ Err fault
    → (length_in (outcome_of a telegram out).built ≡ 0) × ((outcome_of a telegram out).out ≡ out)
outcome_keeps (Ok done) telegram out fault e = absurd (cc)
outcome_keeps (Err other) telegram out fault e = (refl, refl)

module _ (s : Setup) (r : Request) (net out : List ℕ) where
  build_table : built_number (built_of s r net out).built ≡ first_of (build_rows s r net (length out)) 0
  unfolding built_of admitted
  build_table =
      outcome_number (admitted s (expressible s r net) (length out)) (telegram_for s r net) out
      ∙ first_read admitted_number (admit_rows s (expressible s r net) (length out)) fit

  pub build_exactly : Chosen (build_rows s r net (length out)) 0 (built_number (built_of s r net out).built)
  build_exactly = subst (λ (n : ℕ). Chosen (build_rows s r net (length out)) 0 n) (sym build_table) (first_chosen (build_rows s r net (length out)) 0)

  pub exactly_build : (n : ℕ) → Chosen (build_rows s r net (length out)) 0 n → built_number (built_of s r net out).built ≡ n
  exactly_build n c = build_table ∙ sym (chosen_first (build_rows s r net (length out)) 0 n c)

  pub refused_build_keeps : (fault : BuildFault) → (built_of s r net out).built ≡ Err fault
      → (length_in (built_of s r net out).built ≡ 0) × ((built_of s r net out).out ≡ out)
  unfolding built_of
  refused_build_keeps fault e = outcome_keeps (admitted s (expressible s r net) (length out)) (telegram_for s r net) out fault e
