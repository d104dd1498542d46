-- What a check of a table names.
--     least_at t k         the least number that record k may have: one over that of the record before it
--     rule_at t k          the first rule that record k of a table breaks
--     RecordNamed t r      r names the first record that breaks a rule, and the first rule that it breaks
--     ValueNamed t vs r    r names the first value that is outside the limits of its record
use Rattle.std.specs.Prelude.{ℕ, zero, suc, ◌+◌, ◌/◌, ◌<◌, ◌≤◌, ◌≡◌, List, true, false, length, get_or, Option, None, IsSomeAnd}
use Rattle.entry.specs.Fields.{count_of}
use Rattle.limits.specs.Limits.{is_within}
use Rattle.table.specs.Records.{entry_at, first_place}
use Rattle.table_check.specs.declared.Rule.{Rule}
use Rattle.table_check.specs.declared.Rule.TheVariants.{OutsideLimits}
use Rattle.table_check.specs.declared.TableCheck.{TableCheck}
use Rattle.table_check.specs.RuleNumbers.{rule_number}
use Rattle.table_check.specs.Checks.{record_rule}

abbrev pub least_at : List ℕ → ℕ → ℕ
least_at t zero = 0
least_at t (suc k) = (entry_at t k).number + 1

abbrev pub rule_at : List ℕ → ℕ → Option Rule
rule_at t k = record_rule (least_at t k) (first_place t k) (entry_at t k)

pub record RecordNamed (t : List ℕ) (r : TableCheck) : Type 0 where
  pub below : r.«record» < length t / 12
  pub broken : IsSomeAnd (rule_at t r.«record») (λ rule. r.rule ≡ rule_number rule)
  pub before : (k : ℕ) → k < r.«record» → rule_at t k ≡ None

pub record ValueNamed (t vs : List ℕ) (r : TableCheck) : Type 0 where
  pub below : r.«record» < length t / 12
  pub rule_is : r.rule ≡ rule_number OutsideLimits
  pub from : first_place t r.«record» ≤ r.place
  pub to : r.place < first_place t r.«record» + count_of (entry_at t r.«record»)
  pub outside : is_within (entry_at t r.«record») (get_or vs r.place 0) ≡ false
  pub own_before : (q : ℕ) → first_place t r.«record» ≤ q → q < r.place → is_within (entry_at t r.«record») (get_or vs q 0) ≡ true
  pub before : (k i : ℕ) → k < r.«record» → i < count_of (entry_at t k) → is_within (entry_at t k) (get_or vs (first_place t k + i) 0) ≡ true
