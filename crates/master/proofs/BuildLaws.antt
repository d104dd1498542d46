-- What the tests 30, 31, 32 say of a build: one law for every request; and that a telegram is sent as written. Assumes nothing.
use mathlib.Core.Path.{◌≡◌, refl, sym, ap, subst, ◌∙◌}
use mathlib.Core.Bool.{Bool, true, false, not, false≢true}
use mathlib.Core.List.{List}
use Prim.Native.Nat.{ℕ, ◌+◌, ◌*◌, ◌≤◌}
use native.Mathlib.Omega.{arith}
use borrow.Author.Tests.{ltb-false, not-false}
use lib.Dec.{ltb}
use lib.ListN.{length}
use Rattle.std.specs.Prelude.{Result, Ok, Err, is_ok, Option, unwrap_or}
use Rattle.rows.proofs.RowsLaws.{row_passed}
use Rattle.setup.specs.declared.Setup.{Setup}
use Rattle.setup.specs.SetupRules.{setup_ok}
use Rattle.setup.proofs.SetupLaws.{ok_configured, area_few, area_sized, area_some, Counted}
use Rattle.words.specs.declared.Words.{Words}
use Rattle.area.specs.declared.Area.{Area}
use Rattle.area.proofs.WordLaws.{Sized}
use Rattle.net.specs.Telegram.{telegram_of}
use Rattle.net.specs.Normal.{normal_of, normal_length}
use Rattle.net.proofs.NormalLaws.{normal_sent}
use Rattle.request.specs.declared.Request.{Request}
use Rattle.request.specs.Request.{expressible}
use Rattle.build_answers.specs.declared.BuildFault.{BuildFault}
use Rattle.build_answers.specs.declared.BuildFault.TheVariants.{BadSetup, NotExpressible, ShortBuffer}
use Rattle.master.specs.Build.{Builds, Sends, task_count, command_count, net_for, telegram_for, sent, outcome_of, admitted, built_of, fit}

abbrev is_done : Result (Unit {0}) BuildFault → Bool
is_done (Ok done) = true
is_done (Err fault) = false

-- a request that passed the tests: the set-up may be used, it can be asked, the buffer is long enough
pub record Admitted (s : Setup) (askable : Bool) (room : ℕ) : Type 0 where
  pub setup_good : setup_ok s ≡ true
  pub asked : askable ≡ true
  pub enough : 256 ≤ room

pub done_admitted : (s : Setup) (askable : Bool) (room : ℕ) → admitted s askable room ≡ fit → Admitted s askable room
unfolding admitted
done_admitted s askable room e =
    let p1 = row_passed is_done (not (setup_ok s)) (Err BadSetup) _ refl (ap is_done e) in
    let p2 = row_passed is_done (not askable) (Err NotExpressible) _ refl p1.1 in
    let p3 = row_passed is_done (ltb room 256) (Err ShortBuffer) _ refl p2.1 in
    record { setup_good = not-false _ p1.0; asked = not-false _ p2.0; enough = ltb-false _ _ p3.0 }

-- a build that succeeded
pub record Buildable (s : Setup) (r : Request) (net out : List ℕ) : Type 0 where
  pub passed : Admitted s (expressible s r net) (length out)
  pub is : built_of s r net out ≡ sent (telegram_for s r net) out

-- the outcome's answer is that of the tests: no refusal where they refuse nothing, else the same refusal
pub outcome_answer : (a : Result (Unit {0}) BuildFault) (telegram out : List ℕ) → is_ok (outcome_of a telegram out).built ≡ is_ok a
outcome_answer (Ok done) telegram out = refl
outcome_answer (Err fault) telegram out = refl

pub outcome_refused : (fault : BuildFault) (telegram out : List ℕ) → (outcome_of (Err fault) telegram out).built ≡ Err fault
outcome_refused fault telegram out = refl

outcome_fit : (a : Result (Unit {0}) BuildFault) (telegram out : List ℕ) → is_ok (outcome_of a telegram out).built ≡ true → a ≡ fit
outcome_fit (Ok done) telegram out h = refl
outcome_fit (Err fault) telegram out h = absurd (false≢true h)

pub done_buildable : (s : Setup) (r : Request) (net out : List ℕ) → is_ok (built_of s r net out).built ≡ true → Buildable s r net out
unfolding built_of
done_buildable s r net out e =
    let a = admitted s (expressible s r net) (length out) in
    let d : a ≡ fit = outcome_fit a (telegram_for s r net) out e in
    record { passed = done_admitted s (expressible s r net) (length out) d; is = ap (λ (b : Result (Unit {0}) BuildFault). outcome_of b (telegram_for s r net) out) d }

-- a is the answer of the tests
pub record Tested (s : Setup) (r : Request) (net out : List ℕ) (a : Result (Unit {0}) BuildFault) : Type 0 where
  pub by : a ≡ admitted s (expressible s r net) (length out)

pub by_tests : {s : Setup} {r : Request} {net out : List ℕ} {askable : Bool} {a : Result (Unit {0}) BuildFault}
    → askable ≡ expressible s r net → a ≡ admitted s askable (length out) → Tested s r net out a
by_tests {s} {r} {net} {out} e t = record { by = t ∙ ap (λ (b : Bool). admitted s b (length out)) e }

module _ {s : Setup} {r : Request} {net out : List ℕ} {a : Result (Unit {0}) BuildFault} (t : Tested s r net out a) where
  -- it decides the build
  decided : (b : Result (Unit {0}) BuildFault) → a ≡ b → built_of s r net out ≡ outcome_of b (telegram_for s r net) out
  unfolding built_of
  decided b e = ap (λ (x : Result (Unit {0}) BuildFault). outcome_of x (telegram_for s r net) out) (sym t.by ∙ e)

  pub tested_admitted : a ≡ fit → Admitted s (expressible s r net) (length out)
  tested_admitted e = done_admitted s (expressible s r net) (length out) (sym t.by ∙ e)

  pub builds_sent : a ≡ fit → {n : ℕ} {bytes : List ℕ} → Sends (telegram_for s r net) out n bytes → Builds (built_of s r net out) (Ok n) bytes
  builds_sent e w = rw (decided fit e) (record { answers = ap Ok w.long; bytes_are = w.there })

  pub builds_none : {fault : BuildFault} → a ≡ Err fault → Builds (built_of s r net out) (Err fault) out
  builds_none {fault} e = rw (decided (Err fault) e) (record { answers = refl; bytes_are = refl })

-- the areas that are built have the words that the set-up counts in their telegrams
pub task_counted : (s : Setup) (id : ℕ) → Counted s (task_count s id)
task_counted s id = refl

pub command_counted : (s : Setup) → Counted s (command_count s)
command_counted s = refl

-- an area and process words of a set-up that may be used are sent
pub sends_normal : (s : Setup) (k adr : ℕ) (a : Area) (w : Words) (out : List ℕ) → Counted s k → setup_ok s ≡ true → 256 ≤ length out → {o : Option ℕ} {bytes : List ℕ} {r : ℕ}
    → (o ≡ normal_length out a k w s.pzd) × (bytes ≡ normal_of out adr a k w s.pzd) → r ≡ unwrap_or o 0 → Sends (telegram_of adr (net_for s k a w)) out r bytes
sends_normal s k adr a w out counted good room e is =
    let c = ok_configured s good in
    let n = (k + s.pzd) * 2 in
    let m = normal_sent a k w s.pzd c.process (subst Sized counted (area_sized s n c)) out adr room (omega (arith, counted, area_some s n c)) (omega (arith, counted, area_few s n c)) in
    record { long = is ∙ ap (λ (x : Option ℕ). unwrap_or x 0) (e.0 ∙ m.0); there = e.1 ∙ m.1 }
