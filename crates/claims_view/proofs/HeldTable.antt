-- The view that holds its table does what the cursor beside the table does. Assumes nothing.
use Prim.Native.Nat.{ℕ}
use mathlib.Core.Path.{◌≡◌, refl, sym, ap, ◌∙◌}
use mathlib.Core.List.{List}
use seplogic.Ra.Ura.{Ura}
use base.Logic.{SProp}
use prog.Memory.{Memory}
use prog.Routine.{Routine}
use types.Logic.{Logic}
use contract.Lifetimes.{Lfts}
use contract.Monad.{Fun, fact}
use denote.Ref.{Bor}
use denote.Triple.Clauses.{AtExit}
use Rattle.view.specs.declared.Cursor.{Cursor}
use Rattle.view.specs.declared.Shown.{Shown}
use Rattle.view.specs.declared.View.{View}
use Rattle.view.proofs.first.Reads as first
use Rattle.view.proofs.look.Reads as look
use Rattle.view.proofs.next.Reads as next
use Rattle.view.specs.contracts.View.new as new
use Rattle.view.specs.contracts.View.show as show
use Rattle.view.specs.contracts.View.step as step
use Rattle.claims_view.specs.HeldTable.{NewPost, ShowPost, StepPost}

-- what is promised is what the source states
module _ {M : Type 1} {𝓤 : Ura M} (𝓛 : Logic 𝓤) (mem : Memory → SProp 𝓤) (run : Routine → Fun 𝓤) (κs : Lfts 1) where
  pub new_stated : (t : Bor (List ℕ)) (r : View) (s : AtExit new.ended κs) → (new.clauses 𝓛 mem run κs (t, tt)).ensures tt r s ≡ fact 𝓤 (NewPost κs t r tt)
  new_stated t r s = refl

  pub show_stated : (v : View) (r : Shown) (s : AtExit show.ended κs) → (show.clauses 𝓛 mem run κs (v, tt)).ensures tt r s ≡ fact 𝓤 (ShowPost κs v r tt)
  show_stated v r s = refl

  pub step_stated : (v r : View) (s : AtExit step.ended κs) → (step.clauses 𝓛 mem run κs (v, tt)).ensures tt r s ≡ fact 𝓤 (StepPost κs v r tt)
  step_stated v r s = refl

-- the table that a view holds stays, its cursor and what it shows are those of the cursor beside the table
module _ (κs : Lfts 1) where
  pub new_as_first : (t : Bor (List ℕ)) (r : View) (c : Cursor) → NewPost κs t r tt → first.Post κs (t, tt) c (t, tt) → (r.table ≡ t) × (r.cursor ≡ c)
  new_as_first t r c p q = (ap (λ (v : View). v.table) p, ap (λ (v : View). v.cursor) p ∙ sym q)

  pub show_as_look : (v : View) (r s : Shown) → ShowPost κs v r tt → look.Post κs (v.table, (v.cursor, tt)) s (v.table, (v.cursor, tt)) → r ≡ s
  show_as_look v r s p q = p ∙ sym q

  pub step_as_next : (v r : View) (c : Cursor) → StepPost κs v r tt → next.Post κs (v.table, (v.cursor, tt)) c (v.table, (v.cursor, tt)) → (r.table ≡ v.table) × (r.cursor ≡ c)
  step_as_next v r c p q = (ap (λ (w : View). w.table) p, ap (λ (w : View). w.cursor) p ∙ sym q)
