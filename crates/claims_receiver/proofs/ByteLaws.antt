-- A byte, in each state: what is heard of it and of the items behind it is what stands in them, given that of the items behind it.
-- Assumes nothing.
use Prim.Native.Nat.{ℕ, zero, suc, ◌+◌, ◌<◌, ◌≤◌}
use mathlib.Core.Path.{◌≡◌, refl, sym, ap, ◌∙◌}
use mathlib.Core.Bool.{Bool, true, false}
use mathlib.Core.List.{List, [], ◌∷◌, ◌++◌}
use native.Mathlib.Omega.{arith}
use lib.Dec.{leb, eqb}
use lib.ListN.{length, take, set, length-set, length-append}
use lib.Seq.{length-take-le, take-suc-set, take_at, append_snoc, get_or_at, get_or-set_same, get_or-set_other}
use borrow.Author.Tests.{ne_eqb, leb-true, leb-false, eqb-true, eqb-false}
use Rattle.words.specs.Words.{byte_at}
use Rattle.step.specs.Step.{held_in, onward, step_of}
use Rattle.step.proofs.StepLaws.{step_ignored, step_open, step_lge, step_last, step_next, step_not_open, step_not_lge}
use Rattle.claims_receiver.specs.Telegrams.{bytes_in, telegrams_in}
use Rattle.claims_receiver.specs.Heard.{heard_of, telegram_of}
use Rattle.claims_receiver.proofs.ItemLaws.{heard_by}
use Rattle.claims_receiver.proofs.Fronts.{front_there, front_none}
use Rattle.claims_receiver.proofs.Pending.{Kept, pending, front_byte, pending_more, kept_outside}

-- what is still to be handed out of the telegram that is begun, and then what stands in the items
abbrev pub Exact : List ℕ → Type 0
Exact xs = (s : ℕ) (page : List ℕ) → Kept s page → (heard_of s xs page).telegrams ≡ pending s page (bytes_in xs) ++ telegrams_in (length page) xs

-- a byte, in each state
module _ (x : ℕ) (xs : List ℕ) (byte : x < 256) (rest : Exact xs) where
  abbrev After : ℕ → List ℕ → Type 0
  After s page = (heard_of s (x ∷ xs) page).telegrams ≡ pending s page (x ∷ bytes_in xs) ++ telegrams_in (length page) xs

  -- it is put behind the others
  stored : (s : ℕ) (page : List ℕ) → 0 < s → held_in s < length page → step_of s x page ≡ onward (s + 1) (set page (held_in s) x)
      → Kept (s + 1) (set page (held_in s) x) → After s page
  stored s page h r e kept =
      heard_by s x xs page _ e ∙ rest (s + 1) (set page (held_in s) x) kept ∙ rw (pending_more s x (bytes_in xs) page h r, length-set page (held_in s) x)

  -- it disarms, or is ignored
  dropped : (s : ℕ) (page : List ℕ) → step_of s x page ≡ onward 0 page → pending s page (x ∷ bytes_in xs) ≡ [] → After s page
  dropped s page e none = heard_by s x xs page _ e ∙ rest 0 page (kept_outside 0 page (omega arith)) ∙ rw none

  after_disarmed : (page : List ℕ) → After 0 page
  after_disarmed page = dropped 0 page (step_ignored x page byte) refl

  after_armed : (page : List ℕ) → After 1 page
  after_armed page = go (eqb x 2) refl (leb (length page) 0) refl
    where
      closed : (x ≡ 2 → 0 < length page → ⊥) → After 1 page
      closed never =
          dropped 1 page (step_not_open x page byte never)
          (front_none (length page) (x ∷ bytes_in xs) (λ f. let fits = f.fits in never f.start (omega arith)))

      go : (b : Bool) → eqb x 2 ≡ b → (a : Bool) → leb (length page) 0 ≡ a → After 1 page
      go false d a e = closed (λ q r. eqb-false x 2 d q)
      go true d true e = closed (λ q r. let none = leb-true (length page) 0 e in omega arith)
      go true d false e =
          let two = eqb-true x 2 d in
          let room : 0 < length page = leb-false (length page) 0 e in
          stored 1 page (omega arith) room (rw two (step_open page room))
          (record {
            first = λ q. get_or-set_same page 0 x 0 room ∙ two;
            room = simp length-set room;
            low = λ q. absurd (omega arith);
            high = λ q. absurd (omega arith);
            fits = λ q. absurd (omega arith);
            short = λ q. absurd (omega arith);
          })

  after_first : (page : List ℕ) → Kept 2 page → After 2 page
  after_first page kept = go (leb 3 x) (leb x 254) (leb (x + 2) (length page)) refl refl refl
    where
      lge : byte_at (take 1 page ++ x ∷ bytes_in xs) 1 ≡ x
      lge = get_or_at (take 1 page) x (bytes_in xs) 0 1 (length-take-le 1 page kept.room)

      closed : (3 ≤ x → x ≤ 254 → x + 2 ≤ length page → ⊥) → After 2 page
      closed never =
          dropped 2 page (step_not_lge x page byte never)
          (front_none (length page) (take 1 page ++ x ∷ bytes_in xs)
          (λ f. let e = lge in let a = f.low in let b = f.high in let c = f.fits in never (omega arith) (omega arith) (omega arith)))

      go : (a b c : Bool) → leb 3 x ≡ a → leb x 254 ≡ b → leb (x + 2) (length page) ≡ c → After 2 page
      go false b c e f g = closed (λ p q r. let w = leb-false 3 x e in omega arith)
      go true false c e f g = closed (λ p q r. let w = leb-false x 254 f in omega arith)
      go true true false e f g = closed (λ p q r. let w = leb-false (x + 2) (length page) g in omega arith)
      go true true true e f g =
          let low = leb-true 3 x e in
          let high = leb-true x 254 f in
          let fits = leb-true (x + 2) (length page) g in
          let there : byte_at (set page 1 x) 1 ≡ x = get_or-set_same page 1 x 0 (omega arith) in
          let same : length (set page 1 x) ≡ length page = length-set page 1 x in
          stored 2 page (omega arith) (omega arith) (step_lge x page low high fits)
          (record {
            first = λ q. get_or-set_other page 1 0 x 0 (λ z. omega arith) ∙ kept.first (omega arith);
            room = omega arith;
            low = λ q. omega arith;
            high = λ q. omega arith;
            fits = λ q. omega arith;
            short = λ q. omega arith;
          })

  after_inside : (s : ℕ) (page : List ℕ) → 3 ≤ s → Kept s page → After s page
  after_inside s page front kept = go (eqb s (byte_at page 1 + 2)) refl
    where
      k : ℕ
      k = held_in s

      low : 3 ≤ byte_at page 1
      low = kept.low front

      fits : byte_at page 1 + 2 ≤ length page
      fits = kept.fits front

      here : k < length page
      here = let a = kept.short front in let b = fits in omega arith

      all : List ℕ
      all = take k page ++ x ∷ bytes_in xs

      -- the telegram at the start of the page, and what comes behind it
      seam : all ≡ take s (set page k x) ++ bytes_in xs
      seam =
          let next : suc k ≡ s = omega arith in
          sym (append_snoc (take k page) x (bytes_in xs))
          ∙ ap (λ (l : List ℕ). l ++ bytes_in xs) (sym (take-suc-set page k x here) ∙ ap (λ (n : ℕ). take n (set page k x)) next)

      count : length (take s (set page k x)) ≡ s
      count = let h = here in length-take-le s (set page k x) (simp length-set (omega arith))

      whole : s ≡ byte_at page 1 + 2 → telegram_of s (set page k x) ≡ pending s page (x ∷ bytes_in xs)
      whole last =
          let h = here in
          let lge : byte_at all 1 ≡ byte_at page 1 = front_byte k 1 page (x ∷ bytes_in xs) (omega arith) (omega arith) in
          let long : length all ≡ s + length (bytes_in xs) = ap length seam ∙ length-append (take s (set page k x)) (bytes_in xs) ∙ ap (λ (n : ℕ). n + length (bytes_in xs)) count in
          let l = low in
          let f = fits in
          let high = kept.high front in
          let end : byte_at all 1 + 2 ≡ s = omega arith in
          let there : take (byte_at all 1 + 2) all ≡ take s (set page k x) = ap (λ (n : ℕ). take n all) end ∙ ap (take s) seam ∙ take_at (take s (set page k x)) (bytes_in xs) s count in
          rw (ne_eqb s 0 (λ e. omega arith))
          (sym (front_there (length page) all
          (record { start = front_byte k 0 page (x ∷ bytes_in xs) (omega arith) (omega arith) ∙ kept.first (omega arith); low = omega arith; high = omega arith; fits = omega arith; long = omega arith })
          ∙ ap (λ (t : List ℕ). t ∷ []) there))

      go : (a : Bool) → eqb s (byte_at page 1 + 2) ≡ a → After s page
      go false e =
          let never = eqb-false s (byte_at page 1 + 2) e in
          let short = kept.short front in
          let high = kept.high front in
          let there : byte_at (set page k x) 1 ≡ byte_at page 1 = get_or-set_other page k 1 x 0 (λ z. omega arith) in
          let same : length (set page k x) ≡ length page = length-set page k x in
          let f = fits in
          let l = low in
          let later : s < byte_at page 1 + 2 = omega arith in
          stored s page (omega arith) here (step_next s x page front byte here never (omega arith))
          (record {
            first = λ q. get_or-set_other page k 0 x 0 (λ z. omega arith) ∙ kept.first (omega arith);
            room = omega arith;
            low = λ q. omega arith;
            high = λ q. omega arith;
            fits = λ q. omega arith;
            short = λ q. omega arith;
          })
      go true e =
          let last = eqb-true s (byte_at page 1 + 2) e in
          heard_by s x xs page _ (step_last s x page front byte here last)
          ∙ ap (λ (l : List (List ℕ)). telegram_of s (set page k x) ++ l) (rest 0 (set page k x) (kept_outside 0 _ (omega arith)))
          ∙ rw (length-set page k x) (ap (λ (l : List (List ℕ)). l ++ telegrams_in (length page) xs) (whole last))

  pub after_byte : (s : ℕ) (page : List ℕ) → Kept s page → After s page
  after_byte zero page kept = after_disarmed page
  after_byte (suc zero) page kept = after_armed page
  after_byte (suc (suc zero)) page kept = after_first page kept
  after_byte (suc (suc (suc n))) page kept = after_inside (suc (suc (suc n))) page (omega arith) kept
