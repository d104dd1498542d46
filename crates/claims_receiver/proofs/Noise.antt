-- After any noise, a pause followed by a whole telegram hands out that telegram by its last byte, and not before (document 02, W-201).
-- Assumes nothing.
--     after_any_noise    the telegram is handed out, the receiver is disarmed, and the page starts with it
--     not_before         as long as its last byte is not there, nothing is
use Prim.Native.Nat.{ℕ, zero, suc, ◌+◌, ◌<◌, ◌≤◌}
use mathlib.Core.Path.{◌≡◌, refl, sym, ap, ◌∙◌}
use mathlib.Core.Bool.{true}
use mathlib.Core.List.{List, [], ◌∷◌, ◌++◌, append_assoc, append-nil}
use native.Mathlib.Numerals.{one-add}
use native.Mathlib.Omega.{arith}
use lib.Dec.{lit<}
use lib.ListN.{length, take, drop, length-set}
use lib.Seq.{take_at, drop-length, length-take-le, get_or-take}
use borrow.Author.Tests.{ne_eqb, lt-leb}
use Rattle.rows.proofs.RowsLaws.{first_all}
use Rattle.words.specs.Words.{byte_at, Bytes}
use Rattle.step.specs.Step.{Stepped, is_pause, first_rows, lge_rows, step_rows, step_of}
use Rattle.receiver.specs.Receive.{Reception, run_from}
use Rattle.claims_receiver.specs.Telegrams.{bytes_in, telegrams_in, Whole}
use Rattle.claims_receiver.specs.Heard.{Heard, heard_of, first}
use Rattle.claims_receiver.proofs.Cuts.{run_heard, resumed}
use Rattle.claims_receiver.proofs.Fronts.{front_none}
use Rattle.claims_receiver.proofs.ItemLaws.{bytes_byte, telegrams_pause, telegrams_byte}
use Rattle.claims_receiver.proofs.Exactly.{from_a_pause}
use Rattle.claims_receiver.proofs.OneCall.{done, telegram_handed_out}

-- a page keeps its length
pub step_length : (s x : ℕ) (page : List ℕ) → length (step_of s x page).page ≡ length page
unfolding step_of
step_length s x page =
    let same : Stepped → Type 0 = λ (t : Stepped). length t.page ≡ length page in
    first_all same (step_rows s x page) _
    (refl, (refl, (refl, (first_all same (first_rows x page) _ (refl, tt) (simp length-set), (first_all same (lge_rows x page) _ (refl, (refl, (refl, tt))) (simp length-set), (simp length-set, (simp length-set, tt)))))))
    (simp length-set)

pub heard_length : (s : ℕ) (xs page : List ℕ) → length (heard_of s xs page).page ≡ length page
unfolding heard_of
heard_length s [] page = refl
heard_length s (x ∷ xs) page = heard_length (step_of s x page).move.state xs (step_of s x page).page ∙ step_length s x page

-- what is heard of two runs of items, one after the other
pub heard_append : (s : ℕ) (xs ys page : List ℕ)
    → heard_of s (xs ++ ys) page ≡ first (heard_of s xs page).telegrams (heard_of (heard_of s xs page).state ys (heard_of s xs page).page)
unfolding heard_of
heard_append s [] ys page = refl
heard_append s (x ∷ xs) ys page = rw (heard_append (step_of s x page).move.state xs ys (step_of s x page).page, append_assoc)

module _ (s p : ℕ) (t page : List ℕ) (pause : is_pause p ≡ true) (w : Whole t) (fits : length t ≤ length page) where
  pub telegram_heard : heard_of s (p ∷ t) page ≡ record { telegrams = t ∷ []; state = 0; page = t ++ drop (length t) page }
  unfolding heard_of
  telegram_heard =
      sym (ap (λ (l : List ℕ). heard_of s l page) (append-nil (p ∷ t)))
      ∙ run_heard s (p ∷ t) [] page
      ∙ ap (λ (r : Reception). resumed r (p ∷ t) [])
      (sym (ap (λ (l : List ℕ). run_from 0 s (p ∷ l) page) (append-nil t)) ∙ telegram_handed_out 0 s p t [] page pause w fits)
      ∙ nothing_left
    where
      nothing_left : resumed (done (1 + length t) (length t) (t ++ drop (length t) page)) (p ∷ t) [] ≡ record { telegrams = t ∷ []; state = 0; page = t ++ drop (length t) page }
      nothing_left = rw (one-add, drop-length t, ne_eqb (length t) 0 (λ q. let c = w.count in omega arith), take_at t (drop (length t) page) (length t) refl)

pub after_any_noise : (s p : ℕ) (noise t page : List ℕ) → is_pause p ≡ true → Whole t → length t ≤ length page
    → heard_of s (noise ++ p ∷ t) page
    ≡ record { telegrams = (heard_of s noise page).telegrams ++ t ∷ []; state = 0; page = t ++ drop (length t) (heard_of s noise page).page }
after_any_noise s p noise t page pause w fits =
    heard_append s noise (p ∷ t) page
    ∙ ap (first (heard_of s noise page).telegrams) (telegram_heard _ p t _ pause w (rw (heard_length s noise page) fits))

-- ---- not before

pub bytes_take : (j : ℕ) (t : List ℕ) → Bytes t → Bytes (take j t)
bytes_take zero t b i = lit< tt
bytes_take (suc j) [] b i = b i
bytes_take (suc j) (x ∷ t) b zero = b 0
bytes_take (suc j) (x ∷ t) b (suc i) = bytes_take j t (λ k. b (suc k)) i

-- where all items are bytes
bytes_all : (b : List ℕ) → Bytes b → bytes_in b ≡ b
unfolding bytes_in
bytes_all [] h = refl
bytes_all (x ∷ b) h = bytes_byte x b (lt-leb 256 x (h 0)) ∙ ap (λ (l : List ℕ). x ∷ l) (bytes_all b (λ i. h (suc i)))

none_in_bytes : (room : ℕ) (b : List ℕ) → Bytes b → telegrams_in room b ≡ []
unfolding telegrams_in
none_in_bytes room [] h = refl
none_in_bytes room (x ∷ b) h = telegrams_byte room x b (lt-leb 256 x (h 0)) ∙ none_in_bytes room b (λ i. h (suc i))

none_yet : (room p j : ℕ) (t : List ℕ) → is_pause p ≡ true → Whole t → j < length t → telegrams_in room (p ∷ take j t) ≡ []
none_yet room p j t pause w h =
    let b = bytes_take j t w.bytes in
    telegrams_pause room p (take j t) pause
    ∙ rw (bytes_all (take j t) b, none_in_bytes room (take j t) b)
    (ap (λ (l : List (List ℕ)). l ++ [])
    (front_none room (take j t)
    (λ f.
    let low = f.low in
    let long = f.long in
    let n : length (take j t) ≡ j = length-take-le j t (omega arith) in
    let lge : byte_at (take j t) 1 ≡ byte_at t 1 = get_or-take j t 1 0 (omega arith) in
    let count = w.count in
    omega arith)))

pub not_before : (s p j : ℕ) (noise t page : List ℕ) → is_pause p ≡ true → Whole t → j < length t
    → (heard_of s (noise ++ p ∷ take j t) page).telegrams ≡ (heard_of s noise page).telegrams
not_before s p j noise t page pause w h =
    let h' = heard_of s noise page in
    ap (λ (o : Heard). o.telegrams) (heard_append s noise (p ∷ take j t) page)
    ∙ ap (λ (l : List (List ℕ)). h'.telegrams ++ l) (from_a_pause h'.state p (take j t) h'.page pause ∙ none_yet (length h'.page) p j t pause w h)
    ∙ append-nil h'.telegrams
