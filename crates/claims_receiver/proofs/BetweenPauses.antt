-- The bytes between two pauses (document 02, W-201): a host that takes a telegram only where a pause stands right behind it. It has the
-- byte count from both sides, from LGE and from the pauses, so that the exact line holds for flips on the wire too. Assumes nothing.
--     run_heard_alone     what is handed out of them is said by them alone, whatever came before and comes after
--     between_pauses      they are handed out, all of them, exactly where the tests 10 to 13 find nothing in them
--     line_on_the_wire    and flips of them on the wire, LGE among them, pass the receiver and the frame check exactly where they are unseen
use Prim.Native.Nat.{ℕ, suc, ◌+◌, ◌≤◌}
use mathlib.Core.Path.{◌≡◌, refl, sym, ap, ◌∙◌}
use mathlib.Core.Logic.{◌↔◌}
use mathlib.Core.Bool.{Bool, true, false, cond}
use mathlib.Core.List.{List, [], ◌∷◌, ◌++◌}
use native.Mathlib.Omega.{arith}
use lib.ListN.{length, take}
use borrow.Author.Tests.{lt-leb}
use lib.Seq.{take_all, length-take-le}
use Rattle.words.specs.Words.{byte_at, Bytes}
use Rattle.bcc.proofs.XorLaws.{length_zip}
use Rattle.frame.proofs.FrameLaws.{Counted, sound_framed}
use Rattle.claims_damage.specs.Damage.{Passes, damaged, Damage, Unseen}
use Rattle.claims_damage.proofs.Seen.{exact}
use Rattle.claims_receiver.specs.Telegrams.{bytes_in, is_front, telegram_in, telegrams_in}
use Rattle.step.specs.Step.{is_pause}
use Rattle.claims_receiver.specs.Heard.{heard_of}
use Rattle.claims_receiver.proofs.ItemLaws.{bytes_pause, bytes_byte, telegrams_pause, telegrams_byte}
use Rattle.claims_receiver.proofs.Exactly.{from_a_pause}
use Rattle.claims_receiver.proofs.Fronts.{is_front_lem, front_there}

-- the bytes of the first telegram, none where there is none
abbrev first_bytes : List (List ℕ) → ℕ
first_bytes [] = 0
first_bytes (t ∷ ts) = length t

module _ (room : ℕ) (b : List ℕ) where
  pub counted_handed : Counted b → length b ≤ room → telegram_in room b ≡ b ∷ []
  counted_handed c fits =
      let count = c.count in
      front_there room b (record { start = c.start; low = c.low; high = c.high; fits = omega arith; long = omega arith })
      ∙ ap (λ (t : List ℕ). t ∷ []) (take_all (byte_at b 1 + 2) b (omega arith))

  handed_counted : telegram_in room b ≡ b ∷ [] → Counted b × (length b ≤ room)
  handed_counted e = go (is_front room b) refl
    where
      go : (x : Bool) → is_front room b ≡ x → Counted b × (length b ≤ room)
      go true is =
          let f = is_front_lem room b is in
          let low = f.low in
          let fits = f.fits in
          let all : length (take (byte_at b 1 + 2) b) ≡ length b = sym (ap first_bytes (front_there room b f)) ∙ ap first_bytes e in
          let cut : length (take (byte_at b 1 + 2) b) ≡ byte_at b 1 + 2 = length-take-le (byte_at b 1 + 2) b f.long in
          (record { long = omega arith; start = f.start; low = low; high = f.high; count = omega arith }, omega arith)
      go false is =
          let none : ◌≡◌ {A = ℕ} 0 1 = sym (ap length (ap (λ (x : Bool). cond x (take (byte_at b 1 + 2) b ∷ []) []) is)) ∙ ap length e in
          absurd (omega arith)

  pub between_pauses : (telegram_in room b ≡ b ∷ []) ↔ (Counted b × (length b ≤ room))
  between_pauses = (handed_counted, λ c. counted_handed c.0 c.1)

pub line_on_the_wire : (room : ℕ) (t f : List ℕ) → Damage t f → length t ≤ room
    → ((telegram_in room (damaged t f) ≡ damaged t f ∷ []) × Passes (damaged t f)) ↔ Unseen f
line_on_the_wire room t f d fits = (λ h. (exact t f d).0 h.1, there)
  where
    there : Unseen f → (telegram_in room (damaged t f) ≡ damaged t f ∷ []) × Passes (damaged t f)
    there u =
        let passes = (exact t f d).1 u in
        let same : length (damaged t f) ≡ length t = length_zip t f d.same in
        (counted_handed room (damaged t f) (sound_framed (damaged t f) passes).counted (omega arith), passes)

-- ---- in the items

bytes_up_to : (b : List ℕ) (p : ℕ) (rest : List ℕ) → Bytes b → is_pause p ≡ true → bytes_in (b ++ p ∷ rest) ≡ b
bytes_up_to [] p rest h pause = bytes_pause p rest pause
bytes_up_to (x ∷ b) p rest h pause =
    bytes_byte x (b ++ p ∷ rest) (lt-leb 256 x (h 0)) ∙ ap (λ (l : List ℕ). x ∷ l) (bytes_up_to b p rest (λ i. h (suc i)) pause)

telegrams_up_to : (room : ℕ) (b : List ℕ) (p : ℕ) (rest : List ℕ) → Bytes b → telegrams_in room (b ++ p ∷ rest) ≡ telegrams_in room (p ∷ rest)
telegrams_up_to room [] p rest h = refl
telegrams_up_to room (x ∷ b) p rest h = telegrams_byte room x (b ++ p ∷ rest) (lt-leb 256 x (h 0)) ∙ telegrams_up_to room b p rest (λ i. h (suc i))

pub run_heard_alone : (s p p' : ℕ) (b rest page : List ℕ) → is_pause p ≡ true → is_pause p' ≡ true → Bytes b
    → (heard_of s (p ∷ (b ++ p' ∷ rest)) page).telegrams ≡ telegram_in (length page) b ++ telegrams_in (length page) (p' ∷ rest)
run_heard_alone s p p' b rest page e e' h =
    from_a_pause s p (b ++ p' ∷ rest) page e
    ∙ telegrams_pause (length page) p (b ++ p' ∷ rest) e
    ∙ rw (bytes_up_to b p' rest h e', telegrams_up_to (length page) b p' rest h)
