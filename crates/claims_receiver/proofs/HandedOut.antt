-- What is handed out (document 02, W-201). Assumes nothing.
--     items_whole, handed_whole                it is 02, an LGE of 3 to 254, and LGE + 2 bytes in all
--     items_after_pause, handed_after_pause    these bytes came directly after a pause
--     handed_never_cut                         the frame check refuses it with 14, or not at all; so never with 10, 11, 12 or 13
-- The first of each pair is of the telegrams that stand in the items, so of all that come behind a pause, from any state (`from_a_pause`;
-- Exactly); the second of those that a receiver hands out from the start on. Each of them once and in order: that is the equation of
-- lists in `handed_out_exactly` (Exactly).
use Prim.Native.Nat.{ℕ, zero, suc, ◌+◌, ◌<◌}
use mathlib.Core.Path.{◌≡◌, refl, sym, ap, ◌∙◌}
use mathlib.Core.Logic.{◌⊎◌, inl, inr}
use mathlib.Core.Bool.{Bool, true, false, cond}
use mathlib.Core.List.{List, [], ◌∷◌, ◌++◌, append_assoc}
use native.Mathlib.Omega.{arith}
use lib.Dec.{eqb, lit<}
use lib.ListN.{length, take, drop, take-append-drop}
use lib.Seq.{length-take-le, get_or-take}
use borrow.Author.Tests.{leb-false, eqb-true, eqb-false}
use Rattle.rows.specs.Rows.{Each}
use Rattle.words.specs.Words.{byte_at, Bytes}
use Rattle.bcc.specs.Bcc.{xor_all}
use Rattle.frame.specs.Frame.{last_of, frame_of, check_number}
use Rattle.frame.proofs.FrameLaws.{Counted, check_right, check_wrong}
use Rattle.step.specs.Step.{is_pause}
use Rattle.claims_receiver.specs.Telegrams.{bytes_in, is_front, telegram_in, telegrams_in, Whole, AfterPause}
use Rattle.claims_receiver.specs.Heard.{heard_of}
use Rattle.claims_receiver.proofs.Fronts.{is_front_lem}
use Rattle.claims_receiver.proofs.ItemLaws.{telegrams_pause, telegrams_byte}
use Rattle.claims_receiver.proofs.Exactly.{handed_out_exactly}
use Rattle.claims_receiver.proofs.Noise.{bytes_take}

each_append : {A : Type 0} (P : A → Type 0) (xs ys : List A) → Each P xs → Each P ys → Each P (xs ++ ys)
each_append P [] ys p q = q
each_append P (x ∷ xs) ys p q = (p.0, each_append P xs ys p.1 q)

pub each_map : {A : Type 0} (P Q : A → Type 0) → ((x : A) → P x → Q x) → (xs : List A) → Each P xs → Each Q xs
each_map P Q f [] p = tt
each_map P Q f (x ∷ xs) p = (f x p.0, each_map P Q f xs p.1)

-- what holds of each telegram that stands directly after a pause holds of each that is handed out
in_items : (P : List ℕ → List ℕ → Type 0) → ((room x : ℕ) (xs : List ℕ) → is_pause x ≡ true → Each (P (x ∷ xs)) (telegram_in room (bytes_in xs)))
    → ((x : ℕ) (xs t : List ℕ) → P xs t → P (x ∷ xs) t) → (room : ℕ) (xs : List ℕ) → Each (P xs) (telegrams_in room xs)
unfolding telegrams_in
in_items P there later room [] = tt
in_items P there later room (x ∷ xs) = go (is_pause x) refl (each_map (P xs) (P (x ∷ xs)) (later x xs) (telegrams_in room xs) (in_items P there later room xs))
  where
    go : (b : Bool) → is_pause x ≡ b → Each (P (x ∷ xs)) (telegrams_in room xs) → Each (P (x ∷ xs)) (telegrams_in room (x ∷ xs))
    go true e rest = rw (telegrams_pause room x xs e) (each_append (P (x ∷ xs)) (telegram_in room (bytes_in xs)) (telegrams_in room xs) (there room x xs e) rest)
    go false e rest = rw (telegrams_byte room x xs e) rest

-- ---- whole

bytes_are : (xs : List ℕ) → Bytes (bytes_in xs)
unfolding bytes_in
bytes_are [] i = lit< tt
bytes_are (x ∷ xs) i = go (is_pause x) refl (bytes_are xs) i
  where
    go : (b : Bool) → is_pause x ≡ b → Bytes (bytes_in xs) → (j : ℕ) → byte_at (cond b [] (x ∷ bytes_in xs)) j < 256
    go true e rest j = lit< tt
    go false e rest zero = leb-false 256 x e
    go false e rest (suc j) = rest j

-- of the telegram that bytes start with
telegram_whole : (room : ℕ) (b : List ℕ) → Bytes b → Each Whole (telegram_in room b)
telegram_whole room b bytes = go (is_front room b) refl
  where
    go : (x : Bool) → is_front room b ≡ x → Each Whole (cond x (take (byte_at b 1 + 2) b ∷ []) [])
    go false e = tt
    go true e =
        let f = is_front_lem room b e in
        let n = byte_at b 1 + 2 in
        let lge : byte_at (take n b) 1 ≡ byte_at b 1 = get_or-take n b 1 0 (omega arith) in
        let low = f.low in
        let high = f.high in
        let count : length (take n b) ≡ n = length-take-le n b f.long in (
          record { start = get_or-take n b 0 0 (omega arith) ∙ f.start; low = omega arith; high = omega arith; count = omega arith; bytes = bytes_take n b bytes },
          tt,
        )

pub items_whole : (room : ℕ) (xs : List ℕ) → Each Whole (telegrams_in room xs)
items_whole = in_items (λ ys t. Whole t) (λ room x ys e. telegram_whole room (bytes_in ys) (bytes_are ys)) (λ x ys t w. w)

pub handed_whole : (xs page : List ℕ) → Each Whole (heard_of 0 xs page).telegrams
handed_whole xs page = rw (handed_out_exactly xs page) (items_whole (length page) xs)

-- ---- directly after a pause

-- what stands behind the bytes
rest_in : List ℕ → List ℕ
rest_in [] = []
rest_in (x ∷ xs) = cond (is_pause x) (x ∷ xs) (rest_in xs)

bytes_rest : (xs : List ℕ) → bytes_in xs ++ rest_in xs ≡ xs
unfolding bytes_in rest_in
bytes_rest [] = refl
bytes_rest (x ∷ xs) = go (is_pause x) (bytes_rest xs)
  where
    go : (b : Bool) → bytes_in xs ++ rest_in xs ≡ xs → cond b [] (x ∷ bytes_in xs) ++ cond b (x ∷ xs) (rest_in xs) ≡ x ∷ xs
    go true e = refl
    go false e = ap (λ (l : List ℕ). x ∷ l) e

telegram_after : (room x : ℕ) (xs : List ℕ) → is_pause x ≡ true → Each (AfterPause (x ∷ xs)) (telegram_in room (bytes_in xs))
telegram_after room x xs e = go (is_front room (bytes_in xs))
  where
    b : List ℕ
    b = bytes_in xs

    n : ℕ
    n = byte_at b 1 + 2

    there : take n b ++ (drop n b ++ rest_in xs) ≡ xs
    there = sym (append_assoc (take n b) (drop n b) (rest_in xs)) ∙ ap (λ (l : List ℕ). l ++ rest_in xs) (take-append-drop n b) ∙ bytes_rest xs

    go : (y : Bool) → Each (AfterPause (x ∷ xs)) (cond y (take n b ∷ []) [])
    go false = tt
    go true = (record { before = []; pause = x; after = drop n b ++ rest_in xs; is_pause_lem = e; there = ap (λ (l : List ℕ). x ∷ l) (sym there) }, tt)

pub items_after_pause : (room : ℕ) (xs : List ℕ) → Each (AfterPause xs) (telegrams_in room xs)
items_after_pause =
    in_items AfterPause telegram_after
    (λ x ys t a. record { before = x ∷ a.before; pause = a.pause; after = a.after; is_pause_lem = a.is_pause_lem; there = ap (λ (l : List ℕ). x ∷ l) a.there })

pub handed_after_pause : (xs page : List ℕ) → Each (AfterPause xs) (heard_of 0 xs page).telegrams
handed_after_pause xs page = rw (handed_out_exactly xs page) (items_after_pause (length page) xs)

-- ---- never cut

pub whole_counted : (t : List ℕ) → Whole t → Counted t
whole_counted t w =
    let low = w.low in
    let count = w.count in
    record { long = omega arith; start = w.start; low = low; high = w.high; count = count }

pub whole_never_cut : (t : List ℕ) → Whole t → (check_number (frame_of t) ≡ 0) ⊎ (check_number (frame_of t) ≡ 14)
whole_never_cut t w = go (eqb (byte_at t (last_of t)) (xor_all (take (last_of t) t))) refl
  where
    go : (b : Bool) → eqb (byte_at t (last_of t)) (xor_all (take (last_of t) t)) ≡ b → (check_number (frame_of t) ≡ 0) ⊎ (check_number (frame_of t) ≡ 14)
    go true e = inl (ap check_number (check_right t (whole_counted t w) (eqb-true _ _ e)))
    go false e = inr (ap check_number (check_wrong t (whole_counted t w) (eqb-false _ _ e)))

pub handed_never_cut : (xs page : List ℕ) → Each (λ t. (check_number (frame_of t) ≡ 0) ⊎ (check_number (frame_of t) ≡ 14)) (heard_of 0 xs page).telegrams
handed_never_cut xs page = each_map Whole (λ t. (check_number (frame_of t) ≡ 0) ⊎ (check_number (frame_of t) ≡ 14)) whole_never_cut (heard_of 0 xs page).telegrams (handed_whole xs page)
