-- What a decoded telegram tells of its bytes. Assumes nothing.
use mathlib.Core.Path.{◌≡◌, refl, sym, ap, ◌∙◌}
use mathlib.Core.Bool.{Bool, true, false, false≢true}
use mathlib.Core.List.{List}
use Prim.Native.Nat.{ℕ}
use Rattle.std.specs.Prelude.{Result, Ok, Err}
use Rattle.words.specs.Words.{byte_at}
use Rattle.frame.specs.Frame.{frame_of, last_of, is_sound}
use Rattle.address.specs.Address.{address_of, addressed, decoded_from, decoded_of}
use Rattle.frame.specs.declared.FrameFault.{FrameFault}
use Rattle.address.specs.declared.Address.{Address}
use Rattle.address.specs.declared.Address.TheVariants.{ToOne, ToMirror, ToAll}
use Rattle.address.specs.declared.Fault.{Fault}
use Rattle.address.specs.declared.Telegram.{Telegram}
use Rattle.address.specs.declared.Telegram.TheVariants.{Normal}
use Rattle.frame.proofs.FrameLaws.{Framed, sound_framed, framed_sound}

-- one of the three kinds
abbrev pub is_telegram : Result Telegram Fault → Bool
is_telegram (Ok telegram) = true
is_telegram (Err fault) = false

-- a telegram has a sound frame
pub telegram_framed : (t : List ℕ) (d : Result Telegram Fault) → decoded_of t ≡ d → is_telegram d ≡ true → Framed t
telegram_framed t d e h = go (frame_of t) refl
  where
    go : (r : Result ℕ FrameFault) → frame_of t ≡ r → Framed t
    go (Ok end) f = sound_framed t (ap is_sound f)
    go (Err fault) f =
        absurd (false≢true (ap (λ (r : Result ℕ FrameFault). is_telegram (decoded_from r (byte_at t 2))) (sym f) ∙ ap is_telegram e ∙ h))

-- what the address makes of a sound frame
pub framed_decoded : (t : List ℕ) → Framed t → decoded_of t ≡ addressed (address_of (byte_at t 2)) (last_of t)
framed_decoded t f = ap (λ (r : Result ℕ FrameFault). decoded_from r (byte_at t 2)) (framed_sound t f)

-- the net bytes of a normal telegram start at place 3 and end before BCC
pub normal_bounds : (t : List ℕ) (node start end : ℕ) → decoded_of t ≡ Ok (Normal node start end) → (start ≡ 3) × (end ≡ last_of t)
normal_bounds t node start end e =
    go (address_of (byte_at t 2)) (sym (framed_decoded t (telegram_framed t (Ok (Normal node start end)) e refl)) ∙ e)
  where
    go : (a : Result Address Fault) → addressed a (last_of t) ≡ Ok (Normal node start end) → (start ≡ 3) × (end ≡ last_of t)
    go (Ok (ToOne n)) h = (cc, cc)
    go (Ok (ToMirror n)) h = absurd (false≢true (let z : false ≡ true = cc in z))
    go (Ok ToAll) h = absurd (false≢true (let z : false ≡ true = cc in z))
    go (Err fault) h = absurd (false≢true (let z : false ≡ true = cc in z))
