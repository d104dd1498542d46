-- The known items, computed. Assumes nothing.
--     known             what the receiver hands out of them, step by step, and its state at the end
--     known_in_items    what stands in them
--     lge_hit_lem       a flip of LGE on the wire: what is handed out, and what the frame check finds in it
use mathlib.Core.Path.{◌≡◌, refl}
use Prim.Native.Nat.{ℕ}
use mathlib.Core.List.{List, [], ◌∷◌, map}
use lib.ListN.{replicate}
use Rattle.std.specs.Prelude.{Ok}
use Rattle.bcc.specs.Bcc.{xor_all}
use Rattle.frame.specs.Frame.{frame_of}
use Rattle.step.specs.Step.{step_of}
use Rattle.claims_receiver.specs.Telegrams.{bytes_in, telegrams_in}
use Rattle.claims_receiver.specs.Heard.{heard_of}
use Rattle.claims_receiver.specs.Examples.{Example, examples, lge_hit, lge_hit_out}

abbrev heard : Example → List (List ℕ) × ℕ
heard e = ((heard_of 0 e.items (replicate 256 0)).telegrams, (heard_of 0 e.items (replicate 256 0)).state)

pub known : map heard examples ≡ map (λ (e : Example). (e.telegrams, e.state)) examples
unfolding heard_of step_of
known = refl

pub known_in_items : map (λ (e : Example). telegrams_in 256 e.items) examples ≡ map (λ (e : Example). e.telegrams) examples
unfolding bytes_in telegrams_in
known_in_items = refl

pub lge_hit_lem : (telegrams_in 256 lge_hit ≡ lge_hit_out ∷ []) × (frame_of lge_hit_out ≡ Ok 5)
unfolding bytes_in telegrams_in frame_of xor_all
lge_hit_lem = (refl, refl)
