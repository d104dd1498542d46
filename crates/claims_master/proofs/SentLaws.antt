-- The telegrams of a set-up that may be used. Assumes nothing.
use mathlib.Core.Path.{◌≡◌, sym, ap, subst, ◌∙◌}
use mathlib.Core.Bool.{false}
use Prim.Native.Nat.{ℕ, ◌+◌, ◌*◌, ◌≤◌}
use native.Mathlib.Omega.{arith}
use lib.ListN.{length}
use Rattle.std.specs.Prelude.{Result, Ok}
use Rattle.words.specs.declared.Words.{Words}
use Rattle.address.specs.Address.{decoded_of, addressed}
use Rattle.address.specs.declared.Address.{Address}
use Rattle.address.specs.declared.Fault.{Fault}
use Rattle.address.specs.declared.Telegram.TheVariants.{Normal}
use Rattle.address.proofs.AddressLaws.{to_one}
use Rattle.setup.specs.declared.Setup.{Setup}
use Rattle.setup.specs.SetupRules.{other_length}
use Rattle.setup.proofs.SetupLaws.{Configured, area_few, area_sized, area_some, Counted, words_own}
use Rattle.area.specs.declared.Area.{Area}
use Rattle.area.proofs.WordLaws.{Sized}
use Rattle.net.specs.Telegram.{telegram_of}
use Rattle.net.proofs.NormalLaws.{length_normal}
use Rattle.net.proofs.SealLaws.{length_telegram, telegram_decoded}
use Rattle.master.specs.Build.{net_for}
use Rattle.slave.specs.Slave.{net_in}

-- k is the number of words of the area
module _ (s : Setup) (k : ℕ) (c : Configured s) (counted : Counted s k) (a : Area) (w : Words) where
  -- the net bytes that the set-up counts in an area of k words
  abbrev n : ℕ
  n = (k + s.pzd) * 2

  sized : Sized k
  sized = subst Sized counted (area_sized s n c)

  net_long : length (net_for s k a w) ≡ n
  net_long = omega (arith, length_telegram 0 (net_for s k a w), length_normal a k w s.pzd c.process sized 0)

  pub net_some : 1 ≤ length (net_for s k a w)
  net_some = omega (arith, net_long, counted, area_some s n c)

  pub net_fits : length (net_for s k a w) ≤ 252
  net_fits = omega (arith, net_long, counted, area_few s n c, c.process)

  net_in_lem : (adr : ℕ) → net_in (telegram_of adr (net_for s k a w)) ≡ n
  net_in_lem adr = omega (arith, net_long, length_telegram adr (net_for s k a w))

  -- they have the set-up's length
  pub own_count : (adr : ℕ) → other_length s (net_in (telegram_of adr (net_for s k a w))) ≡ false
  own_count adr = subst (λ (m : ℕ). other_length s m ≡ false) (sym (net_in_lem adr)) (words_own s n (ap (λ (m : ℕ). (m + s.pzd) * 2) (sym counted)))

  -- to the set-up's node, a normal telegram
  pub normal_decoded : decoded_of (telegram_of s.node (net_for s k a w)) ≡ Ok (Normal s.node 3 (net_in (telegram_of s.node (net_for s k a w)) + 3))
  normal_decoded =
      let t = telegram_of s.node (net_for s k a w) in
      let last : length (net_for s k a w) + 3 ≡ net_in t + 3 = omega (arith, length_telegram s.node (net_for s k a w)) in
      telegram_decoded s.node (net_for s k a w) net_some net_fits ∙ ap (λ (x : Result Address Fault). addressed x (length (net_for s k a w) + 3)) (to_one s.node c.nodes)
      ∙ ap (λ (e : ℕ). Ok (Normal s.node 3 e)) last
