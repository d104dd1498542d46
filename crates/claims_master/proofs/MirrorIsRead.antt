-- A slave of the same set-up answers a mirror with the telegram. Assumes nothing.
use mathlib.Core.Path.{◌≡◌, refl, sym, ap, subst, ◌∙◌}
use mathlib.Core.Bool.{true}
use mathlib.Core.List.{List}
use Prim.Native.Nat.{ℕ, ◌+◌}
use lib.ListN.{length}
use Rattle.std.specs.Prelude.{Result, Ok}
use Rattle.address.specs.Address.{decoded_of, addressed}
use Rattle.address.specs.declared.Address.{Address}
use Rattle.address.specs.declared.Fault.{Fault}
use Rattle.address.specs.declared.Telegram.TheVariants.{Mirror as MirrorTelegram}
use Rattle.address.proofs.AddressLaws.{to_mirror}
use Rattle.setup.specs.SetupRules.{setup_ok}
use Rattle.setup.proofs.SetupLaws.{ok_configured, node_own}
use Rattle.net.specs.Telegram.{telegram_of}
use Rattle.net.proofs.SealLaws.{net_back, telegram_decoded}
use Rattle.request.specs.declared.Request.TheVariants.{Mirror}
use Rattle.request.specs.Request.{expressible}
use Rattle.request.proofs.RequestLaws.{mirror_asked}
use Rattle.slave.specs.Slave.{Call, receiving}
use Rattle.slave.proofs.CaseLaws.{executed, mirror_sent}
use Rattle.master.specs.Build.{telegram_for}
use Rattle.claims_master.specs.Claims.{MirrorRead}

module _ (k : Call) (net : List ℕ) where
  pub mirror_is_read : setup_ok k.setup ≡ true → expressible k.setup Mirror net ≡ true → k.received ≡ telegram_for k.setup Mirror net → MirrorRead k net
  unfolding telegram_for
  mirror_is_read ok asked e =
      let node = k.setup.node in
      let m = mirror_asked k.setup net asked in
      let rx = telegram_of (node + 64) net in
      let d : decoded_of rx ≡ Ok (MirrorTelegram node) =
      telegram_decoded (node + 64) net m.0 m.1 ∙ ap (λ (a : Result Address Fault). addressed a (length net + 3)) (to_mirror node (ok_configured k.setup ok).nodes) in
      subst (λ (t : List ℕ). MirrorRead (receiving k t) net) (sym e)
      (record {
        decoded = d;
        net_is = net_back (node + 64) net m.0 m.1;
        served = executed (receiving k rx) (Ok (MirrorTelegram node)) d ∙ mirror_sent node (receiving k rx) (node_own k.setup node refl);
      })
