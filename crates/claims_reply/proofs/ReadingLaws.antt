-- The reading of a telegram of the set-up, without an area and with one that is a reply. Assumes nothing.
use mathlib.Core.Path.{◌≡◌, refl, ap, ◌∙◌}
use mathlib.Core.List.{List}
use Prim.Native.Nat.{ℕ, ◌+◌, ◌-◌}
use native.Mathlib.Omega.{arith}
use borrow.Author.Tests.{eq-eqb, ne_eqb}
use Rattle.std.specs.Prelude.{Result, Ok}
use Rattle.words.specs.declared.Words.{Words}
use Rattle.setup.specs.declared.Setup.{Setup}
use Rattle.setup.specs.SetupRules.{area_count}
use Rattle.setup.proofs.SetupLaws.{Configured, area_sized, Counted, node_own}
use Rattle.address.specs.declared.Telegram.{Telegram}
use Rattle.address.specs.declared.Fault.{Fault}
use Rattle.area.specs.declared.Area.{Area}
use Rattle.area.specs.Read.{Worded, first_words}
use Rattle.area.proofs.WordLaws.{Headed}
use Rattle.net.specs.Telegram.{telegram_of}
use Rattle.net.proofs.ReadLaws.{process_back}
use Rattle.slave.specs.Slave.{net_in}
use Rattle.master.specs.Build.{net_for}
use Rattle.read_answers.specs.declared.Content.TheVariants.{Empty}
use Rattle.content.specs.declared.Question.{Question}
use Rattle.content.specs.Content.{reply_content}
use Rattle.reply.specs.Reply.{zero_words, read_normal, read_decoded, read_task}
use Rattle.claims_master.proofs.SentLaws.{own_count, normal_decoded}
use Rattle.claims_master.proofs.TaskIsRead.{normal_area}
use Rattle.claims_reply.proofs.ReplyLaws.{Replies}

-- m are the net bytes of the telegram that is answered
module _ (s : Setup) (m : ℕ) (c : Configured s) (p : Area) (status : Words) (heads : Headed p) (words : Worded status) (q : Question) where
  -- the words of the area
  abbrev w : ℕ
  w = area_count s m

  reply_counted : Counted s w
  reply_counted = refl

  abbrev reply_telegram : List ℕ
  reply_telegram = telegram_of s.node (net_for s w p status)

  abbrev n : ℕ
  n = net_in reply_telegram

  read_is : read_task s q reply_telegram ≡ read_normal s q reply_telegram s.node n
  unfolding read_task
  read_is =
      let same : n + 3 - 3 ≡ n = omega arith in
      ap (λ (d : Result Telegram Fault). read_decoded d s q reply_telegram) (normal_decoded s w c reply_counted p status) ∙ ap (λ (x : ℕ). read_normal s q reply_telegram s.node x) same

  -- without an area
  pub read_none : w ≡ 0 → read_task s q reply_telegram ≡ Ok (record { content = Empty; process = first_words s.pzd status zero_words })
  unfolding read_normal
  read_none e =
      read_is
      ∙ rw (
        node_own s s.node refl,
        own_count s w c reply_counted p status s.node,
        eq-eqb w 0 e,
        process_back s.node p w status s.pzd heads words zero_words (area_sized s n c) c.process,
      )

  -- with an area that is a reply to the task
  pub read_area : (w ≡ 0 → ⊥) → Replies w q p
      → read_task s q reply_telegram ≡ Ok (record { content = reply_content q.id p; process = first_words s.pzd status zero_words })
  unfolding read_normal
  read_area some r =
      read_is
      ∙ rw (
        node_own s s.node refl,
        own_count s w c reply_counted p status s.node,
        ne_eqb w 0 some,
        normal_area s w c reply_counted p status heads words some r.fits,
        r.good,
        process_back s.node p w status s.pzd heads words zero_words (area_sized s n c) c.process,
      )
