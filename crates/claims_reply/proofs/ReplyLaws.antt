-- What a parameter area must be to be read as the reply to a task. Assumes nothing.
use mathlib.Core.Path.{◌≡◌, refl, sym, ap, ◌∙◌}
use mathlib.Core.Logic.{inl, inr}
use mathlib.Core.Bool.{Bool, true, false, not, ◌&&◌, cond}
use Prim.Native.Nat.{ℕ, ◌+◌, ◌-◌, ◌*◌, ◌/◌, ◌%◌, ◌^◌, ◌≤◌, ◌<◌}
use native.Mathlib.Omega.{arith}
use borrow.Author.Tests.{eq-eqb, ne_eqb, eqb-true, ltb-false}
use lib.Dec.{eqb, ltb, lit<}
use Rattle.setup.proofs.SetupLaws.{Wide}
use Rattle.area.specs.declared.Area.{Area}
use Rattle.area.specs.Read.{empty_area}
use Rattle.area.proofs.WordLaws.{Headed}
use Rattle.page.specs.Page.{nibble_of, base_of}
use Rattle.page.proofs.PageLaws.{nibble_small, ind_nibble, ind_index, base_back, id_back, bit_zero}
use Rattle.task.specs.Task.{tasks, task_of, is_double_id}
use Rattle.deed.specs.Deed.{reply_area}
use Rattle.master.specs.Build.{task_area}
use Rattle.read_answers.specs.declared.Content.TheVariants.{Value, Failed}
use Rattle.read_answers.specs.ReadNumbers.{content_id, content_value}
use Rattle.content.specs.declared.Question.{Question}
use Rattle.content.specs.Content.{known_id, all_zero, bad_rows, bad_reply, reply_content}

-- an area that is read as the reply to what q asks, with its own reply ID and value
pub record Replies (n : ℕ) (q : Question) (p : Area) : Type 0 where
  pub heads : Headed p
  pub fits : p.value < 65536 ^ (n - 2)
  pub good : bad_reply n q p ≡ false
  pub same_id : content_id (reply_content q.id p) ≡ p.pke / 4096
  pub same_value : content_value (reply_content q.id p) ≡ p.value
  pub not_8 : p.pke / 4096 ≡ 8 → ⊥

-- a reply ID and a value that may follow a task
pub record Suits (n id replyId v : ℕ) : Type 0 where
  pub id_known : known_id id replyId ≡ true
  pub double_room : (is_double_id replyId && eqb n 3) ≡ false
  pub word : (not (is_double_id replyId) && ltb 65535 v) ≡ false
  pub small : v < 65536 ^ (n - 2)
  pub few : replyId ≤ 7

-- task 0
pub empty_replies : (n : ℕ) → Wide n → Replies n (record { id = 0; number = 0; index = 0 }) empty_area
unfolding bad_reply bad_rows known_id all_zero nibble_of reply_content tasks task_of
empty_replies n w = record {
  heads = record { pke_word = lit< tt; ind_word = lit< tt };
  fits = zero_fits w;
  good = refl;
  same_id = refl;
  same_value = refl;
  not_8 = λ q. omega arith;
}
  where
    zero_fits : Wide n → 0 < 65536 ^ (n - 2)
    zero_fits (inl q) = rw q (lit< tt)
    zero_fits (inr q) = rw q (lit< tt)

-- an error number is a word
error_word : (v : ℕ) → (not (is_double_id 7) && ltb 65535 v) ≡ false → v % 65536 ≡ v
error_word v e = omega (arith, ltb-false 65535 v e)

-- a value or an error number, by the reply ID
id_or_error : (b : Bool) (replyId v : ℕ) → eqb replyId 7 ≡ b → (replyId ≡ 7 → v % 65536 ≡ v)
    → (content_id (cond b (Failed (v % 65536)) (Value replyId v)) ≡ replyId) × (content_value (cond b (Failed (v % 65536)) (Value replyId v)) ≡ v)
id_or_error true replyId v e word = let q = eqb-true replyId 7 e in (sym q, word q)
id_or_error false replyId v e word = (refl, refl)

content_same : (id : ℕ) (p : Area) (replyId : ℕ) → (id ≡ 0 → ⊥) → p.pke / 4096 ≡ replyId → replyId ≤ 7 → (replyId ≡ 7 → p.value % 65536 ≡ p.value)
    → (content_id (reply_content id p) ≡ replyId) × (content_value (reply_content id p) ≡ p.value)
unfolding reply_content
content_same id p replyId some e few word =
    let no-8 : replyId ≡ 8 → ⊥ = λ q. omega arith in
    rw (ne_eqb id 0 some, e, ne_eqb replyId 8 no-8) (id_or_error (eqb replyId 7) replyId p.value refl word)

-- a reply to any other task: base, page and index come back, and the bits between them are 0
pub suited_replies : (n id number index replyId v : ℕ) → (id ≡ 0 → ⊥) → number ≤ 31999 → index < 256 → Suits n id replyId v
    → Replies n (record { id = id; number = number; index = index }) (task_area replyId number index v)
unfolding bad_reply bad_rows task_area
suited_replies n id number index replyId v some h i f =
    let p = task_area replyId number index v in
    let ind = nibble_of number * 4096 + index in
    let between : ind / 256 % 16 ≡ 0 = omega arith in
    let back = id_back replyId number in
    let no-8 : replyId ≡ 8 → ⊥ = λ q. omega (arith, f.few) in
    let word : replyId ≡ 7 → v % 65536 ≡ v = λ q. error_word v (ap (λ (k : ℕ). not (is_double_id k) && ltb 65535 v) (sym q) ∙ f.word) in
    let c = content_same id p replyId some back f.few word in
    record {
      heads = record { pke_word = omega (arith, f.few); ind_word = omega (arith, nibble_small number) };
      fits = f.small;
      good = rw (
        back,
        f.id_known,
        ne_eqb id 0 some,
        f.double_room,
        eq-eqb (base_of (replyId * 4096 + number % 2000)) (number % 2000) (base_back replyId number),
        eq-eqb (ind / 4096) (nibble_of number) (ind_nibble number index h i),
        eq-eqb (ind % 256) index (ind_index number index h i),
        eq-eqb ((replyId * 4096 + number % 2000) / 2048 % 2) 0 (bit_zero replyId number),
        eq-eqb (ind / 256 % 16) 0 between,
        f.word,
        ne_eqb replyId 8 no-8,
      );
      same_id = c.0 ∙ sym back;
      same_value = c.1;
      not_8 = λ q. no-8 (sym back ∙ q);
    }

-- a reply repeats base, page and index
pub reply_echoes : (id number index value replyId v : ℕ) → number ≤ 31999 → index < 256
    → reply_area (task_area id number index value) replyId v ≡ task_area replyId number index v
unfolding task_area
reply_echoes id number index value replyId v h i =
    let ind = nibble_of number * 4096 + index in
    let page : ind / 4096 * 4096 + ind % 256 ≡ ind = omega arith in
    rw (base_back id number, page)
