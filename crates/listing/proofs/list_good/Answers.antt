-- `listing::list_good` meets its contract: the text is measured before it is written. Assumes nothing.
use Rattle.std.proofs.Common.{ℕ, ◌+◌, ◌≤◌, ◌<◌, List, length, refl, arith}
use Rattle.words.specs.Words.{byte_at, Bytes}
use Rattle.store.specs.Placed.{joined}
use Rattle.store.proofs.StoreLaws.{put_not, all_joined}
use Rattle.text.specs.Digits.{digits}
use Rattle.text.proofs.DigitsLaws.{length_digits}
use Rattle.frame.specs.Frame.{last_of}
use Rattle.listing.specs.Listing.{good_text}
use Rattle.listing.proofs.LengthLaws.{good_size}
use Rattle.listing.proofs.list_good.Goals as goal

-- no number of a telegram has more than three digits
few : (t : List ℕ) → Bytes t → length t ≤ 300 → (node : ℕ) → node < 256 → length (digits (length t)) + length (digits (byte_at t 1)) + length (digits node) + length (digits (byte_at t (last_of t))) ≤ 12
few t b n node h =
    omega (
      arith,
      length_digits 2 (length t) (omega arith),
      length_digits 2 (byte_at t 1) (omega (arith, b 1)),
      length_digits 2 node (omega arith),
      length_digits 2 (byte_at t (last_of t)) (omega (arith, b (last_of t))),
    )

pub overflow_add-numbers : goal.overflow_add-numbers
overflow_add-numbers c = omega (arith, few c.args.t.now (λ i. (c.type_inv.t i).fits) c.requires.t_len_bound c.args.node c.ranges.node.fits)

pub overflow_add-numbers-2 : goal.overflow_add-numbers-2
overflow_add-numbers-2 c = omega (arith, few c.args.t.now (λ i. (c.type_inv.t i).fits) c.requires.t_len_bound c.args.node c.ranges.node.fits)

pub overflow_add-numbers-3 : goal.overflow_add-numbers-3
overflow_add-numbers-3 c = omega (arith, few c.args.t.now (λ i. (c.type_inv.t i).fits) c.requires.t_len_bound c.args.node c.ranges.node.fits)

pub overflow_add-kind-2 : goal.overflow_add-kind-2
overflow_add-kind-2 c = omega (arith, few c.args.t.now (λ i. (c.type_inv.t i).fits) c.requires.t_len_bound c.args.node c.ranges.node.fits)

pub returns-then-out-kind : goal.returns-then-out-kind
returns-then-out-kind c =
    let t = c.args.t.now in
    let text = joined (good_text t c.args.node c.args.kind.now) in
    let h : length c.args.out.now < 0 + length text = omega (arith, good_size (length t) (byte_at t 1) c.args.node c.args.kind.now (byte_at t (last_of t))) in
    rw (put_not c.args.out.now 0 text h) (record { value = refl; out_after = refl })

pub returns : goal.returns
returns c =
    let t = c.args.t.now in
    let pieces = good_text t c.args.node c.args.kind.now in
    let h : 0 + length (joined pieces) ≤ length c.args.out.now = omega (arith, good_size (length t) (byte_at t 1) c.args.node c.args.kind.now (byte_at t (last_of t))) in
    rw (← (all_joined c.args.out.now 0 pieces h)) (record { value = c.write_good.ensures.value; out_after = c.write_good.ensures.out_after })
