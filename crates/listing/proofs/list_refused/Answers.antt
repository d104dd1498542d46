-- `listing::list_refused` meets its contract: the text is measured before it is written. Assumes nothing.
use Rattle.std.proofs.Common.{◌+◌, ◌≤◌, ◌<◌, length, refl, arith, rules}
use Rattle.store.specs.Placed.{joined}
use Rattle.store.proofs.StoreLaws.{put_not, all_joined}
use Rattle.text.proofs.DigitsLaws.{length_digits}
use Rattle.listing.specs.Listing.{refused_pieces}
use Rattle.listing.proofs.LengthLaws.{refused_size}
use Rattle.listing.proofs.list_refused.Goals as goal

pub overflow_add-count_digits : goal.overflow_add-count_digits
overflow_add-count_digits c = omega (arith, length_digits 9 c.args.count (omega arith))

pub overflow_add-count_digits-2 : goal.overflow_add-count_digits-2
overflow_add-count_digits-2 c = omega (arith, length_digits 9 c.args.count (omega arith), length_digits 9 c.args.number (omega arith))

pub returns-then-out-count_digits : goal.returns-then-out-count_digits
returns-then-out-count_digits c =
    let text = joined (refused_pieces c.args.count c.args.number) in
    let h : length c.args.out.now < 0 + length text = omega (arith, refused_size c.args.count c.args.number) in
    rw (put_not c.args.out.now 0 text h) (record { value = refl; out_after = refl })

pub returns : goal.returns
returns c =
    let pieces = refused_pieces c.args.count c.args.number in
    let h : 0 + length (joined pieces) ≤ length c.args.out.now = omega (arith, refused_size c.args.count c.args.number) in
    rw (← (all_joined c.args.out.now 0 pieces h)) (search rules)
