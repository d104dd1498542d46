-- `page::nibble_of` meets its contract. Assumes nothing.
use Rattle.std.proofs.Common.{ℕ, ◌≡◌, ◌+◌, ◌*◌, ◌/◌, ◌%◌, ◌<◌, get_or, refl, sym, arith}
use lib.ListN.{get_or-eq_default}
use Rattle.rows.proofs.RangeLaws.{between}
use Rattle.page.specs.Page.{nibbles, nibble_of}
use Rattle.page.proofs.nibble_of.Goals as goal

-- the list has this nibble at each of the sixteen pages
listed : (k : ℕ) → k < 16 → get_or nibbles k 0 ≡ k / 2 + k % 2 * 8
listed k h =
    between (λ j. get_or nibbles j 0 ≡ j / 2 + j % 2 * 8) 16 0
    (refl, (refl, (refl, (refl, (refl, (refl, (refl, (refl, (refl, (refl, (refl, (refl, (refl, (refl, (refl, (refl, tt)))))))))))))))) k (omega arith) h

pub returns-then-page-lt16 : goal.returns-then-page-lt16
unfolding nibble_of
returns-then-page-lt16 c = omega (arith, listed (c.args.number / 2000) (omega arith))

pub returns-else-page-lt16 : goal.returns-else-page-lt16
unfolding nibble_of
returns-else-page-lt16 c = sym (get_or-eq_default nibbles 0 c.if-page-lt16.false)
