-- `page::page_of` meets its contract. Assumes nothing.
use Rattle.std.proofs.Common.{ℕ, ◌≡◌, ◌+◌, ◌*◌, ◌/◌, ◌%◌, ◌<◌, get_or, refl, arith}
use Rattle.rows.proofs.RangeLaws.{between}
use Rattle.page.specs.Page.{pages, page_of}
use Rattle.page.proofs.page_of.Goals as goal

-- the list has this page at each of the sixteen nibbles
listed : (k : ℕ) → k < 16 → get_or pages k 0 ≡ k % 8 * 2 + k / 8
listed k h =
    between (λ j. get_or pages j 0 ≡ j % 8 * 2 + j / 8) 16 0
    (refl, (refl, (refl, (refl, (refl, (refl, (refl, (refl, (refl, (refl, (refl, (refl, (refl, (refl, (refl, (refl, tt)))))))))))))))) k (omega arith) h

pub returns : goal.returns
unfolding page_of
returns c = omega (arith, listed (c.args.ind / 4096) (omega arith))
