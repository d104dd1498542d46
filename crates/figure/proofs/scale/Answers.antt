-- `figure::scale` meets its contract: the product fits, and its division by 16384.0 is the definition's. Assumes nothing.
use lib.Ieee.{of_bits}
use Rattle.figure.proofs.ScaleLaws.{product_is, product_fits, product_over}
use Rattle.figure.proofs.scale.Goals as goal

pub overflow_mul-product : goal.overflow_mul-product
overflow_mul-product c =
    let a = c.args in
    rw (c.signed_of.ensures, product_is a.word a.by c.requires) (product_fits a.word a.by c.requires)

pub returns : goal.returns
unfolding of_bits
returns c =
    let a = c.args in
    rw (c.signed_of.ensures, product_is a.word a.by c.requires) (product_over a.word a.by c.requires)
