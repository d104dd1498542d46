-- `runs_listing::run` is well made: the part of the buffer that is written is within it. Assumes nothing.
use Rattle.std.proofs.Common.{length-take-le, sym}
use Rattle.listing.proofs.LengthLaws.{listed_lent}
use Rattle.runs_listing.proofs.run.Goals as goal

pub slice_bounds-out-end : goal.slice_bounds-out-end
slice_bounds-out-end c = listed_lent _ _ c.list-m.ensures.value c.list-m.ensures.out_after

pub slice_bounds-write_all-end : goal.slice_bounds-write_all-end
slice_bounds-write_all-end c = sym (length-take-le _ _ (listed_lent _ _ c.list-m.ensures.value c.list-m.ensures.out_after))
