-- `bits::low_ones` meets its contract: the ones below the lowest zero are the trailing zeros of the complement (`low_ones`).
use Rattle.bits.proofs.Digits.{low_ones}
use Rattle.bits.proofs.low_ones.Goals as goal

pub returns : goal.returns
returns c = rw c.trailing_ones.ensures (low_ones 64 c.args.w c.ranges.w.fits)
