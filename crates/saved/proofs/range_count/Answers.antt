-- `saved::range_count` meets its contract: a pool has at least one range and at most 4,096.
use Rattle.saved.proofs.WriteLaws.{numbers_none}
use Rattle.saved.proofs.range_count.Goals as goal

pub returns-then-n-gt4096 : goal.returns-then-n-gt4096
returns-then-n-gt4096 c = numbers_none _ _ c.count-n.ensures c.if-n-gt4096.either
