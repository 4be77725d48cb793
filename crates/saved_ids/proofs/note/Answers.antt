-- `saved_ids::note` meets its contract: a granted id is passed by, a free one written.
use Rattle.std.proofs.Common.{arith}
use Rattle.saved_ids.proofs.WriteLaws.{noted_free}
use Rattle.saved_ids.proofs.note.Goals as goal

pub returns : goal.returns
returns c = noted_free _ _ _ _ _ _ _ c.is_allocated.ensures c.if-is_allocated.false (omega (arith, c.if-k-j.false)) (omega arith) c.put.ensures
