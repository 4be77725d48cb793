-- `ids::words_needed` meets its contract: `room`, and the header.
use native.Mathlib.Omega.{arith}
use Rattle.ids.proofs.Fresh.{needs_some, needs_none}
use Rattle.ids.proofs.words_needed.Goals as goal

pub returns-then-high-low : goal.returns-then-high-low
returns-then-high-low c = needs_none c.if-high-low.true

pub returns : goal.returns
returns c = needs_some (omega arith) c.room.ensures.0
