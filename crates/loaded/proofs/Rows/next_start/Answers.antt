-- `loaded::Rows::next_start` meets its contract: the next range's first address, or the address past the last.
use Rattle.std.proofs.Common.{arith}
use Rattle.loaded.proofs.Rows.next_start.Goals as goal

pub returns-then-i-self : goal.returns-then-i-self
returns-then-i-self c = record { inner = λ h. c.get.ensures (omega arith); outer = λ h. absurd (omega (arith, c.if-i-self.true)) }
