-- `text::scan` meets its contract: the run goes on at each place passed (`Scanning`).
use mathlib.Core.Path.{sym, ◌∙◌}
use native.Mathlib.Omega.{arith}
use Rattle.text.proofs.Scans.{scanning_stop, scanning_end}
use Rattle.text.proofs.scan.Goals as goal

pub returns-then-not-is_in : goal.returns-then-not-is_in
returns-then-not-is_in c = scanning_stop _ _ _ _ c.loop-i-test.true (sym c.is_in.ensures ∙ c.if-not-is_in.true) c.loop-i.invariant

pub returns : goal.returns
returns c = scanning_end _ _ _ _ c.loop-i-test.false (λ l. omega arith) c.loop-i.invariant
