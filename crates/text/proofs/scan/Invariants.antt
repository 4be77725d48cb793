-- `text::scan` meets its contract: the run goes on at each place passed (`Scanning`).
use Rattle.text.proofs.Scans.{Scanning}
use Rattle.text.proofs.scan.Given as goal

abbrev pub invariant-loop-i : goal.invariant-loop-i
invariant-loop-i l = Scanning l.class l.s l.at l.i
