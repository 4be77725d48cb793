-- `numerals::fill` meets its contract: the digits that are left to write and those behind them are the whole text.
use Rattle.numerals.proofs.Storing.{Filling}
use Rattle.numerals.proofs.fill.Given as goal

abbrev pub invariant-loop-i : goal.invariant-loop-i
invariant-loop-i l = Filling l.initial.out l.n l.base l.out l.i l.rest
