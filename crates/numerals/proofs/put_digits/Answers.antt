-- `numerals::put_digits` meets its contract: the prefix, and the digits behind it.
use mathlib.Core.Path.{refl}
use native.Mathlib.Omega.{arith}
use Rattle.numerals.specs.Spelled.{spell}
use Rattle.numerals.proofs.Storing.{no_place, put_behind}
use Rattle.numerals.proofs.put_digits.Goals as goal

pub returns-in_err-end : goal.returns-in_err-end
returns-in_err-end c =
    let a = c.args in
    no_place a.prefix.now (spell a.base 20 a.n) a.out.now a.at c.width.result c.from_residual.result c.from_residual.ensures c.width.ensures.0 (omega (arith, c.in_err-end.ensures))

pub returns : goal.returns
returns c =
    let a = c.args in
    let w = c.in_ok-start.ensures in
    let k = c.width.ensures.0 in
    put_behind a.prefix.now (spell a.base 20 a.n) a.out.now c.put.new.out _ _ a.at c.in_ok-start.start c.in_ok-end.end w c.fill.ensures (omega (arith, w.1, k)) (omega (arith, w.1)) (omega arith) refl
