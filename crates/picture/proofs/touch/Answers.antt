-- `picture::touch` meets its contract: a stretch and a cell meet where neither ends before the other starts.
use mathlib.Core.Logic.{inl}
use Prim.Native.Nat.{◌+◌, max}
use native.Mathlib.Nat.{le-max_left, le-max_right}
use native.Mathlib.Omega.{arith}
use Rattle.picture.proofs.touch.Goals as goal

pub returns : goal.returns
returns c =
    let a = c.args in
    inl ((max a.start (a.base + a.off), le-max_right a.start (a.base + a.off), omega (arith, c.if-hi-start.false, c.if-size-eq0.false), le-max_left a.start (a.base + a.off), omega (arith, c.if-end-lo.false, c.requires)), c.join.ensures)
