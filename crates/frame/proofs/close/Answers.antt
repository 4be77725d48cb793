-- `frame::close` meets its contract: the check of the words before is put behind them.
use Prim.Native.Nat.{ℕ}
use mathlib.Core.Path.{subst}
use native.Mathlib.Omega.{arith}
use Rattle.octets.specs.Octets.{Puts}
use Rattle.frame.proofs.close.Goals as goal

pub returns : goal.returns
returns c =
    let a = c.args in
    subst (λ (x : ℕ). Puts a.bs.now a.i x c.put.new.bs) (c.check-c.ensures (omega arith)) c.put.ensures
