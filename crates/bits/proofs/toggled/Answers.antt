-- `bits::toggled` meets its contract: the shifted one is a power of two that fits, and `xor` with it changes that digit (`toggle`).
use native.Mathlib.Omega.{arith}
use mathlib.Core.Path.{◌≡◌, ◌∙◌}
use Prim.Native.Nat.{◌*◌, ◌%◌, ◌^◌}
use native.Mathlib.Nat.{one-mul}
use lib.Pow.{shl_exact}
use Rattle.bits.proofs.Digits.{toggle}
use Rattle.bits.proofs.toggled.Goals as goal

pub returns : goal.returns
returns c =
    let x = c.args.t % 64 in
    let e : 1 * 2 ^ x % 2 ^ 64 ≡ 2 ^ x = shl_exact 1 x 64 (omega arith) (omega arith) ∙ one-mul (2 ^ x) in
    rw e (toggle c.args.w x)
