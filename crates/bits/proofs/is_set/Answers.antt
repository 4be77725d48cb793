-- `bits::is_set` meets its contract: the shift and the remainder are what a digit is (`bit_decides`); past the end every bit is 0 (`bit_past`).
use Rattle.std.proofs.Common.{◌≡◌, ◌/◌, length, nat_lt, false, arith}
use Rattle.std.proofs.lemmas.Bool.Decides.{nat_tests}
use Rattle.bits.proofs.Levels.{bit_decides, bit_past}
use Rattle.bits.proofs.is_set.Goals as goal

pub returns-then-w-mem : goal.returns-then-w-mem
returns-then-w-mem c = bit_decides c.args.mem.now c.args.i

pub returns-else-w-mem : goal.returns-else-w-mem
returns-else-w-mem c =
    let out : nat_lt (c.args.i / 64) (length c.args.mem.now) ≡ false = grind (arith, nat_tests) in
    rw out (λ e. omega (arith, bit_past c.args.mem.now c.args.i))
