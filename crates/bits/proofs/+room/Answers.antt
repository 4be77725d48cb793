-- `bits::room`: one word, or a level's words and those of the level above.
use Rattle.std.proofs.Common.{◌≡◌, ◌≤◌, ◌+◌, ◌/◌, sym, subst, arith}
use Rattle.bits.specs.Bits.{Words}
use Rattle.bits.proofs.+room.Goals as goal

pub returns-then-above-eq0 : goal.returns-then-above-eq0
returns-then-above-eq0 t c =
    let l = c.args.last in
    let e : l / 64 + 1 ≡ 1 = omega arith in
    (subst (Words l) (sym e) (Words.one (omega arith)), omega arith)

pub returns : goal.returns
returns t c =
    let h : 64 ≤ c.args.last = omega arith in
    (Words.more h c.room.ensures.0, omega (arith, c.room.ensures.1))
