-- `spread::finish` meets its contract.
use Rattle.std.proofs.Common.{rules, ◌≤◌, ◌<◌, ◌-◌, arith}
use Rattle.blocks.specs.Blocks.{size_at}
use Rattle.spread.proofs.Bounds.{trim_all, nearly_laid}
use Rattle.spread.proofs.finish.Goals as goal

pub returns-else-size_of-eq0 : goal.returns-else-size_of-eq0
returns-else-size_of-eq0 c =
    let st = c in
    let a = st.args in
    let m = a.mem.now in
    let some : 0 < size_at a.b m = search rules in
    let few : size_at a.b m ≤ 61 = search rules in
    let last : 0 < size_at (a.hi - 1) m = search rules in
    λ n. trim_all m m c.trim.new.mem _ _ a.lo a.hi (nearly_laid m a.lo a.b a.hi st.requires.0 st.requires.3 (omega (arith, st.requires.1, st.requires.4)) n some few last) n.low n.high c.trim.ensures
