-- `spread::raise` meets its contract.
use Rattle.std.proofs.Common.{rules, ◌≤◌, ◌<◌, arith}
use Rattle.blocks.specs.Blocks.{size_at}
use Rattle.spread.proofs.Bounds.{raised}
use Rattle.spread.proofs.raise.Goals as goal

pub returns-else-uneven : goal.returns-else-uneven
returns-else-uneven c =
    let st = c in
    let m = st.args.mem.now in
    let some : 0 < size_at st.args.b m = search rules in
    let few : size_at st.args.b m ≤ 61 = search rules in
    λ n v. raised m st.args.b st.args.w c.max.result st.requires.0 st.requires.1 n v some few (omega arith) (omega arith)
