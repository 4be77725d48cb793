-- `blocks::look_down` meets its contract.
use native.Mathlib.Omega.{arith}
use Prim.Native.Nat.{◌+◌, ◌-◌, ◌*◌}
use mathlib.Core.Path.{◌≡◌, refl}
use Rattle.places.specs.Places.{SearchDown}
use Rattle.blocks.specs.Blocks.{size_at, starts_at, tags_at, last_at, past_at, bound_at}
use Rattle.blocks.proofs.Parts.{part_lent}
use Rattle.blocks.proofs.Searches.{passed}
use Rattle.blocks.proofs.look_down.Goals as goal

pub returns-then-mem-b : goal.returns-then-mem-b
unfolding SearchDown
returns-then-mem-b c = let st = c in let a = st.args in λ w e p j x r. passed (past_at a.b a.mem.now) (last_at a.b a.mem.now) (bound_at a.b a.mem.now) a.more _ (starts_at a.b a.mem.now) (tags_at a.b a.mem.now) refl w c.if-mem-b.true j x r

pub returns : goal.returns
returns c = let st = c in let a = st.args in let m = a.mem.now in λ w. let q : 137 + a.b * 129 + 64 ≡ 201 + a.b * 129 = omega arith in rw (part_lent m (137 + a.b * 129) (size_at a.b m) (137 + a.b * 129 + c.size_of-n.result - (137 + a.b * 129)) (omega (arith, c.size_of-n.ensures)), q, part_lent m (201 + a.b * 129) (size_at a.b m) (201 + a.b * 129 + c.size_of-n.result - (201 + a.b * 129)) (omega (arith, c.size_of-n.ensures)), c.end_of_block-e.ensures) at c.scan_down.ensures
