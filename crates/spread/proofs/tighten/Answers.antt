-- `spread::tighten` meets its contract.
use native.Mathlib.Omega.{arith}
use Prim.Native.Nat.{◌+◌, ◌-◌, ◌*◌}
use mathlib.Core.Path.{◌≡◌, refl}
use Rattle.blocks.specs.Blocks.{size_at, starts_at, tags_at, past_at, Within}
use Rattle.blocks.proofs.Parts.{part_lent}
use Rattle.spread.proofs.tighten.Goals as goal

pub returns : goal.returns
returns c = let st = c in let a = st.args in let m = a.mem.now in let n = c.size_of-n.result in let q : 137 + a.b * 129 + 64 ≡ 201 + a.b * 129 = omega arith in
    let t : Within (past_at a.b m) (starts_at a.b m) (tags_at a.b m) c.widest-w.result = rw (part_lent m (137 + a.b * 129) (size_at a.b m) (137 + a.b * 129 + n - (137 + a.b * 129)) (omega (arith, c.size_of-n.ensures)), q, part_lent m (201 + a.b * 129) (size_at a.b m) (201 + a.b * 129 + n - (201 + a.b * 129)) (omega (arith, c.size_of-n.ensures)), c.end_of_block-e.ensures) at c.widest-w.ensures in
    record { bound = c.widest-w.result; is = refl; within = t }
