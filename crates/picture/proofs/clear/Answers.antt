-- `picture::clear` meets its contract: a bar of blanks shows no stretch.
use Rattle.std.proofs.Common.{inl, arith}
use mathlib.Core.Path.{◌≡◌, ◌∙◌}
use borrow.Author.Count.{below_more}
use lib.ListN.{get_or, set}
use lib.Seq.{get_or-set_same, get_or-set_other}
use Prim.Native.Nat.{ℕ}
use Rattle.picture.proofs.clear.Goals as goal

pub loop-cell-init : goal.loop-cell-init
loop-cell-init c = λ i h. absurd (omega arith)

pub loop-cell-preserved : goal.loop-cell-preserved
loop-cell-preserved c =
    let l = c.loop-cell in
    let k = l.cell-index in
    below_more (λ (i : ℕ). get_or (set l.bar k 32) i 0 ≡ 32) k (λ i u. get_or-set_other l.bar k i 32 0 (λ e. omega arith) ∙ l.invariant i u) (get_or-set_same l.bar k 32 0 (omega (arith, l.auto.bar)))

pub returns : goal.returns
returns c = λ base last i h. inl (c.loop-cell.invariant i (omega (arith, c.loop-cell.auto.bar)), λ q. q.2, λ q. q.2)
