-- `spread::spread` meets its contract.
use native.Mathlib.Omega.{arith}
use mathlib.Core.Path.{refl, sym, ◌∙◌}
use Rattle.spread.proofs.Bounds.{trim_all}
use Rattle.blocks.specs.Blocks.{blocks_of}
use Rattle.spread.proofs.spread.Goals as goal

pub deal-requires : goal.deal-requires
deal-requires c = let st = c in (st.requires, refl, refl, refl, sym c.total.ensures ∙ c.if-total-n.false, omega arith)

pub trim-requires : goal.trim-requires
trim-requires c = let s = c.deal.ensures.settled.sound in (s, refl, omega arith, omega arith)

pub returns : goal.returns
returns c = λ p e. let d = c.deal in trim_all _ d.new.mem c.trim.new.mem _ _ 0 (blocks_of d.new.mem) d.ensures (λ c h p. absurd (omega arith)) (λ c h p. absurd (omega arith)) c.trim.ensures
