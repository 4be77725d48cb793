-- `loaded_ids::remake` meets its contract: the allocator is made, its ids granted, the freed ones given back; or the block is too short.
use Rattle.std.proofs.Common.{arith}
use Rattle.loaded_ids.proofs.LoadLaws.{remade_short, remade}
use Rattle.loaded_ids.proofs.remake.Goals as goal

pub returns-then-is_err : goal.returns-then-is_err
returns-then-is_err c = remade_short _ _ _ _ _ _ c.requires.frame c.requires.sensible _ _ c.new.ensures c.if-is_err.ensures.value

pub give-requires : goal.give-requires
give-requires c = let s = c.requires in λ i l. omega (arith, (s.sensible.ids i l).below, s.sensible.to, s.sensible.small)

pub returns : goal.returns
returns c = remade _ _ _ _ _ _ c.requires.frame c.requires.sensible _ _ _ _ c.new.ensures c.if-is_err.ensures.value c.grant.ensures c.give.ensures
