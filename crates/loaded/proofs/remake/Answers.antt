-- `loaded::remake` meets its contract: the pool is made, or the block is too short for it.
use Rattle.std.proofs.Common.{arith}
use Rattle.loaded.proofs.LoadLaws.{remade_short, remade}
use Rattle.loaded.proofs.remake.Goals as goal

pub returns-then-is_err : goal.returns-then-is_err
returns-then-is_err c = remade_short _ _ _ _ _ _ (omega arith) c.requires.frame c.requires.sensible _ _ c.new.ensures c.if-is_err.ensures.value

pub returns : goal.returns
returns c = remade _ _ _ _ _ _ (omega arith) c.requires.frame c.requires.sensible _ _ _ c.new.ensures c.if-is_err.ensures.value c.fill.ensures
