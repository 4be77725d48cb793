-- A line carried out on a block, as C sees it: m is the block before, m' the block after, t what is told of it.
use Rattle.std.specs.Prelude.{◌≡◌, List, ℕ, Result}
use Rattle.script.specs.Grammar.{line_of}
use Rattle.ranges.specs.declared.Error.{Error}
use Rattle.addresses.specs.declared.Answer.{Answer}
use Rattle.replay.specs.declared.Outcome as replay
use Rattle.replay.specs.Wanted.{pool_wants, id_wants}
use Rattle.replay.specs.Replayed.{OnPool, OnIds}
use Rattle.asked.specs.declared.Outcome.{Outcome}
use Rattle.asked.specs.Asked.{use_wants, OnUse}
use Rattle.told.specs.Told.{pool_of, ids_of, use_of}

-- what the line wants is done on the pool, and what became of it is told
abbrev pub PoolLine : List ℕ → List ℕ → List ℕ → List ℕ → Type 0
PoolLine s m m' t = (o : replay.Outcome Answer) × OnPool m (pool_wants (line_of s)) o m' × (t ≡ pool_of o)

-- the same on an interval of ids
abbrev pub IdLine : List ℕ → List ℕ → List ℕ → List ℕ → Type 0
IdLine s m m' t = (o : replay.Outcome (Result ℕ Error)) × OnIds m (id_wants (line_of s)) o m' × (t ≡ ids_of o)

-- whether an id is granted is asked, and what is answered is told
abbrev pub UseLine : List ℕ → List ℕ → List ℕ → Type 0
UseLine s m t = (o : Outcome) × OnUse m (use_wants (line_of s)) o × (t ≡ use_of o)
