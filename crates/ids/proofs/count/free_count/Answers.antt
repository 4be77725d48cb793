-- `ids::free_count` meets its contract: the zeros among the bits are the free ids (`zeros_free`).
use Rattle.ids.specs.Layout.{Holds}
use Rattle.ids.proofs.Zeros.{zeros_free}
use Rattle.ids.proofs.LastBits.{none_held, head_of, head_last}
use Rattle.ids.proofs.count.free_count.Goals as goal

pub returns-in_default : goal.returns-in_default
unfolding Holds
returns-in_default c = λ s l. absurd (none_held _ _ c.in_default.is c.head.ensures s l)

pub returns : goal.returns
unfolding Holds
returns c = λ s l.
    zeros_free _ s _ _ l (head_last _ _ (head_of _ _ _ c.in-Some.is c.head.ensures) s l) c.zeros.ensures
