-- `ids::is_allocated` meets its contract: the tests leave the ids of the interval, and an id's bit says whether it is granted (`bit_decides`).
use native.Mathlib.Omega.{arith}
use Rattle.ids.specs.State.{Within}
use Rattle.ids.specs.Layout.{Holds}
use Rattle.ids.proofs.States.{bit_decides}
use Rattle.ids.proofs.LastBits.{none_held, head_of, head_low, head_high}
use Rattle.ids.proofs.is_allocated.Goals as goal

pub returns-in_default : goal.returns-in_default
unfolding Holds
returns-in_default c = λ s l w. none_held _ _ c.in_default.is c.head.ensures s l

pub returns-then-h-x : goal.returns-then-h-x
unfolding Holds
returns-then-h-x c = λ s l w.
    let d = head_of _ _ _ c.in-Some.is c.head.ensures in
    omega (arith, head_low _ _ d s l, head_high _ _ d s l, w.0.0, w.0.1)

pub returns : goal.returns
unfolding Holds
returns c = λ s l.
    let d = head_of _ _ _ c.in-Some.is c.head.ensures in
    let low = head_low _ _ d s l in
    let w : Within s c.args.id = (omega (arith, low), omega (arith, head_high _ _ d s l)) in
    bit_decides _ s l c.is_set.result _ c.args.id low w c.is_set.ensures
