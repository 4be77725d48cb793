-- `ids::bounds` meets its contract: the header's words of a block that holds a state.
use Rattle.std.proofs.Common.{◌≡◌, None, rules}
use Rattle.ids.specs.Layout.{Holds}
use Rattle.ids.proofs.LastBits.{none_held, head_of, head_low, head_high, head_next}
use Rattle.ids.proofs.bounds.Goals as goal

pub returns-in_err-h : goal.returns-in_err-h
unfolding Holds
returns-in_err-h c =
    let e : c.from_residual.result ≡ None = search rules in
    rw e (none_held _ _ c.in_err-h.was c.head.ensures)

pub returns : goal.returns
unfolding Holds
returns c = λ s l.
    let d = head_of _ _ _ c.in_ok-h.was c.head.ensures in
    (head_low _ _ d s l, head_high _ _ d s l, head_next _ _ d s l)
