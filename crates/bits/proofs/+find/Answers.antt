-- `bits::find`: a level of one word by its own word (`find_bottom`); else the answer of the level above says which word is the first that is
-- not full (`find_none`, `find_some`).
use Rattle.std.proofs.Common.{ℕ, ◌+◌, ◌/◌, List, drop, subst, arith}
use Rattle.bits.specs.Bits.{Summed, Lowest}
use Rattle.bits.proofs.Levels.{summed_room, find_bottom, find_none, find_some, mid_tail}
use Rattle.bits.proofs.+find.Goals.{After-find-i}
use Rattle.bits.proofs.+find.Goals as goal

-- what the call has said of the level above, which is the slice from top + 1 on
said : (t : ℕ) (c : After-find-i t) → let a = c.args in
    (d : ℕ) → Summed d (drop (a.last / 64 + 1) a.mem.now) (a.last / 64)
    → Lowest (drop (a.last / 64 + 1) a.mem.now) (a.last / 64) c.find-i.result
said t c =
    let a = c.args in
    subst (λ (ws : List ℕ). (d : ℕ) → Summed d ws (a.last / 64) → Lowest ws (a.last / 64) c.find-i.result)
    (mid_tail (a.last / 64 + 1) a.mem.now) c.find-i.ensures

pub returns-then-mem-top : goal.returns-then-mem-top
returns-then-mem-top t c = λ d s. absurd (omega (arith, summed_room d _ _ s))

pub returns-then-top-eq0 : goal.returns-then-top-eq0
returns-then-top-eq0 t c = λ d s. find_bottom _ _ _ c.if-top-eq0.true c.low_ones.ensures

pub returns-then-above-i : goal.returns-then-above-i
returns-then-above-i t c = λ d s.
    find_none _ _ _ c.if-top-eq0.false d _ s (said t (goal.at.returns-then-above-i t c).After-find-i) c.if-above-i.true
    (omega (arith, c.ranges.last))

pub returns : goal.returns
returns t c = λ d s.
    find_some _ _ _ c.if-top-eq0.false d _ s (said t (goal.at.returns t c).After-find-i) c.if-above-i.false
    c.low_ones-2.ensures
