-- `ids::new` meets its contract: a header and zeros hold the fresh state (`laid_fresh`).
use native.Mathlib.Omega.{arith}
use mathlib.Core.Path.{◌≡◌, refl, sym, ap, ◌∙◌, subst}
use mathlib.Core.Logic.{inl, inr}
use mathlib.Core.List.{List}
use Prim.Native.Nat.{ℕ, ◌+◌, ◌-◌, ◌≤◌}
use borrow.Rule.Slice.PartMut.{mid_of, same_len_mid}
use lib.ListN.{length, set, length-set, length-take, length-drop}
use Rattle.bits.proofs.Levels.{mid_tail, put_tail}
use Rattle.ids.specs.State.{fresh}
use Rattle.ids.specs.Layout.{kind, Holds}
use Rattle.ids.proofs.Fresh.{laid_fresh, needs_some}
use Rattle.ids.proofs.new.Goals as goal

pub returns-then-high-low : goal.returns-then-high-low
returns-then-high-low c = (refl, inl (refl, c.if-high-low.true))

pub returns-then-mem-n : goal.returns-then-mem-n
returns-then-mem-n c = (
  refl,
  inr (refl, omega arith, (4 + c.room-n.result, needs_some (omega arith) c.room-n.ensures.0, c.if-mem-n.true)),
)

pub bounds-mem-1 : goal.bounds-mem-1
bounds-mem-1 c = simp length-set (omega arith)

pub bounds-mem-2 : goal.bounds-mem-2
bounds-mem-2 c = simp length-set (omega arith)

pub bounds-mem-3 : goal.bounds-mem-3
bounds-mem-3 c = simp length-set (omega arith)

pub slice_bounds-clear-count : goal.slice_bounds-clear-count
slice_bounds-clear-count c = simp length-set (omega arith)

pub slice_bounds-clear-start : goal.slice_bounds-clear-start
slice_bounds-clear-start c = simp length-set (omega arith)

pub shape_of-mem : goal.shape_of-mem
shape_of-mem c =
    let kept = c.clear.auto.mem in
    rw same_len_mid (simp length-set)

-- the part behind the header is the rest
rest : (xs : List ℕ) → length (mid_of 4 (length xs - 4) xs) ≡ length xs - 4
rest xs = ap length (mid_tail 4 xs) ∙ length-drop 4 xs

pub returns : goal.returns
unfolding Holds
returns c =
    let a = c.args in
    let ws : List ℕ = a.mem.now in
    let hs : List ℕ = set (set (set (set ws 0 kind) 1 a.low) 2 a.high) 3 a.low in
    let zs : List ℕ = c.clear.new.mem in
    let n : ℕ = c.room-n.result in
    let w = c.room-n.ensures.0 in
    let len : length hs ≡ length ws = simp length-set in
    let left = simp (length-take, length-drop, length-set) at c.clear.auto.mem in
    let enough : n ≤ length (mid_of 4 (length hs - 4) hs) = omega (arith, rest hs, c.if-mem-n.false) in (
      omega arith,
      (4 + n, needs_some (omega arith) w, omega arith),
      subst (λ (v : List ℕ). Holds v (fresh a.low a.high)) (sym (put_tail 4 hs zs))
          (laid_fresh ws a.low a.high n zs (omega arith) (omega arith) (omega arith) w
          (omega (arith, left)) (c.clear.ensures enough)),
    )
