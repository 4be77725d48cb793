-- `bits::zeros` meets its contract. The first loop's invariant: n zeros among the bits of the words so far (`word_zeros`); the second's: n among
-- the bits below i (`bit_zero`, `bit_one`).
use Prim.Native.Nat.{ℕ, ◌+◌, ◌-◌, ◌*◌, ◌/◌, ◌^◌, ◌<◌}
use native.Mathlib.Omega.{arith}
use mathlib.Core.Path.{◌≡◌, sym, ap, ◌∙◌, subst}
use lib.Count.{ones}
use lib.ListN.{get_or, take, length-take}
use Rattle.std.proofs.lemmas.List.{get_or-take}
use Rattle.ranges.specs.Count.{Count, none}
use Rattle.bits.specs.Bits.{bit}
use Rattle.bits.proofs.Counts.{ones_not, word_zeros, bit_zero, bit_one}
use Rattle.bits.proofs.zeros.Goals.{then-not-is_set, else-not-is_set}
use Rattle.bits.proofs.zeros.Goals as goal

pub loop-w-init : goal.loop-w-init
loop-w-init c = (omega arith, none)

pub loop-w-preserved : goal.loop-w-preserved
loop-w-preserved c =
    let l = c.loop-w in
    let ws = c.args.mem.now in
    let w : ℕ = get_or ws l.w-index 0 in
    let h : w < 2 ^ 64 = (c.type_inv.mem l.w-index).fits in
    let same : get_or (take (c.args.last / 64) ws) l.w-index 0 ≡ w = get_or-take (c.args.last / 64) ws l.w-index 0 (omega (arith, length-take {A = ℕ})) in
    let e : c.count_zeros.result ≡ 64 - ones w =
    c.count_zeros.ensures.value ∙ ap (λ (x : ℕ). ones (2 ^ 64 - 1 - x)) same ∙ omega (arith, ones_not 64 w h) in
    (omega arith, subst (λ (x : ℕ). Count (λ j. bit ws j ≡ 0) ((l.w-index + 1) * 64) (l.n + x)) (sym e) (word_zeros ws l.w-index l.n h l.invariant.1))

pub loop-i-init : goal.loop-i-init
loop-i-init c =
    let l = c.loop-w in
    let e : l.w-index ≡ c.args.last / 64 = omega (arith, length-take {A = ℕ}) in
    (omega arith, subst (λ (x : ℕ). Count (λ j. bit c.args.mem.now j ≡ 0) (x * 64) l.n) e l.invariant.1)

pub loop-i-preserved : goal.loop-i-preserved
loop-i-preserved c =
    let l = c.loop-i in
    let ws = c.args.mem.now in
    let set = c.is_set in
    elim c.if-not-is_set.branch [
      | then-not-is_set w ↦ (omega arith, rw w.n-is (bit_zero ws l.i l.n set.result w.if-not-is_set.true set.ensures l.invariant.1))
      | else-not-is_set w ↦ (omega arith, rw w.n-is (bit_one ws l.i l.n set.result w.if-not-is_set.false set.ensures l.invariant.1))
    ]

pub returns : goal.returns
returns c = λ h.
    let l = c.loop-i in
    let e : l.i ≡ c.args.last + 1 = omega arith in
    subst (λ (x : ℕ). Count (λ j. bit c.args.mem.now j ≡ 0) x l.n) e l.invariant.1
