-- `bits::flip`: one word's digit changed, and the bit above it where the word was full or has become so (`flip_bottom`, `flip_level`,
-- `flip_raised`).
use Rattle.std.proofs.Common.{◌≡◌, ℕ, ◌+◌, ◌-◌, ◌/◌, ◌≤◌, List, length, sym, ap, subst, ◌∙◌, inl, inr, arith}
use Rattle.std.proofs.Math.ListN.{set, length-set}
use borrow.Rule.Slice.PartMut.{put_mid, same_len_mid}
use Rattle.bits.specs.Bits.{Summed, Flipped}
use Rattle.bits.proofs.Levels.{summed_room, flip_bottom, flip_level, flip_raised, mid_tail, put_tail}
use Rattle.bits.proofs.+flip.Goals.{else-old-via-then-old+else-new, else-old-via-else-old}
use Rattle.bits.proofs.+flip.Goals as goal

pub returns-then-mem-top : goal.returns-then-mem-top
returns-then-mem-top t c = λ d s h. absurd (omega (arith, summed_room d _ _ s))

pub returns-then-top-eq0 : goal.returns-then-top-eq0
returns-then-top-eq0 t c = λ d s h. flip_bottom _ _ _ _ c.toggled-new.ensures (summed_room d _ _ s) h c.if-top-eq0.true d s

pub returns-then-new : goal.returns-then-new
returns-then-new t c = λ d s h. flip_level _ _ _ _ c.toggled-new.ensures (summed_room d _ _ s) h c.if-top-eq0.false c.if-old.true c.if-new.true d s

pub returns : goal.returns
returns t c = λ d s h.
    let a = c.args in
    let ws : List ℕ = a.mem.now in
    let n : ℕ = a.last / 64 + 1 in
    let xs : List ℕ = set ws (a.i / 64) c.toggled-new.result in
    let up : List ℕ = c.flip.new.mem in
    let said = subst (λ (l : List ℕ). (d : ℕ) → Summed d l (a.last / 64) → a.i / 64 ≤ a.last / 64 → Flipped l up (a.last / 64) (a.i / 64) × Summed d up (a.last / 64))
    (mid_tail n xs) c.flip.ensures in
    -- the call has kept the length, and so has the store
    let kept : length (put_mid n (length xs - n) xs up) ≡ length ws =
    same_len_mid n (length xs - n) xs up c.flip.auto.mem ∙ length-set ws (a.i / 64) _ in
    subst (λ (l : List ℕ). Flipped ws l a.last a.i × Summed d l a.last) (sym (put_tail n xs up))
    (flip_raised ws a.last a.i _ c.toggled-new.ensures (summed_room d _ _ s) h up c.if-top-eq0.false
    (elim c.else-old.branch [ else-old-via-then-old+else-new w ↦ inr (w.if-old.true, w.if-new.false) | else-old-via-else-old w ↦ inl w.if-old.false ])
    said (sym (ap length (put_tail n xs up)) ∙ kept) d s)
