-- Spreading is the identity on the ranges. Assumes nothing.
use Prim.Native.Nat.{ℕ, ◌≤◌, ◌<◌}
use mathlib.Core.Path.{◌≡◌, refl, sym, ◌∙◌}
use mathlib.Core.List.{List}
use native.Mathlib.Omega.{arith}
use lib.ListN.{length, get_or}
use Rattle.blocks.specs.Blocks.{room_of, count_of, blocks_of, limit_of, sizes, starts_of, tags_of, Sound}
use Rattle.spread.specs.Spread.{Gathered, Dealt, Laid}

pub dealt_laid : (m m₁ m₂ : List ℕ) → Sound m → Gathered m m₁ (room_of m) (blocks_of m) (count_of m) → Dealt m₁ m₂ (room_of m) (blocks_of m₂) (count_of m) → 0 < blocks_of m₂ → blocks_of m₂ ≤ room_of m → Laid m m₂ (starts_of m) (tags_of m)
unfolding starts_of tags_of
dealt_laid m m₁ m₂ u g d one le =
    let head : (j : ℕ) → j < 8 → (j ≡ 4 → ⊥) → get_or m₂ j 0 ≡ get_or m j 0 = λ j p q. d.head j p q ∙ g.same.below j (omega arith) in
    let e0 : room_of m₂ ≡ room_of m = head 0 (omega arith) (λ z. omega arith) in
    let e1 : count_of m₂ ≡ count_of m = head 1 (omega arith) (λ z. omega arith) in
    let e5 : limit_of m₂ ≡ limit_of m = head 5 (omega arith) (λ z. omega arith) in
    let len : length m₂ ≡ length m = d.len ∙ g.same.len in
    let v = u in
    let sound : Sound m₂ = record {
      marked = head 6 (omega arith) (λ z. omega arith) ∙ u.marked;
      few = omega arith;
      used = omega arith;
      one = one;
      long = rw (e0, len) u.long;
      count = omega arith;
      limit = omega arith;
    } in
    record {
      settled = record { sound = sound; some = d.some; spare = λ b h. omega (arith, d.few b h); total = d.many ∙ sym e1 };
      limit = e5;
      first = head 2 (omega arith) (λ z. omega arith);
      last = head 3 (omega arith) (λ z. omega arith);
      starts = d.starts ∙ g.starts;
      tags = d.tags ∙ g.tags;
    }

pub sizes_none : (m : List ℕ) → sizes 0 0 m ≡ 0
unfolding sizes
sizes_none m = refl
