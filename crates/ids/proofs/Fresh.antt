-- A header and zeros behind it hold the fresh state; and the number of words that an interval needs is one number.
-- Assumes nothing.
use mathlib.Core.Path.{◌≡◌, refl, sym, ap, ◌∙◌, subst}
use mathlib.Core.Logic.{inl, inr}
use mathlib.Core.List.{List, ◌++◌}
use Prim.Native.Nat.{ℕ, ◌+◌, ◌-◌, ◌/◌, ◌^◌, ◌≤◌, ◌<◌}
use native.Mathlib.Omega.{arith}
use lib.ListN.{length, get_or, set, take, length-set, length-append}
use lib.Seq.{get_or-set_same, get_or-set_other, length-take-le}
use Rattle.bits.specs.Bits.{bit, Summed, Words}
use Rattle.bits.proofs.Levels.{front_kept, back_there}
use Rattle.bits.proofs.Rooms.{words_unique, words_level, zero_bit, zeros_summed}
use Rattle.ids.specs.State.{fresh}
use Rattle.ids.specs.Layout.{kind, Laid, Needs}

-- how many words an interval needs, and that one with no ids needs none
pub needs_some : {low high k : ℕ} → low ≤ high → Words (high - low) k → Needs low high (4 + k)
unfolding Needs
needs_some {k = k} h w = inl (h, (k, w, refl))

pub needs_none : {low high : ℕ} → high < low → Needs low high 0
unfolding Needs
needs_none h = inr (h, refl)

-- it is one number
pub needs_unique : (low high m n : ℕ) → Needs low high m → Needs low high n → m ≡ n
unfolding Needs
needs_unique low high m n (inl a) (inl b) = a.1.2 ∙ ap (λ (k : ℕ). 4 + k) (words_unique a.1.1 b.1.1) ∙ sym b.1.2
needs_unique low high m n (inl a) (inr b) = absurd (omega (arith, a.0, b.0))
needs_unique low high m n (inr a) (inl b) = absurd (omega (arith, a.0, b.0))
needs_unique low high m n (inr a) (inr b) = a.1 ∙ sym b.1

-- the header stored, and zeros behind it
pub laid_fresh : (ws : List ℕ) (low high n : ℕ) (zs : List ℕ) → low ≤ high → high < 2 ^ 32 → 4 ≤ length ws → Words (high - low) n
    → n ≤ length zs → ((k : ℕ) → k < n → get_or zs k 0 ≡ 0)
    → Laid (take 4 (set (set (set (set ws 0 kind) 1 low) 2 high) 3 low) ++ zs) (fresh low high)
laid_fresh ws low high n zs o b r w l z =
    let w0 : List ℕ = set ws 0 kind in
    let w1 : List ℕ = set w0 1 low in
    let w2 : List ℕ = set w1 2 high in
    let hs : List ℕ = set w2 3 low in
    let l0 : length w0 ≡ length ws = length-set ws 0 kind in
    let l1 : length w1 ≡ length ws = length-set w0 1 low ∙ l0 in
    let l2 : length w2 ≡ length ws = length-set w1 2 high ∙ l1 in
    let l3 : length hs ≡ length ws = length-set w2 3 low ∙ l2 in
    let long : 4 ≤ length hs = omega arith in
    let front : (k : ℕ) → k < 4 → get_or (take 4 hs ++ zs) k 0 ≡ get_or hs k 0 = λ k h. front_kept 4 hs zs k long h in
    let up = zeros_summed w zs l z in
    let all : length (take 4 hs ++ zs) ≡ 4 + length zs = length-append (take 4 hs) zs ∙ ap (λ (m : ℕ). m + length zs) (length-take-le 4 hs long) in
    record {
      long = omega arith;
      head =
          record {
            marked =
                front 0 (omega arith) ∙ get_or-set_other w2 3 0 low 0 (λ e. omega arith) ∙ get_or-set_other w1 2 0 high 0 (λ e. omega arith)
                ∙ get_or-set_other w0 1 0 low 0 (λ e. omega arith) ∙ get_or-set_same ws 0 kind 0 (omega arith);
            ordered = o;
            small = b;
            words = n;
            taken = w;
            enough = omega arith;
          };
      low =
          front 1 (omega arith) ∙ get_or-set_other w2 3 1 low 0 (λ e. omega arith) ∙ get_or-set_other w1 2 1 high 0 (λ e. omega arith)
          ∙ get_or-set_same w0 1 low 0 (omega arith);
      high = front 2 (omega arith) ∙ get_or-set_other w2 3 2 low 0 (λ e. omega arith) ∙ get_or-set_same w1 2 high 0 (omega arith);
      next = front 3 (omega arith) ∙ get_or-set_same w2 3 low 0 (omega arith);
      levels = up.0;
      summed = subst (λ (v : List ℕ). Summed up.0 v (high - low)) (sym (back_there 4 hs zs long)) up.1;
      bits = λ j k. ap (λ (v : List ℕ). bit v j) (back_there 4 hs zs long) ∙ zero_bit zs j (z (j / 64) (omega (arith, words_level w)));
    }
