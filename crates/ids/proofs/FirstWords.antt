-- A block's state lies in as many words as its interval needs: a block that starts with the same words holds the same state.
--     holds_words     the theorem; for copies of a block
-- Assumes nothing.
use mathlib.Core.Path.{◌≡◌, refl, sym, ap, ◌∙◌, subst}
use mathlib.Core.Logic.{inl, inr}
use mathlib.Core.List.{List}
use Prim.Native.Nat.{ℕ, zero, suc, ◌+◌, ◌-◌, ◌/◌, ◌%◌, ◌≤◌, ◌<◌}
use native.Mathlib.Omega.{arith}
use lib.ListN.{length, get_or, drop, length-drop}
use lib.Seq.{get_or-drop}
use Rattle.bits.specs.Bits.{bit, digit, Summed, Words}
use Rattle.bits.specs.Bits.Words.{one, more}
use Rattle.bits.proofs.Levels.{bit_in}
use Rattle.bits.proofs.Rooms.{words_unique, words_level}
use Rattle.ids.specs.State.{State}
use Rattle.ids.specs.Layout.{Headed, Holds, Needs}

-- the first k words are the same
abbrev pub Begins : ℕ → List ℕ → List ℕ → Type 0
Begins k ws vs = (i : ℕ) → i < k → get_or vs i 0 ≡ get_or ws i 0

-- so are the bits in them
same_bit : (k : ℕ) (ws vs : List ℕ) → Begins k ws vs → (j : ℕ) → j / 64 < k → bit vs j ≡ bit ws j
unfolding digit
same_bit k ws vs b j l = bit_in vs j (j / 64) refl ∙ ap (λ (w : ℕ). digit w (j % 64)) (b (j / 64) l) ∙ sym (bit_in ws j (j / 64) refl)

-- and the words behind some of them
begins_drop : (a k : ℕ) (ws vs : List ℕ) → Begins (a + k) ws vs → Begins k (drop a ws) (drop a vs)
begins_drop a k ws vs b i l = get_or-drop a vs i 0 ∙ b (a + i) (omega arith) ∙ sym (get_or-drop a ws i 0)

-- summaries that agree are in the words that they need
same_summed : {last k : ℕ} → Words last k → (d : ℕ) (ws vs : List ℕ) → Begins k ws vs → k ≤ length vs → Summed d ws last → Summed d vs last
unfolding Summed
same_summed (one h) zero ws vs b r s = (s.0, omega arith)
same_summed (one h) (suc d) ws vs b r s = absurd (omega (arith, s.0))
same_summed (more h w) zero ws vs b r s = absurd (omega (arith, s.0))
same_summed (more {last} {n} h w) (suc d) ws vs b r s =
    let a : ℕ = last / 64 + 1 in
    let tail : Begins n (drop a ws) (drop a vs) = begins_drop a n ws vs b in
    let level : (i : ℕ) → i ≤ last / 64 → bit (drop a vs) i ≡ bit (drop a ws) i = λ i l. same_bit n (drop a ws) (drop a vs) tail i (omega (arith, words_level w)) in (
      s.0,
      omega arith,
      (λ i l e. level i l ∙ s.2 i l (sym (b i (omega arith)) ∙ e)),
      (λ i l e. b i (omega arith) ∙ s.3 i l (sym (level i l) ∙ e)),
      same_summed w d (drop a ws) (drop a vs) tail (omega (arith, length-drop a vs)) s.4,
    )

pub holds_words : (ws vs : List ℕ) (s : State) (k : ℕ) → Holds ws s → Needs s.low s.high k → k ≤ length vs → Begins k ws vs → Holds vs s
unfolding Holds Needs
holds_words ws vs s k h (inr z) r b = absurd (omega (arith, h.head.ordered, z.0))
holds_words ws vs s k h (inl z) r b =
    let n : ℕ = z.1.0 in
    let w : Words (s.high - s.low) n = z.1.1 in
    let all : Begins (4 + n) ws vs = subst (λ (y : ℕ). Begins y ws vs) z.1.2 b in
    let tail : Begins n (drop 4 ws) (drop 4 vs) = begins_drop 4 n ws vs all in
    let long : 4 + n ≤ length vs = omega (arith, z.1.2) in
    let e : Headed (get_or ws 0 0) s.low s.high (length ws - 4) = h.head in
    record {
      long = omega arith;
      head = record { marked = all 0 (omega arith) ∙ e.marked; ordered = e.ordered; small = e.small; words = n; taken = w; enough = omega arith };
      low = all 1 (omega arith) ∙ h.low;
      high = all 2 (omega arith) ∙ h.high;
      next = all 3 (omega arith) ∙ h.next;
      levels = h.levels;
      summed = same_summed w h.levels (drop 4 ws) (drop 4 vs) tail (omega (arith, length-drop 4 vs)) h.summed;
      bits = λ j l. same_bit n (drop 4 ws) (drop 4 vs) tail j (omega (arith, words_level w)) ∙ h.bits j l;
    }

-- a block that holds a state is as long as its interval needs
pub holds_long : (ws : List ℕ) (s : State) (k : ℕ) → Holds ws s → Needs s.low s.high k → k ≤ length ws
unfolding Holds Needs
holds_long ws s k h (inr z) = omega arith
holds_long ws s k h (inl z) = omega (arith, h.long, h.head.enough, words_unique h.head.taken z.1.1, z.1.2)
