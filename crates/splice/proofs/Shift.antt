-- What `widen` and `narrow` have made of lent words in the middle of their loops, word by word. Assumes nothing.
use Prim.Native.Nat.{ℕ, ◌+◌, ◌-◌, ◌≤◌, ◌<◌}
use mathlib.Core.Path.{◌≡◌, refl, ◌∙◌}
use mathlib.Core.List.{List}
use native.Mathlib.Decide.{ℕ_discrete, dec_lt}
use native.Mathlib.Omega.{arith}
use lib.ListN.{length, get_or, set}
use lib.Seq.{get_or-set_other}
use Rattle.spread.proofs.Agree.{two_length, two_other, two_first, two_second}
use Rattle.splice.specs.Splice.{Widened, Narrowed}

module _ (m : List ℕ) (p n by : ℕ) (fits : n + by ≤ 64) (long : p + 128 ≤ length m) where
  pub widened_none : Widened m m p n n by
  widened_none = record { len = refl; starts = λ k a b. absurd (omega arith); tags = λ k a b. absurd (omega arith); below = λ j a. refl; between = λ j a b. refl; above = λ j a. refl }

  -- a turn at range k
  widened_more : (x : List ℕ) (k : ℕ) → k < n → Widened m x p n (k + 1) by → Widened m (set (set x (p + k + by) (get_or x (p + k) 0)) (p + 64 + k + by) (get_or (set x (p + k + by) (get_or x (p + k) 0)) (p + 64 + k) 0)) p n k by
  widened_more x k h o =
      let l = o.len in
      let u : ℕ = get_or x (p + k) 0 in
      let v : ℕ = get_or (set x (p + k + by) u) (p + 64 + k) 0 in
      let eu : u ≡ get_or m (p + k) 0 = o.below (p + k) (omega arith) in
      let ev : v ≡ get_or m (p + 64 + k) 0 = get_or-set_other x (p + k + by) (p + 64 + k) u 0 (λ z. omega arith) ∙ read o in
      record {
        len = two_length x (p + k + by) u (p + 64 + k + by) v ∙ l;
        starts = λ j a b. elim (ℕ_discrete j k) [
          | yes z ↦ rw z (two_first x (p + k + by) u (p + 64 + k + by) v (omega arith) (λ y. omega arith) ∙ eu)
          | no z ↦ two_other x (p + k + by) u (p + 64 + k + by) v (p + j + by) (λ y. z (omega arith)) (λ y. omega arith) ∙ o.starts j (omega arith) b
        ];
        tags = λ j a b. elim (ℕ_discrete j k) [
          | yes z ↦ rw z (two_second x (p + k + by) u (p + 64 + k + by) v (omega arith) ∙ ev)
          | no z ↦ two_other x (p + k + by) u (p + 64 + k + by) v (p + 64 + j + by) (λ y. omega arith) (λ y. z (omega arith)) ∙ o.tags j (omega arith) b
        ];
        below = λ j a. two_other x (p + k + by) u (p + 64 + k + by) v j (λ y. omega arith) (λ y. omega arith) ∙ o.below j (omega arith);
        between = λ j a b. two_other x (p + k + by) u (p + 64 + k + by) v j (λ y. omega arith) (λ y. omega arith) ∙ o.between j a (omega arith);
        above = λ j a. two_other x (p + k + by) u (p + 64 + k + by) v j (λ y. omega arith) (λ y. omega arith) ∙ o.above j a;
      }
    where
      read : Widened m x p n (k + 1) by → get_or x (p + 64 + k) 0 ≡ get_or m (p + 64 + k) 0
      read o = elim (dec_lt (p + 64 + k) (p + n + by)) [ yes z ↦ absurd (omega arith) | no z ↦ o.between (p + 64 + k) (omega arith) (omega arith) ]

  -- the same in the loop's terms
  pub widened_turn : (x : List ℕ) (k : ℕ) → 0 < k → k ≤ n → Widened m x p n k by → Widened m (set (set x (p + (k - 1) + by) (get_or x (p + (k - 1)) 0)) (p + 64 + (k - 1) + by) (get_or (set x (p + (k - 1) + by) (get_or x (p + (k - 1)) 0)) (p + 64 + (k - 1)) 0)) p n (k - 1) by
  widened_turn x k h l o = let z : k - 1 + 1 ≡ k = omega arith in widened_more x (k - 1) (omega arith) (rw z o)

module _ (m : List ℕ) (p i by : ℕ) (long : p + 128 ≤ length m) where
  pub narrowed_none : Narrowed m m p i i by
  narrowed_none = record { len = refl; starts = λ k a b. absurd (omega arith); tags = λ k a b. absurd (omega arith); below = λ j a. refl; between = λ j a b. refl; above = λ j a. refl }

  -- a turn at range k
  pub narrowed_turn : (x : List ℕ) (k : ℕ) → i ≤ k → k + by < 64 → Narrowed m x p k i by → Narrowed m (set (set x (p + k) (get_or x (p + k + by) 0)) (p + 64 + k) (get_or (set x (p + k) (get_or x (p + k + by) 0)) (p + 64 + k + by) 0)) p (k + 1) i by
  narrowed_turn x k h f o =
      let l = o.len in
      let u : ℕ = get_or x (p + k + by) 0 in
      let v : ℕ = get_or (set x (p + k) u) (p + 64 + k + by) 0 in
      let eu : u ≡ get_or m (p + k + by) 0 = o.between (p + k + by) (omega arith) (omega arith) in
      let ev : v ≡ get_or m (p + 64 + k + by) 0 = get_or-set_other x (p + k) (p + 64 + k + by) u 0 (λ z. omega arith) ∙ o.above (p + 64 + k + by) (omega arith) in
      record {
        len = two_length x (p + k) u (p + 64 + k) v ∙ l;
        starts = λ j a b. elim (ℕ_discrete j k) [
          | yes z ↦ rw z (two_first x (p + k) u (p + 64 + k) v (omega arith) (λ y. omega arith) ∙ eu)
          | no z ↦ two_other x (p + k) u (p + 64 + k) v (p + j) (λ y. z (omega arith)) (λ y. omega arith) ∙ o.starts j a (omega arith)
        ];
        tags = λ j a b. elim (ℕ_discrete j k) [
          | yes z ↦ rw z (two_second x (p + k) u (p + 64 + k) v (omega arith) ∙ ev)
          | no z ↦ two_other x (p + k) u (p + 64 + k) v (p + 64 + j) (λ y. omega arith) (λ y. z (omega arith)) ∙ o.tags j a (omega arith)
        ];
        below = λ j a. two_other x (p + k) u (p + 64 + k) v j (λ y. omega arith) (λ y. omega arith) ∙ o.below j a;
        between = λ j a b. two_other x (p + k) u (p + 64 + k) v j (λ y. omega arith) (λ y. omega arith) ∙ o.between j (omega arith) b;
        above = λ j a. two_other x (p + k) u (p + 64 + k) v j (λ y. omega arith) (λ y. omega arith) ∙ o.above j (omega arith);
      }
