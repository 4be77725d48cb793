-- A rule of places: which addresses a range may start at, and the two functions that the searches compute with. What is proved of the searches holds for each rule.
-- A new rule is a file with one such record: see Multiples, Offsets, Boundaries.
use Rattle.std.proofs.Common.{◌≡◌, ℕ, ◌≤◌, ◌↔◌, subst, arith}
use mathlib.Core.Option.{Option, none, some}
use Rattle.addresses.specs.Meaning.{Least, Greatest}

-- what a search for the best number that has P may answer: that number, or nothing where no number has P
unfoldable pub Answers : ((ℕ → Type 0) → ℕ → Type 0) → (ℕ → Type 0) → Option ℕ → Type 0
Answers Best P (some a) = Best P a
Answers Best P none = (a : ℕ) → P a → ⊥

pub record Rule : Type 1 where
  -- a range may start at a
  pub Ok : ℕ → Type 0
  -- the first allowed start from x on, and the last one up to x, or none
  pub least : ℕ → ℕ
  pub greatest : ℕ → Option ℕ
  -- they are that
  pub least_right : (x : ℕ) → Least (λ a. Ok a × (x ≤ a)) (least x)
  pub greatest_right : (x : ℕ) → Answers Greatest (λ a. Ok a × (a ≤ x)) (greatest x)

-- so an address that is asked for is allowed just where it is the first from itself on
pub ok_just : (R : Rule) (a : ℕ) → R.Ok a ↔ (R.least a ≡ a)
unfolding Least
ok_just R a =
    let w = R.least_right a in
    (λ k. omega (arith, w.0.1, w.1 a (k, omega arith)), λ e. subst R.Ok e w.0.0)
