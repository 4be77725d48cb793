-- What the private step of `ask` answers.
use Rattle.std.specs.Prelude.{ℕ, ◌+◌, ◌-◌, ◌^◌, ◌≤◌, max, ◌≡◌, Result, Ok, Err}
use Rattle.ranges.specs.declared.Error.{Error}
use Rattle.left.specs.declared.Left.{Left}

-- the two numbers f and l once the range from a to e with the tag g is passed, where they were `free` and `largest` before
pub record Passed (free largest a e g f l : ℕ) : Type 0 where
  pub range : a ≤ e
  pub of_free : g ≡ 0 → (f ≡ free + (e - a + 1)) × (l ≡ max largest (e - a + 1))
  pub of_held : (g ≡ 0 → ⊥) → (f ≡ free) × (l ≡ largest)

-- what `pass` answers: refused is what is no range, and a sum past 2^64 - 1
abbrev pub Passes : ℕ → ℕ → ℕ → ℕ → ℕ → Result Left Error → Type 0
Passes free largest a e g (Ok l) = Passed free largest a e g l.free l.largest
Passes free largest a e g (Err x) = (x ≡ Error.NoState) × (a ≤ e → (g ≡ 0) × (2 ^ 64 ≤ free + (e - a + 1)))
