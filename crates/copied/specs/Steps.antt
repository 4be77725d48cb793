-- What the private steps of a copy do: m is the source, n the copy before the step, n' after.
use Rattle.std.specs.Prelude.{◌≡◌, ℕ, ◌+◌, ◌-◌, ◌%◌, ◌^◌, ◌<◌, ◌≤◌, ◌⊎◌, List, [], length, ◌≢◌, Option, Some, None}
use Rattle.ranges.specs.declared.AllocPolicy.TheVariants.{ExactMatch}
use Rattle.table.specs.Tiles.{Has}
use Rattle.addresses.specs.declared.Answer.{Answer}
use Rattle.addresses.specs.Meaning.{row_of}
use Rattle.addresses.specs.Operations.{Pool}
use Rattle.addresses.specs.Held.{Holds}
use Rattle.addresses.specs.Contract.{Performs, asking}
use Rattle.copied.specs.Copy.{limited}
use Rattle.copied.specs.declared.Extent.{Extent}

-- the range from s to e was asked for, just so
abbrev pub Placed : List ℕ → ℕ → ℕ → List ℕ → Type 0
Placed n s e n' = (x : Answer) × Performs n (asking ((e - s + 1) % 2 ^ 64) 1 (ExactMatch s)) x n'

-- the range from a to e was asked for where its tag g says that it is granted
abbrev pub Carried : List ℕ → ℕ → ℕ → ℕ → List ℕ → Type 0
Carried n a e g n' = ((g ≡ 0) × (n' ≡ n)) ⊎ ((g ≢ 0) × Placed n a e n')

-- what stands at a in the source, which ends at e and has the tag g, was taken over, and r is the address past it
pub record Took (m n : List ℕ) (a r : ℕ) (n' : List ℕ) : Type 0 where
  pub start : ℕ
  pub end : ℕ
  pub tag : ℕ
  pub stands : (p : Pool) → Holds m p → Has p.state.top a start end tag (row_of p.state)
  pub past : r ≡ (end + 1) % 2 ^ 64
  pub done : Carried n a end tag n'

-- or no pool that the source holds has the address a
abbrev pub Carries : List ℕ → List ℕ → ℕ → ℕ → List ℕ → Type 0
Carries m n a r n' = Took m n a r n' ⊎ ((n' ≡ n) × ((p : Pool) → Holds m p → p.state.base ≤ a → a < p.state.top → ⊥))

-- with nothing granted
abbrev pub empty : Pool → Pool
empty p = record { state = record { base = p.state.base; top = p.state.top; granted = [] }; limit = p.limit }

-- the copy holds a pool if it held one; and the source's with a limit, if that is enough and it held that one with nothing granted
pub record Fills (m n : List ℕ) (base count : ℕ) (n' : List ℕ) : Type 0 where
  pub some : (q : Pool) → Holds n q → (r : Pool) × Holds n' r
  pub all : (p : Pool) (limit : ℕ) → Holds m p → base ≡ p.state.base → count ≡ length (row_of p.state) → p.limit ≤ limit → Holds n (empty (limited p limit)) → Holds n' (limited p limit)

-- a pool of these numbers can be made, and they are those of any pool that the source holds
pub record Measured (m : List ℕ) (base size count : ℕ) : Type 0 where
  pub some : 0 < size
  pub below : base + size ≤ 2 ^ 64
  pub within : size < 2 ^ 64
  pub first : (p : Pool) → Holds m p → base ≡ p.state.base
  pub behind : (p : Pool) → Holds m p → base + size ≡ p.state.top
  pub all : (p : Pool) → Holds m p → count ≡ length (row_of p.state)

abbrev pub Measures : List ℕ → Option Extent → Type 0
Measures m (Some x) = Measured m x.base x.size x.count
Measures m None = (p : Pool) → Holds m p → ⊥
