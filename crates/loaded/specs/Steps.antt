-- What the private steps of `load` test and do. w are the words of the bytes.
use Rattle.std.specs.Prelude.{◌≡◌, ℕ, ◌+◌, ◌-◌, ◌*◌, ◌%◌, ◌^◌, ◌<◌, ◌≤◌, List, [], length, ◌≢◌, Result, Ok, Err}
use Rattle.ranges.specs.declared.AllocPolicy.TheVariants.{ExactMatch}
use Rattle.addresses.specs.declared.Answer.{Answer}
use Rattle.addresses.specs.Meaning.{row_of}
use Rattle.addresses.specs.Operations.{Pool}
use Rattle.addresses.specs.Runs.{Valid}
use Rattle.addresses.specs.Held.{Holds}
use Rattle.addresses.specs.Contract.{Performs, asking}
use Rattle.frame.specs.declared.Fault.{Fault}
use Rattle.saved.specs.Format.{Tiles}
use Rattle.loaded.specs.Misfits.{Misfit}

-- the range at word k and the next one: it starts lower, and one of the two is granted
pub record Pair (w : ℕ → ℕ) (k : ℕ) : Type 0 where
  pub rising : w k < w (k + 2)
  pub apart : w (k + 1) ≡ 0 → w (k + 3) ≢ 0

-- the range at word k, with `more` ranges behind it, is as it is to be in a pool up to the address `last`
pub record Good (w : ℕ → ℕ) (last k more : ℕ) : Type 0 where
  pub state : w (k + 1) ≤ 1
  pub inside : w k ≤ last
  pub pair : 0 < more → Pair w k

-- all of the n ranges from word k on are so
abbrev pub AllGood : (ℕ → ℕ) → ℕ → ℕ → ℕ → Type 0
AllGood w last k n = (i more : ℕ) → i + more + 1 ≡ n → Good w last (k + 2 * i) more

-- the numbers and the words are a pool's
pub record Sensible (w : ℕ → ℕ) (base last limit words : ℕ) : Type 0 where
  pub order : base ≤ last
  pub within : last < base + (2 ^ 64 - 1)
  pub most : limit ≤ 4096
  pub count : ℕ
  pub even : words ≡ 2 * count
  pub some : 0 < count
  pub room : count ≤ limit
  pub first : w 7 ≡ base
  pub ranges : AllGood w last 7 count

-- an answer that decides P, and says why not
unfoldable pub Tests : (ℕ → ℕ) → Result (Unit {0}) Fault → Type 0 → Type 0
Tests w (Ok u) P = P
Tests w (Err f) P = (P → ⊥) × Misfit w f.flaw f.place

-- the address past range i, of n ranges up to the address `last`, modulo 2^64
pub record Ends (w : ℕ → ℕ) (last n i r : ℕ) : Type 0 where
  pub inner : i + 1 < n → r ≡ w (9 + 2 * i)
  pub outer : n ≤ i + 1 → r ≡ (last + 1) % 2 ^ 64

-- range i is asked for where it is granted: the addresses from its first up to the address e, modulo 2^64
pub record Places (w : ℕ → ℕ) (last n i : ℕ) (m m' : List ℕ) : Type 0 where
  pub free : w (8 + 2 * i) ≡ 0 → m' ≡ m
  pub granted : (w (8 + 2 * i) ≢ 0) → (size e : ℕ) × (size < 2 ^ 64) × Ends w last n i e × ((size + w (7 + 2 * i)) % 2 ^ 64 ≡ e) × (x : Answer) × Performs m (asking size 1 (ExactMatch (w (7 + 2 * i)))) x m'

-- the pool p with nothing granted
abbrev pub empty : Pool → Pool
empty p = record { state = record { base = p.state.base; top = p.state.top; granted = [] }; limit = p.limit }

-- a block that held a pool of these ranges with nothing granted holds it now
abbrev pub Fills : (ℕ → ℕ) → ℕ → ℕ → List ℕ → List ℕ → Type 0
Fills w last n m m' = (p : Pool) → Valid p → Tiles w 7 (row_of p.state) → n ≡ length (row_of p.state) → last + 1 ≡ p.state.top → Holds m (empty p) → Holds m' p
