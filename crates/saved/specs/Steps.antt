-- What the private steps of `save` do: m is the allocator's block, bs are the bytes before, bs' after.
use Rattle.std.specs.Prelude.{◌≡◌, ℕ, ◌+◌, ◌*◌, ◌%◌, ◌^◌, ◌<◌, ◌≤◌, ◌⊎◌, List, length, slice_index, Option, Some, None}
use Rattle.octets.specs.Octets.{word}
use Rattle.table.specs.Tiles.{Has}
use Rattle.addresses.specs.Meaning.{row_of}
use Rattle.addresses.specs.Operations.{Pool}
use Rattle.addresses.specs.Held.{Holds}
use Rattle.addresses.specs.Contract.{Says}
use Rattle.saved.specs.Format.{Tiles}

-- how many ranges the pool that the block holds has; or that it holds none
abbrev pub Numbers : List ℕ → Option ℕ → Type 0
Numbers m (Some n) = (n ≤ 4096) × Says m (λ p. length (row_of p.state)) n
Numbers m None = (p : Pool) → Holds m p → ⊥

-- what stands at the address a is written as range i, and r is the address past it
pub record Took (m : List ℕ) (a i r : ℕ) (bs' : List ℕ) : Type 0 where
  pub start : ℕ
  pub end : ℕ
  pub tag : ℕ
  pub stands : (p : Pool) → Holds m p → Has p.state.top a start end tag (row_of p.state)
  pub past : r ≡ (end + 1) % 2 ^ 64
  pub one : word bs' (7 + 2 * i) ≡ start
  pub two : word bs' (8 + 2 * i) ≡ tag

-- what is before range i, and what is behind it, is as it was; it is written, or no pool that the block holds has the address
pub record Carries (m bs : List ℕ) (a i r : ℕ) (bs' : List ℕ) : Type 0 where
  pub long : length bs' ≡ length bs
  pub front : (j : ℕ) → j < 7 + 2 * i → word bs' j ≡ word bs j
  pub behind : (j : ℕ) → 72 + 16 * i ≤ j → slice_index bs' j ≡ slice_index bs j
  pub took : Took m a i r bs' ⊎ ((p : Pool) → Holds m p → p.state.base ≤ a → a < p.state.top → ⊥)

-- the n ranges from base on are written from word 7 on, and what is behind them is as it was
pub record Rows (m bs : List ℕ) (base n : ℕ) (bs' : List ℕ) : Type 0 where
  pub long : length bs' ≡ length bs
  pub behind : (j : ℕ) → 64 + 16 * n ≤ j → slice_index bs' j ≡ slice_index bs j
  pub row : (p : Pool) → Holds m p → base ≡ p.state.base → n ≡ length (row_of p.state) → Tiles (word bs') 7 (row_of p.state)
