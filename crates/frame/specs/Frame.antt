-- The frame of a saved allocator: what stands around its words. All of it is words of eight bytes.
use Rattle.std.specs.Prelude.{ℕ, ◌+◌, ◌*◌, ◌≤◌, ◌<◌, ◌≡◌, ◌⊎◌, List, length, get_or, Result, Ok, Err}
use Rattle.octets.specs.Octets.{word, check}
use Rattle.frame.specs.declared.Flaw.{Flaw}
use Rattle.frame.specs.declared.Flaw.TheVariants.{Short, Kind, Version, Check, Bounds, Limit, Count, State, Order, Outside, Touching}
use Rattle.frame.specs.declared.Opened.{Opened}
use Rattle.frame.specs.declared.Fault.{Fault}

-- the bytes begin with a frame of the kind k, with the numbers a, b and c, around n words, which are words 7 to 6 + n
pub record Frame (k a b c n : ℕ) (bs : List ℕ) : Type 0 where
  pub long : 8 * (8 + n) ≤ length bs
  pub kind : word bs 0 ≡ k
  pub version : word bs 1 ≡ 1
  pub first : word bs 2 ≡ a
  pub second : word bs 3 ≡ b
  pub third : word bs 4 ≡ c
  pub count : word bs 5 ≡ n
  -- the check of the head, by which its length is known, and that of all before the last word
  pub head : word bs 6 ≡ check (word bs) 6
  pub last : word bs (7 + n) ≡ check (word bs) (7 + n)

-- what is wrong with bytes that begin with no frame of the kind k, and at which byte
unfoldable pub Flawed : List ℕ → ℕ → Flaw → ℕ → Type 0
Flawed bs k Short at = (at ≡ length bs) × ((length bs < 64) ⊎ (length bs < 64 + 8 * word bs 5))
Flawed bs k Kind at = (at ≡ 0) × (word bs 0 ≡ k → ⊥)
Flawed bs k Version at = (at ≡ 8) × (word bs 1 ≡ 1 → ⊥)
Flawed bs k Check at = (i : ℕ) × (at ≡ 8 * i) × ((i ≡ 6) ⊎ (i ≡ 7 + word bs 5)) × (word bs i ≡ check (word bs) i → ⊥)
-- the other flaws are not a frame's
Flawed bs k Bounds at = ⊥
Flawed bs k Limit at = ⊥
Flawed bs k Count at = ⊥
Flawed bs k State at = ⊥
Flawed bs k Order at = ⊥
Flawed bs k Outside at = ⊥
Flawed bs k Touching at = ⊥

-- what `read` answers: the numbers of the frame of the kind k, or why there is none (`flawed_none`)
unfoldable pub Opens : List ℕ → ℕ → Result Opened Fault → Type 0
unfolding Flawed
Opens bs k (Ok o) = Frame k o.first o.second o.third o.words bs
Opens bs k (Err f) = Flawed bs k f.flaw f.place

-- what `seal` does: there is a frame around the n words, which are as they were, and so is what is behind it; or there is no room, and nothing is changed
pub record Seals (k a b c n : ℕ) (bs bs' : List ℕ) : Type 0 where
  pub long : length bs' ≡ length bs
  pub made : 8 * (8 + n) ≤ length bs → Frame k a b c n bs'
  pub words : (i : ℕ) → 7 ≤ i → i < 7 + n → word bs' i ≡ word bs i
  pub behind : (j : ℕ) → 8 * (8 + n) ≤ j → get_or bs' j 0 ≡ get_or bs j 0
  pub none : (8 * (8 + n) ≤ length bs → ⊥) → bs' ≡ bs
