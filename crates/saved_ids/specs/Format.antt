-- How an id allocator is saved in bytes (docs/FORMAT.md has an example byte by byte).
use Rattle.std.specs.Prelude.{ℕ, zero, suc, ◌+◌, ◌-◌, ◌*◌, ◌≤◌, ◌<◌, ◌≡◌, Bool, false, cond, List}
use Rattle.octets.specs.Octets.{word}
use Rattle.frame.specs.Frame.{Frame}
use Rattle.ids.specs.State.{State}

-- the kind: the eight letters RKsavedI
abbrev pub kind : ℕ
kind = 0x4964_6576_6173_4b52

-- the ids that were granted and are free now are the k words from word 7 on, the lowest first
pub record Freed (s : State) (w : ℕ → ℕ) (k : ℕ) : Type 0 where
  pub rising : (i : ℕ) → i + 1 < k → w (7 + i) < w (8 + i)
  pub only : (i : ℕ) → i < k → (s.low ≤ w (7 + i)) × (w (7 + i) < s.next) × (s.granted (w (7 + i)) ≡ false)
  pub all : (j : ℕ) → s.low ≤ j → j < s.next → s.granted j ≡ false → (i : ℕ) × (i < k) × (w (7 + i) ≡ j)

-- the bytes begin with the state s: a frame with its interval and the next new id, around the k freed ids in order
pub record Message (bs : List ℕ) (s : State) (k : ℕ) : Type 0 where
  pub frame : Frame kind s.low s.high s.next k bs
  pub freed : Freed s (word bs) k

-- how many of the n ids from low on are not granted
unfoldable pub unheld : (ℕ → Bool) → ℕ → ℕ → ℕ
unheld g low zero = 0
unheld g low (suc n) = unheld g low n + cond (g (low + n)) 0 1

-- how many were granted and are free now, and how many bytes the state takes
abbrev pub freed_of : State → ℕ
freed_of s = unheld s.granted s.low (s.next - s.low)

abbrev pub size : State → ℕ
size s = 64 + 8 * freed_of s
