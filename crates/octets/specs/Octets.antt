-- Numbers in bytes, the least part first: a byte list is read as a row of words of eight bytes. And a check of a row of words.
use Rattle.std.specs.Prelude.{◌≡◌, ℕ, zero, suc, ◌+◌, ◌*◌, ◌%◌, ◌^◌, ◌<◌, ◌≤◌, ◌⊎◌, List, length, slice_index}

-- the number in the two bytes from k on, in four, in eight: the lower half stands first
unfoldable pub two : List ℕ → ℕ → ℕ
two bs k = slice_index bs k + 256 * slice_index bs (k + 1)

unfoldable pub four : List ℕ → ℕ → ℕ
unfolding two
four bs k = two bs k + 65536 * two bs (k + 2)

unfoldable pub eight : List ℕ → ℕ → ℕ
unfolding four
eight bs k = four bs k + 2 ^ 32 * four bs (k + 4)

-- word i of the bytes
unfoldable pub word : List ℕ → ℕ → ℕ
unfolding eight
word bs i = eight bs (8 * i)

-- the check of the first n of the words w: three times the check so far and the next word, modulo 2^64
unfoldable pub check : (ℕ → ℕ) → ℕ → ℕ
check w zero = 0
check w (suc n) = (3 * check w n + w n) % 2 ^ 64

-- each is a byte
abbrev pub Bytes : List ℕ → Type 0
Bytes bs = (k : ℕ) → slice_index bs k < 256

-- what `get` answers: word i, where the bytes have it
abbrev pub Gets : List ℕ → ℕ → ℕ → Type 0
Gets bs i r = 8 * i + 8 ≤ length bs → r ≡ word bs i

-- what `put` does: word i is now x and no other byte is changed; nothing is changed where the bytes have no word i
pub record Puts (bs : List ℕ) (i x : ℕ) (bs' : List ℕ) : Type 0 where
  pub long : length bs' ≡ length bs
  pub says : 8 * i + 8 ≤ length bs → word bs' i ≡ x
  pub other : (j : ℕ) → (j < 8 * i) ⊎ (8 * i + 8 ≤ j) → slice_index bs' j ≡ slice_index bs j
  pub none : (8 * i + 8 ≤ length bs → ⊥) → bs' ≡ bs

-- what `check` answers: the check of the first n words, where the bytes have them
abbrev pub Checks : List ℕ → ℕ → ℕ → Type 0
Checks bs n r = 8 * n ≤ length bs → r ≡ check (word bs) n
