-- The fields of a line: what stands next, with the place behind it, or what is wrong and where.
use Rattle.std.specs.Prelude.{cond, List, ℕ, ◌+◌, ◌-◌, ◌^◌, ltb, eqb, get_or, Result, Ok, Err}
use Rattle.text.specs.Words.{scan_of, start_of, end_of, no_word, word_is, between}
use Rattle.text.specs.declared.Class.TheVariants.{Named, Undotted}
use Rattle.numerals.specs.Numeral.{read}
use Rattle.numerals.specs.declared.NoNumber.{NoNumber}
use Rattle.numerals.specs.declared.NoNumber.TheVariants.{NoDigit, TooLarge}
use Rattle.ranges.specs.declared.AllocPolicy.{AllocPolicy}
use Rattle.ranges.specs.declared.AllocPolicy.TheVariants.{FirstMatch, LastMatch, ExactMatch}
use Rattle.vocabulary.specs.Spelling.{word_text}
use Rattle.vocabulary.specs.declared.Word.{Word}
use Rattle.fields.specs.declared.Flaw.{Flaw}
use Rattle.fields.specs.declared.Name.{Name}
use Rattle.fields.specs.declared.Wrong.{Wrong}

-- what is wrong, and where
abbrev pub wrong : Flaw → ℕ → Wrong
wrong w i = record { why = w; at = i }

-- a name: a word of letters, digits, `-` and `_`, of 31 bytes at most
unfoldable pub name_at : List ℕ → ℕ → Result (Name × ℕ) Wrong
name_at s at =
    let a = start_of s at in
    let e = end_of s at in
    let m = scan_of Named s a in
    cond (eqb a m) (Err (wrong Flaw.NameExpected a))
    (cond (eqb m e)
    (cond (ltb 31 (e - a)) (Err (wrong Flaw.NameTooLong a)) (Ok (record { start = a; len = e - a }, e)))
    (Err (wrong Flaw.NameExpected m)))

-- a value that was read from place a on, with e behind it
abbrev pub value_at : ℕ → ℕ → Result ℕ NoNumber → Result (ℕ × ℕ) Wrong
value_at a e (Ok n) = Ok (n, e)
value_at a e (Err (NoDigit i)) = Err (wrong Flaw.NumberExpected (a + i))
value_at a e (Err TooLarge) = Err (wrong Flaw.NumberTooLarge a)

-- the number that stands from a to e
unfoldable pub number_in : List ℕ → ℕ → ℕ → Result (ℕ × ℕ) Wrong
number_in s a e = value_at a e (read (between s a e))

-- a number: a word that is a numeral
unfoldable pub number_at : List ℕ → ℕ → Result (ℕ × ℕ) Wrong
number_at s at = number_in s (start_of s at) (end_of s at)

-- a number of 32 bits, of the word that starts at a
abbrev pub id_of : ℕ → Result (ℕ × ℕ) Wrong → Result (ℕ × ℕ) Wrong
id_of a (Ok (n, i)) = cond (ltb n (2 ^ 32)) (Ok (n, i)) (Err (wrong Flaw.NumberTooLarge a))
id_of a (Err w) = Err w

-- an id: a number of 32 bits
unfoldable pub id_at : List ℕ → ℕ → Result (ℕ × ℕ) Wrong
id_at s at = id_of (start_of s at) (number_at s at)

-- the two numbers of a window
abbrev pub pair_of : Result (ℕ × ℕ) Wrong → Result (ℕ × ℕ) Wrong → Result (ℕ × ℕ × ℕ) Wrong
pair_of (Err w) high = Err w
pair_of (Ok (a, i)) (Err w) = Err w
pair_of (Ok (a, i)) (Ok (b, j)) = Ok (a, b, j)

-- a window: two numbers with two dots between them, in one word
unfoldable pub window_at : List ℕ → ℕ → Result (ℕ × ℕ × ℕ) Wrong
window_at s at =
    let a = start_of s at in
    let e = end_of s at in
    let m = scan_of Undotted s a in
    cond (ltb e (m + 2)) (Err (wrong Flaw.WindowExpected a))
    (cond (eqb (get_or s (m + 1) 0) 46) (pair_of (number_in s a m) (number_in s (m + 2) e))
    (Err (wrong Flaw.WindowExpected m)))

-- the address behind `exact`
abbrev pub exact_of : Result (ℕ × ℕ) Wrong → Result (AllocPolicy × ℕ) Wrong
exact_of (Ok (n, i)) = Ok (ExactMatch n, i)
exact_of (Err w) = Err w

-- a policy: `first`, `last`, or `exact` and a number
unfoldable pub policy_at : List ℕ → ℕ → Result (AllocPolicy × ℕ) Wrong
policy_at s at =
    cond (word_is s at (word_text Word.First)) (Ok (FirstMatch, end_of s at))
    (cond (word_is s at (word_text Word.Last)) (Ok (LastMatch, end_of s at))
    (cond (word_is s at (word_text Word.Exact)) (exact_of (number_at s (end_of s at)))
    (Err (wrong Flaw.PolicyExpected (start_of s at)))))

-- nothing more: no word stands behind
abbrev pub end_at : List ℕ → ℕ → Result Unit Wrong
end_at s at = cond (no_word s at) (Ok tt) (Err (wrong Flaw.LeftOver (start_of s at)))
