-- The operations of the language, behind the word that names each, and what a line says.
use Rattle.std.specs.Prelude.{cond, List, ℕ, ltb, length, Result, Ok, Err}
use Rattle.text.specs.Words.{start_of, end_of, no_word, word_is, dotted}
use Rattle.vocabulary.specs.Spelling.{word_text}
use Rattle.vocabulary.specs.declared.Word.{Word}
use Rattle.fields.specs.Fields.{wrong, name_at, number_at, id_at, window_at, policy_at}
use Rattle.fields.specs.declared.Name.{Name}
use Rattle.fields.specs.declared.Flaw.{Flaw}
use Rattle.fields.specs.declared.Wrong.{Wrong}
use Rattle.claims.specs.Claims.{claim_at}
use Rattle.lines.specs.Lines.{on_name, on_number, on_id, on_window, on_policy, on_claim, other_of}
use Rattle.lines.specs.declared.Line.{Line}

-- `allocate` NAME, of an id
unfoldable pub grant_at : List ℕ → Name → ℕ → Result Line Wrong
grant_at s name at = on_claim (claim_at s at) (λ c. Ok (Line.AllocateId name c))

-- a range's alignment, policy and claim
unfoldable pub aligned_at : List ℕ → Name → ℕ → ℕ → Result Line Wrong
aligned_at s name size at =
    on_number (number_at s at) (λ align i. on_policy (policy_at s i) (λ p j. on_claim (claim_at s j) (λ c. Ok (Line.Allocate name size align p c))))

-- `align`, behind a range's size
unfoldable pub range_at : List ℕ → Name → ℕ → ℕ → Result Line Wrong
range_at s name size at = cond (word_is s at (word_text Word.Align)) (aligned_at s name size (end_of s at)) (Err (wrong Flaw.AlignExpected (start_of s at)))

-- `allocate` NAME, with nothing or a claim behind it; or `allocate` NAME SIZE
unfoldable pub allocate_at : List ℕ → ℕ → Result Line Wrong
allocate_at s at =
    on_name (name_at s at) (λ name i.
    cond (no_word s i) (grant_at s name i)
    (cond (word_is s i (word_text Word.Arrow)) (grant_at s name i)
    (on_number (number_at s i) (λ size j. range_at s name size j))))

-- a window, behind `free` NAME
unfoldable pub free_window_at : List ℕ → Name → ℕ → Result Line Wrong
free_window_at s name at = on_window (window_at s at) (λ a b i. on_claim (claim_at s i) (λ c. Ok (Line.Free name a b c)))

-- an id, behind `free` NAME
unfoldable pub free_id_at : List ℕ → Name → ℕ → Result Line Wrong
free_id_at s name at = on_id (id_at s at) (λ n i. on_claim (claim_at s i) (λ c. Ok (Line.FreeId name n c)))

-- `free` NAME, and a window where the word has a dot, an id otherwise
unfoldable pub free_at : List ℕ → ℕ → Result Line Wrong
free_at s at = on_name (name_at s at) (λ name i. cond (dotted s i) (free_window_at s name i) (free_id_at s name i))

-- an id, behind `in-use` NAME
unfoldable pub asked_at : List ℕ → Name → ℕ → Result Line Wrong
asked_at s name at = on_id (id_at s at) (λ n i. on_claim (claim_at s i) (λ c. Ok (Line.InUse name n c)))

-- `in-use` NAME ID
unfoldable pub in_use_at : List ℕ → ℕ → Result Line Wrong
in_use_at s at = on_name (name_at s at) (λ name i. asked_at s name i)

-- what a line says: its first word decides
unfoldable pub line_of : List ℕ → Result Line Wrong
line_of s =
    cond (ltb 1000 (length s)) (Err (wrong Flaw.LineTooLong 1000))
    (cond (no_word s 0) (Ok Line.Blank)
    (cond (word_is s 0 (word_text Word.Allocate)) (allocate_at s (end_of s 0))
    (cond (word_is s 0 (word_text Word.Free)) (free_at s (end_of s 0))
    (cond (word_is s 0 (word_text Word.InUse)) (in_use_at s (end_of s 0))
    (other_of s)))))
