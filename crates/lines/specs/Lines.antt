-- The lines that are no operation: what each takes behind its first word. And what follows a field, for every kind of line.
use Rattle.std.specs.Prelude.{cond, List, ℕ, ltb, Some, None, Result, Ok, Err}
use Rattle.text.specs.Words.{start_of, end_of, no_word, word_is}
use Rattle.ranges.specs.declared.AllocPolicy.{AllocPolicy}
use Rattle.vocabulary.specs.Spelling.{word_text}
use Rattle.vocabulary.specs.declared.Word.{Word}
use Rattle.fields.specs.Fields.{wrong, name_at, number_at, id_at}
use Rattle.fields.specs.declared.Name.{Name}
use Rattle.fields.specs.declared.Flaw.{Flaw}
use Rattle.fields.specs.declared.Wrong.{Wrong}
use Rattle.claims.specs.declared.Claim.{Claim}
use Rattle.lines.specs.declared.Line.{Line}

-- what follows a field, which is given the field and the place behind it; or what is wrong with the field
abbrev pub on_name : Result (Name × ℕ) Wrong → (Name → ℕ → Result Line Wrong) → Result Line Wrong
on_name (Ok t) f = f t.0 t.1
on_name (Err w) f = Err w

abbrev pub on_number : Result (ℕ × ℕ) Wrong → (ℕ → ℕ → Result Line Wrong) → Result Line Wrong
on_number (Ok t) f = f t.0 t.1
on_number (Err w) f = Err w

abbrev pub on_id : Result (ℕ × ℕ) Wrong → (ℕ → ℕ → Result Line Wrong) → Result Line Wrong
on_id (Ok t) f = f t.0 t.1
on_id (Err w) f = Err w

abbrev pub on_window : Result (ℕ × ℕ × ℕ) Wrong → (ℕ → ℕ → ℕ → Result Line Wrong) → Result Line Wrong
on_window (Ok t) f = f t.0 t.1 t.2
on_window (Err w) f = Err w

abbrev pub on_policy : Result (AllocPolicy × ℕ) Wrong → (AllocPolicy → ℕ → Result Line Wrong) → Result Line Wrong
on_policy (Ok t) f = f t.0 t.1
on_policy (Err w) f = Err w

abbrev pub on_claim : Result Claim Wrong → (Claim → Result Line Wrong) → Result Line Wrong
on_claim (Ok c) f = f c
on_claim (Err w) f = Err w

-- the operation, where nothing stands behind it
unfoldable pub ended_at : List ℕ → ℕ → Line → Result Line Wrong
ended_at s at l = cond (no_word s at) (Ok l) (Err (wrong Flaw.LeftOver (start_of s at)))

-- `limit` N or nothing, behind a pool's name, base and size
unfoldable pub limit_at : List ℕ → Name → ℕ → ℕ → ℕ → Result Line Wrong
limit_at s name base size at =
    cond (word_is s at (word_text Word.Limit))
    (on_number (number_at s (end_of s at)) (λ n i. ended_at s i (Line.Pool name base size (Some n))))
    (ended_at s at (Line.Pool name base size None))

-- `pool` NAME BASE SIZE
unfoldable pub pool_at : List ℕ → ℕ → Result Line Wrong
pool_at s at =
    on_name (name_at s at) (λ name i. on_number (number_at s i) (λ base j. on_number (number_at s j) (λ size k. limit_at s name base size k)))

-- `ids` NAME LOW HIGH
unfoldable pub ids_at : List ℕ → ℕ → Result Line Wrong
ids_at s at =
    on_name (name_at s at) (λ name i. on_id (id_at s i) (λ low j. on_id (id_at s j) (λ high k. ended_at s k (Line.Ids name low high))))

-- `show` NAME
unfoldable pub show_at : List ℕ → ℕ → Result Line Wrong
show_at s at = on_name (name_at s at) (λ name i. ended_at s i (Line.Show name))

-- `together` 2 or 3
unfoldable pub together_at : List ℕ → ℕ → Result Line Wrong
together_at s at =
    on_number (number_at s at) (λ n i.
    cond (ltb n 2) (Err (wrong Flaw.CountExpected (start_of s at)))
    (cond (ltb 3 n) (Err (wrong Flaw.CountExpected (start_of s at))) (ended_at s i (Line.Together n))))

-- what a line that is no operation says: its first word decides
unfoldable pub other_of : List ℕ → Result Line Wrong
other_of s =
    cond (word_is s 0 (word_text Word.Pool)) (pool_at s (end_of s 0))
    (cond (word_is s 0 (word_text Word.Ids)) (ids_at s (end_of s 0))
    (cond (word_is s 0 (word_text Word.Show)) (show_at s (end_of s 0))
    (cond (word_is s 0 (word_text Word.Together)) (together_at s (end_of s 0))
    (Err (wrong Flaw.UnknownWord (start_of s 0))))))
