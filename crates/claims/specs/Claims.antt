-- The claim at the end of a line: nothing; or `=>` and `freed`, `refused` with a reason, `yes`, `no`, a window, or an id.
use Rattle.std.specs.Prelude.{cond, List, ℕ, Result, Ok, Err}
use Rattle.text.specs.Words.{start_of, end_of, no_word, word_is, dotted}
use Rattle.ranges.specs.declared.Error.{Error}
use Rattle.ranges.specs.declared.Error.TheVariants.{Overflow, OutOfRange, AlreadyReleased, NeverAllocated, ResourceNotAvailable, InvalidRange, InvalidAlignment, UnalignedAddress, Underflow, InvalidSize, NoRoom, InvalidPolicy, NoState}
use Rattle.vocabulary.specs.Spelling.{word_text, reason_text}
use Rattle.vocabulary.specs.declared.Word.{Word}
use Rattle.fields.specs.Fields.{window_at, id_at, wrong}
use Rattle.claims.specs.declared.Claim.{Claim}
use Rattle.fields.specs.declared.Flaw.{Flaw}
use Rattle.fields.specs.declared.Wrong.{Wrong}

-- the reason whose word stands next, of the last seven
unfoldable pub reason_more_at : List ℕ → ℕ → Result Error Wrong
reason_more_at s at =
    cond (word_is s at (reason_text InvalidAlignment)) (Ok InvalidAlignment)
    (cond (word_is s at (reason_text UnalignedAddress)) (Ok UnalignedAddress)
    (cond (word_is s at (reason_text Underflow)) (Ok Underflow)
    (cond (word_is s at (reason_text InvalidSize)) (Ok InvalidSize)
    (cond (word_is s at (reason_text NoRoom)) (Ok NoRoom)
    (cond (word_is s at (reason_text InvalidPolicy)) (Ok InvalidPolicy)
    (cond (word_is s at (reason_text NoState)) (Ok NoState)
    (Err (wrong Flaw.ReasonExpected (start_of s at)))))))))

-- the reason whose word stands next
unfoldable pub reason_at : List ℕ → ℕ → Result Error Wrong
reason_at s at =
    cond (word_is s at (reason_text Overflow)) (Ok Overflow)
    (cond (word_is s at (reason_text OutOfRange)) (Ok OutOfRange)
    (cond (word_is s at (reason_text AlreadyReleased)) (Ok AlreadyReleased)
    (cond (word_is s at (reason_text NeverAllocated)) (Ok NeverAllocated)
    (cond (word_is s at (reason_text ResourceNotAvailable)) (Ok ResourceNotAvailable)
    (cond (word_is s at (reason_text InvalidRange)) (Ok InvalidRange)
    (reason_more_at s at))))))

-- the claim, where nothing stands behind it
unfoldable pub closed_at : List ℕ → ℕ → Claim → Result Claim Wrong
closed_at s at c = cond (no_word s at) (Ok c) (Err (wrong Flaw.LeftOver (start_of s at)))

-- what follows a reason, a window or an id, or what is wrong with it
abbrev pub on_reason : Result Error Wrong → (Error → Result Claim Wrong) → Result Claim Wrong
on_reason (Ok e) f = f e
on_reason (Err w) f = Err w

abbrev pub on_window : Result (ℕ × ℕ × ℕ) Wrong → (ℕ → ℕ → ℕ → Result Claim Wrong) → Result Claim Wrong
on_window (Ok (a, b, i)) f = f a b i
on_window (Err w) f = Err w

abbrev pub on_id : Result (ℕ × ℕ) Wrong → (ℕ → ℕ → Result Claim Wrong) → Result Claim Wrong
on_id (Ok (n, i)) f = f n i
on_id (Err w) f = Err w

-- `yes`, `no`, a window or an id
unfoldable pub answer_at : List ℕ → ℕ → Result Claim Wrong
answer_at s at =
    cond (word_is s at (word_text Word.Yes)) (closed_at s (end_of s at) Claim.Yes)
    (cond (word_is s at (word_text Word.No)) (closed_at s (end_of s at) Claim.No)
    (cond (dotted s at) (on_window (window_at s at) (λ a b i. closed_at s i (Claim.Window a b)))
    (on_id (id_at s at) (λ n i. closed_at s i (Claim.Id n)))))

-- what stands behind `=>`
unfoldable pub said_at : List ℕ → ℕ → Result Claim Wrong
said_at s at =
    cond (no_word s at) (Err (wrong Flaw.ClaimExpected (start_of s at)))
    (cond (word_is s at (word_text Word.Freed)) (closed_at s (end_of s at) Claim.Freed)
    (cond (word_is s at (word_text Word.Refused)) (on_reason (reason_at s (end_of s at)) (λ e. closed_at s (end_of s (end_of s at)) (Claim.Refused e)))
    (answer_at s at)))

-- the claim that the rest of a line makes
unfoldable pub claim_at : List ℕ → ℕ → Result Claim Wrong
claim_at s at =
    cond (no_word s at) (Ok Claim.Unsaid)
    (cond (word_is s at (word_text Word.Arrow)) (said_at s (end_of s at))
    (Err (wrong Flaw.LeftOver (start_of s at))))
