-- What became of a line, in five words: what happened, the answer's case and two numbers, and a reason.
use Rattle.std.specs.Prelude.{Bool, true, false, List, [], ◌∷◌, ℕ, Result, Ok, Err}
use Rattle.ranges.specs.declared.Error.{Error}
use Rattle.ranges.specs.Reasons.{number_of}
use Rattle.addresses.specs.declared.Answer.{Answer}
use Rattle.verdict.specs.declared.Verdict.{Verdict}
use Rattle.replay.specs.declared.Outcome.{Outcome}
use Rattle.asked.specs.declared.Outcome as asked
use Rattle.told.specs.declared.Case.{Case}

-- a refusal: 4 and the reason's number
abbrev pub refusal_of : Error → Case
refusal_of e = record { kind = 4; a = number_of e; b = 0 }

-- an answer: 1 a window that is granted, 3 a window that is freed, 4 refused and the reason's number
abbrev pub answer_of : Answer → Case
answer_of (Answer.Granted r) = record { kind = 1; a = r.start; b = r.end }
answer_of (Answer.Freed r) = record { kind = 3; a = r.start; b = r.end }
answer_of (Answer.Refused e) = refusal_of e

-- an answer of ids: 2 an id, 4 refused and the reason's number
abbrev pub id_answer_of : Result ℕ Error → Case
id_answer_of (Ok n) = record { kind = 2; a = n; b = 0 }
id_answer_of (Err e) = refusal_of e

-- what happened, the answer and a reason
abbrev pub five : ℕ → Case → ℕ → List ℕ
five k w why = k ∷ w.kind ∷ w.a ∷ w.b ∷ why ∷ []

-- of a claim, where `case` tells an answer's case: 2 a right claim; 3 a wrong one that is gone on from, with the right answer;
-- 4 a wrong one that is not, with the right answer and the reason
abbrev pub verdict_of : {A : Type 0} → (A → Case) → Verdict A → List ℕ
verdict_of case Verdict.Right = 2 ∷ 0 ∷ 0 ∷ 0 ∷ 0 ∷ []
verdict_of case (Verdict.Followed x) = five 3 (case x) 0
verdict_of case (Verdict.Stayed x e) = five 4 (case x) (number_of e)

-- 0 the line wants nothing of the block; 1 an answer where nothing was claimed; else the verdict
abbrev pub outcome_of : {A : Type 0} → (A → Case) → Outcome A → List ℕ
outcome_of case Outcome.Unfit = 0 ∷ 0 ∷ 0 ∷ 0 ∷ 0 ∷ []
outcome_of case (Outcome.Answered x) = five 1 (case x) 0
outcome_of case (Outcome.Judged v) = verdict_of case v

-- of a line on a pool
abbrev pub pool_of : Outcome Answer → List ℕ
pool_of = outcome_of answer_of

-- of a line on an interval of ids
abbrev pub ids_of : Outcome (Result ℕ Error) → List ℕ
ids_of = outcome_of id_answer_of

-- whether an id is granted: 5 yes, 6 no
abbrev pub yes_of : Bool → ℕ
yes_of true = 5
yes_of false = 6

-- of a claim: 2 where it is right, else 3 and the answer
abbrev pub judged_of : Bool → Bool → List ℕ
judged_of b true = 2 ∷ 0 ∷ 0 ∷ 0 ∷ 0 ∷ []
judged_of b false = 3 ∷ yes_of b ∷ 0 ∷ 0 ∷ 0 ∷ []

-- a question whether an id is granted
abbrev pub use_of : asked.Outcome → List ℕ
use_of asked.Outcome.Unfit = 0 ∷ 0 ∷ 0 ∷ 0 ∷ 0 ∷ []
use_of (asked.Outcome.Told b) = 1 ∷ yes_of b ∷ 0 ∷ 0 ∷ 0 ∷ []
use_of (asked.Outcome.Judged b r) = judged_of b r
