-- A line as a kind and nine words, as C reads it.
use Rattle.std.specs.Prelude.{◌≡◌, List, [], ◌∷◌, ℕ, Option, Some, None, Result, Ok, Err}
use Rattle.text.specs.Stored.{Puts}
use Rattle.ranges.specs.Reasons.{number_of}
use Rattle.ranges.specs.declared.AllocPolicy.{AllocPolicy}
use Rattle.claims.specs.declared.Claim.{Claim}
use Rattle.fields.specs.declared.Flaw.{Flaw}
use Rattle.fields.specs.declared.Wrong.{Wrong}
use Rattle.lines.specs.declared.Line.{Line}
use Rattle.fields.specs.declared.Name.{Name}
use Rattle.told.specs.declared.Case.{Case}

-- a number that names a case, and two numbers that it holds
abbrev pub three : ℕ → ℕ → ℕ → Case
three k a b = record { kind = k; a = a; b = b }

-- a limit: 0, or 1 and the number
abbrev pub limit_of : Option ℕ → Case
limit_of None = three 0 0 0
limit_of (Some n) = three 1 n 0

-- a policy: 0 first, 1 last, 2 exact and the address
abbrev pub policy_of : AllocPolicy → Case
policy_of AllocPolicy.FirstMatch = three 0 0 0
policy_of AllocPolicy.LastMatch = three 1 0 0
policy_of (AllocPolicy.ExactMatch x) = three 2 x 0

-- a claim: 0 none, 1 a window and its ends, 2 an id, 3 freed, 4 refused and the reason's number, 5 yes, 6 no
abbrev pub claim_of : Claim → Case
claim_of Claim.Unsaid = three 0 0 0
claim_of (Claim.Window x y) = three 1 x y
claim_of (Claim.Id n) = three 2 n 0
claim_of Claim.Freed = three 3 0 0
claim_of (Claim.Refused e) = three 4 (number_of e) 0
claim_of Claim.Yes = three 5 0 0
claim_of Claim.No = three 6 0 0

-- the number of a flaw
abbrev pub flaw_of : Flaw → ℕ
flaw_of Flaw.LineTooLong = 1
flaw_of Flaw.UnknownWord = 2
flaw_of Flaw.NameExpected = 3
flaw_of Flaw.NameTooLong = 4
flaw_of Flaw.NumberExpected = 5
flaw_of Flaw.NumberTooLarge = 6
flaw_of Flaw.WindowExpected = 7
flaw_of Flaw.AlignExpected = 8
flaw_of Flaw.PolicyExpected = 9
flaw_of Flaw.ClaimExpected = 10
flaw_of Flaw.ReasonExpected = 11
flaw_of Flaw.LeftOver = 12
flaw_of Flaw.CountExpected = 13

-- the number of a line's kind
abbrev pub kind_of : Result Line Wrong → ℕ
kind_of (Ok Line.Blank) = 0
kind_of (Ok (Line.Pool n b s l)) = 1
kind_of (Ok (Line.Ids n l h)) = 2
kind_of (Ok (Line.Allocate n s a p c)) = 3
kind_of (Ok (Line.AllocateId n c)) = 4
kind_of (Ok (Line.Free n s e c)) = 5
kind_of (Ok (Line.FreeId n i c)) = 6
kind_of (Ok (Line.Show n)) = 7
kind_of (Err w) = 8
kind_of (Ok (Line.InUse n i c)) = 9
kind_of (Ok (Line.Together k)) = 10

-- nine words: the name's place, four numbers and the claim
abbrev pub nine : Name → ℕ → ℕ → Case → Case → List ℕ
nine n a b p c = n.start ∷ n.len ∷ a ∷ b ∷ p.kind ∷ p.a ∷ c.kind ∷ c.a ∷ c.b ∷ []

-- what a line says, in words
abbrev pub words_of : Result Line Wrong → List ℕ
words_of (Ok Line.Blank) = nine (record { start = 0; len = 0 }) 0 0 (three 0 0 0) (three 0 0 0)
words_of (Ok (Line.Pool n b s l)) = nine n b s (limit_of l) (three 0 0 0)
words_of (Ok (Line.Ids n l h)) = nine n l h (three 0 0 0) (three 0 0 0)
words_of (Ok (Line.Allocate n s a p c)) = nine n s a (policy_of p) (claim_of c)
words_of (Ok (Line.AllocateId n c)) = nine n 0 0 (three 0 0 0) (claim_of c)
words_of (Ok (Line.Free n s e c)) = nine n s e (three 0 0 0) (claim_of c)
words_of (Ok (Line.FreeId n i c)) = nine n i 0 (three 0 0 0) (claim_of c)
words_of (Ok (Line.Show n)) = nine n 0 0 (three 0 0 0) (three 0 0 0)
words_of (Err w) = nine (record { start = 0; len = 0 }) (flaw_of w.why) w.at (three 0 0 0) (three 0 0 0)
words_of (Ok (Line.InUse n i c)) = nine n i 0 (three 0 0 0) (claim_of c)
words_of (Ok (Line.Together k)) = nine (record { start = 0; len = 0 }) k 0 (three 0 0 0) (three 0 0 0)

-- the place behind a text that was put at the front, 0 for none
abbrev pub place_of : Option ℕ → ℕ
place_of (Some i) = i
place_of None = 0

-- a text is put at the front of the old bytes, or does not fit
abbrev pub Placing : List ℕ → List ℕ → List ℕ → ℕ → Type 0
Placing t old new r = (p : Option ℕ) × Puts t 0 old new p × (r ≡ place_of p)
