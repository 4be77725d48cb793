-- What a line wants to know of an interval of ids, and what is answered: m is the block.
use Rattle.std.specs.Prelude.{ℕ, ◌≡◌, Bool, true, false, List, Result, Ok, Err}
use Rattle.ranges.specs.Align.{Decides}
use Rattle.fields.specs.declared.Wrong.{Wrong}
use Rattle.claims.specs.declared.Claim.{Claim}
use Rattle.lines.specs.declared.Line.{Line}
use Rattle.ids.specs.Contract.{Tells}
use Rattle.asked.specs.declared.Outcome.{Outcome}

-- nothing; whether an id is granted; or that, with the claimed answer
pub data Wanted : Type 0 where
  nothing : Wanted
  asks : ℕ → Wanted
  claims : ℕ → Bool → Wanted

-- the claim is `yes`, `no` or none
abbrev pub asks_for : ℕ → Claim → Wanted
asks_for i Claim.Unsaid = asks i
asks_for i Claim.Yes = claims i true
asks_for i Claim.No = claims i false
asks_for i _ = nothing

-- what a line wants to know; one that is wrong wants nothing
abbrev pub use_wants : Result Line Wrong → Wanted
use_wants (Ok (Line.InUse n i c)) = asks_for i c
use_wants _ = nothing

-- what is answered: whether the id is granted, and of a claim whether it is right
abbrev pub OnUse : List ℕ → Wanted → Outcome → Type 0
OnUse m nothing Outcome.Unfit = Unit
OnUse m (asks i) (Outcome.Told b) = Tells m i b
OnUse m (claims i a) (Outcome.Judged b r) = Tells m i b × Decides r (b ≡ a)
OnUse _ _ _ = ⊥
