-- Runs that are computed: the one to test with, and the sequences at which the Rust departs from its documentation.
use Rattle.std.proofs.Common.{◌≡◌, ℕ, ◌+◌, ◌-◌, List, [], ◌∷◌, refl, Ok, Err}
use lib.Count.{ones}
use Rattle.addresses.specs.declared.Answer.{Answer}
use Rattle.addresses.specs.declared.Answer.TheVariants.{Granted, Freed, Refused}
use Rattle.ranges.specs.declared.AllocPolicy.{AllocPolicy}
use Rattle.ranges.specs.declared.AllocPolicy.TheVariants.{FirstMatch, LastMatch, ExactMatch}
use Rattle.ranges.specs.declared.Error.TheVariants.{ResourceNotAvailable, UnalignedAddress, InvalidRange, InvalidSize, InvalidAlignment, Overflow, NoRoom, Underflow}
use Rattle.addresses.specs.Meaning.{row_of}
use Rattle.addresses.proofs.Moves.{free, held}
use Rattle.addresses.specs.Operations.{M, Pool, Makes, fresh}
use Rattle.addresses.specs.Runs.{Runs, Operation, Allocate, Release}
use Rattle.addresses.proofs.Computed.{answered, last_row}
use Rattle.addresses.proofs.PoolLaws.{make, makes, made_valid}
use Rattle.addresses.proofs.RunLaws.{runs_answered}

abbrev alloc : ℕ → ℕ → AllocPolicy → Operation
alloc size align policy = Allocate (record { size = size; align = align; policy = policy })

abbrev back : ℕ → ℕ → Operation
back s e = Release (record { start = s; end = e })

abbrev given : ℕ → ℕ → Answer
given s e = Granted (record { start = s; end = e })

abbrev freed : ℕ → ℕ → Answer
freed s e = Freed (record { start = s; end = e })

-- the answers in the pool of the addresses from `base` up to, not including, `top`, with room for 4,096 ranges
abbrev run : ℕ → ℕ → List Operation → List Answer
run base top os = answered top 4096 (free base ∷ []) os

abbrev unavailable : Answer
unavailable = Refused ResourceNotAvailable

-- the run to test with
abbrev tested : List Operation
tested =
    alloc 0x800 0x100 FirstMatch ∷ alloc 0x400 0x1000 FirstMatch ∷ alloc 0x400 0x100 LastMatch ∷ alloc 0x100 0x100 (ExactMatch 0x1800) ∷ alloc 0x100 0x100 (ExactMatch 0x1850)
    ∷ back 0x1000 0x17fe ∷ back 0x1000 0x17ff ∷ back 0x1800 0x18ff ∷ back 0x2000 0x23ff ∷ []

test_answers : run 0x1000 0x11000 tested ≡ given 0x1000 0x17ff ∷ given 0x2000 0x23ff ∷ given 0x10c00 0x10fff ∷ given 0x1800 0x18ff ∷ Refused UnalignedAddress ∷ unavailable ∷ freed 0x1000 0x17ff ∷ freed 0x1800 0x18ff ∷ freed 0x2000 0x23ff ∷ []
unfolding answered ones
test_answers = refl

test_last : last_row 0x11000 4096 (free 0x1000 ∷ []) tested ≡ free 0x1000 ∷ held 0x10c00 ∷ []
unfolding last_row ones
test_last = refl

-- so each run of these operations from the pool that `new` makes gets these answers
test_runs : (xs : List Answer) (z : Pool) → Runs (fresh 0x1000 0x10000 4096) tested xs z → xs ≡ run 0x1000 0x11000 tested
unfolding row_of make
test_runs xs z r = (runs_answered (fresh 0x1000 0x10000 4096) tested xs z (made_valid 0x1000 0x10000 4096 new) r).0
  where
    new : Makes 0x1000 0x10000 4096 (Ok tt)
    new = makes 0x1000 0x10000 4096

-- where the Rust departs
departs₁ : run 0 0x1000 (alloc 0x1000 1 FirstMatch ∷ alloc 0x10 1 (ExactMatch 0x100) ∷ alloc 0x1000 1 (ExactMatch 0) ∷ []) ≡ given 0 0xfff ∷ unavailable ∷ unavailable ∷ []
unfolding answered ones
departs₁ = refl

departs₂ : run 0 0x1000 (alloc 0x1000 1 LastMatch ∷ []) ≡ given 0 0xfff ∷ []
unfolding answered ones
departs₂ = refl

departs₃ : run 1 0x1001 (alloc 0x10 1 FirstMatch ∷ back 1 0x10 ∷ []) ≡ given 1 0x10 ∷ freed 1 0x10 ∷ []
unfolding answered ones
departs₃ = refl

departs₄ : run (M - 0xfff) (M + 1) (alloc 0x10 1 (ExactMatch (M - 0x10)) ∷ back (M - 0x10) (M - 1) ∷ alloc 0x10 1 LastMatch ∷ back (M - 0xf) M ∷ alloc 0x1000 1 FirstMatch ∷ []) ≡ given (M - 0x10) (M - 1) ∷ freed (M - 0x10) (M - 1) ∷ given (M - 0xf) M ∷ freed (M - 0xf) M ∷ given (M - 0xfff) M ∷ []
unfolding answered ones
departs₄ = refl

departs₅ : run 0x10 0x20 (alloc 1 1 (ExactMatch 0x10) ∷ alloc 4 1 (ExactMatch 0x11) ∷ back 0x10 0x10 ∷ back 0x11 0x14 ∷ alloc 0x10 1 FirstMatch ∷ []) ≡ given 0x10 0x10 ∷ given 0x11 0x14 ∷ freed 0x10 0x10 ∷ freed 0x11 0x14 ∷ given 0x10 0x1f ∷ []
unfolding answered ones
departs₅ = refl

departs₆ : run 0x10 0x20 (alloc 1 1 (ExactMatch 0x1f) ∷ back 0x10 0x1f ∷ []) ≡ given 0x1f 0x1f ∷ unavailable ∷ []
unfolding answered ones
departs₆ = refl

-- the ends: an exact range that ends past the highest address, at a free address and at none; pairs that are no range; requests that are not in order
ends : run (M - 0xfff) (M + 1) (alloc 0x11 1 (ExactMatch (M - 0xf)) ∷ alloc 2 1 (ExactMatch M) ∷ alloc 2 1 (ExactMatch 7) ∷ back 0 M ∷ back 2 1 ∷ alloc 0 3 FirstMatch ∷ alloc 1 3 FirstMatch ∷ alloc 1 0 FirstMatch ∷ []) ≡ Refused Overflow ∷ Refused Overflow ∷ unavailable ∷ Refused InvalidRange ∷ Refused InvalidRange ∷ Refused InvalidSize ∷ Refused InvalidAlignment ∷ Refused InvalidAlignment ∷ []
unfolding answered ones
ends = refl

departs₇ : run 0 0x1000 (alloc 1 1 (ExactMatch M) ∷ []) ≡ unavailable ∷ []
unfolding answered ones
departs₇ = refl

-- a pool that ends one address before M: a range that would end at M is not available, and one that would end past it is an overflow
edge : run (M - 0xfff) M (alloc 0x11 1 (ExactMatch (M - 0x10)) ∷ alloc 0x12 1 (ExactMatch (M - 0x10)) ∷ []) ≡ unavailable ∷ Refused Overflow ∷ []
unfolding answered ones
edge = refl

-- alignments greater than the pool
great : run 0 0x1000 (alloc 1 0x2000 FirstMatch ∷ alloc 1 0x2000 LastMatch ∷ alloc 1 0x3000 LastMatch ∷ []) ≡ given 0 0 ∷ unavailable ∷ Refused InvalidAlignment ∷ []
unfolding answered ones
great = refl

-- a table of two ranges: a window in the middle has no room, and one at an end has
full : answered 32 2 (free 16 ∷ []) (alloc 1 1 (ExactMatch 20) ∷ alloc 1 1 FirstMatch ∷ alloc 1 1 FirstMatch ∷ []) ≡ Refused NoRoom ∷ given 16 16 ∷ Refused NoRoom ∷ []
unfolding answered ones
full = refl

-- pools that are made and that are not
made : (make 0 0 0 ≡ Err Underflow) × (make 1 M 0 ≡ Err NoRoom) × (make 2 M 0 ≡ Err Overflow) × (make 1 M 4096 ≡ Ok tt) × (make 0 1 4097 ≡ Err NoRoom)
unfolding make
made = (refl, refl, refl, refl, refl)
