-- Laws of the reasons' numbers: no two reasons have the same (number_one), and none has 0 (number_some).
-- Assumes nothing.
use Rattle.std.proofs.Common.{◌≡◌, ℕ, ◌<◌, List, [], ◌∷◌, get_or, sym, refl, ap, ◌∙◌, arith}
use Rattle.ranges.specs.declared.Error.{Error}
use Rattle.ranges.specs.declared.Error.TheVariants.{Overflow, OutOfRange, AlreadyReleased, NeverAllocated, ResourceNotAvailable, InvalidRange, InvalidAlignment, UnalignedAddress, Underflow, InvalidSize, NoRoom, InvalidPolicy, NoState}
use Rattle.ranges.specs.Reasons.{number_of}

-- the reasons by their numbers; no reason has the number 0
reasons : List Error
reasons =
    NoState ∷ Overflow ∷ OutOfRange ∷ AlreadyReleased ∷ NeverAllocated ∷ ResourceNotAvailable ∷ InvalidRange ∷ InvalidAlignment
    ∷ UnalignedAddress ∷ Underflow ∷ InvalidSize ∷ NoRoom ∷ InvalidPolicy ∷ NoState ∷ []

reason_of : ℕ → Error
unfolding reasons
reason_of n = get_or reasons n NoState

back : (e : Error) → reason_of (number_of e) ≡ e
unfolding reason_of reasons
back Overflow = refl
back OutOfRange = refl
back AlreadyReleased = refl
back NeverAllocated = refl
back ResourceNotAvailable = refl
back InvalidRange = refl
back InvalidAlignment = refl
back UnalignedAddress = refl
back Underflow = refl
back InvalidSize = refl
back NoRoom = refl
back InvalidPolicy = refl
back NoState = refl

-- two reasons with one number are one reason
pub number_one : (d e : Error) → number_of d ≡ number_of e → d ≡ e
number_one d e h = sym (back d) ∙ ap reason_of h ∙ back e

-- no reason has the number of 'done'
pub number_some : (e : Error) → 0 < number_of e
number_some Overflow = omega arith
number_some OutOfRange = omega arith
number_some AlreadyReleased = omega arith
number_some NeverAllocated = omega arith
number_some ResourceNotAvailable = omega arith
number_some InvalidRange = omega arith
number_some InvalidAlignment = omega arith
number_some UnalignedAddress = omega arith
number_some Underflow = omega arith
number_some InvalidSize = omega arith
number_some NoRoom = omega arith
number_some InvalidPolicy = omega arith
number_some NoState = omega arith
