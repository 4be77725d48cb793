-- The reason whose word stands next is the first of all reasons whose word does. Assumes nothing.
use mathlib.Core.Path.{◌≡◌, refl, ap, ◌∙◌}
use mathlib.Core.Bool.{Bool, false, cond}
use mathlib.Core.List.{List, [], ◌∷◌}
use Prim.Native.Nat.{ℕ, suc, ◌+◌, ◌<◌}
use native.Mathlib.Numerals.{add-one}
use lib.ListN.{length, drop, get_or}
use lib.Seq.{drop-cons}
use Rattle.std.proofs.Common.{Result, Ok, Err}
use Rattle.text.specs.Words.{start_of, word_is}
use Rattle.ranges.specs.declared.Error.{Error}
use Rattle.ranges.specs.declared.Error.TheVariants.{Overflow, OutOfRange, AlreadyReleased, NeverAllocated, ResourceNotAvailable, InvalidRange, InvalidAlignment, UnalignedAddress, Underflow, InvalidSize, NoRoom, InvalidPolicy, NoState}
use Rattle.vocabulary.specs.Spelling.{reason_text}
use Rattle.fields.specs.Fields.{wrong}
use Rattle.fields.specs.declared.Flaw.{Flaw}
use Rattle.fields.specs.declared.Wrong.{Wrong}
use Rattle.claims.specs.Claims.{reason_at, reason_more_at}

-- the first of some reasons whose word stands next
abbrev pub first_of : List ℕ → ℕ → List Error → Result Error Wrong
first_of s at [] = Err (wrong Flaw.ReasonExpected (start_of s at))
first_of s at (e ∷ es) = cond (word_is s at (reason_text e)) (Ok e) (first_of s at es)

abbrev pub all_reasons : List Error
all_reasons = Overflow ∷ (OutOfRange ∷ (AlreadyReleased ∷ (NeverAllocated ∷ (ResourceNotAvailable ∷ (InvalidRange ∷ (InvalidAlignment ∷ (UnalignedAddress ∷ (Underflow ∷ (InvalidSize ∷ (NoRoom ∷ (InvalidPolicy ∷ (NoState ∷ []))))))))))))

pub of_all : (s : List ℕ) (at : ℕ) → first_of s at all_reasons ≡ reason_at s at
unfolding reason_at reason_more_at
of_all s at = refl

-- one more reason, whose word does not stand next
pub first_step : (s : List ℕ) (at i : ℕ) (es : List Error) (d : Error) → i < length es → word_is s at (reason_text (get_or es i d)) ≡ false → first_of s at (drop i es) ≡ first_of s at (drop (i + 1) es)
first_step s at i es d h e =
    rw (add-one i) (ap (first_of s at) (drop-cons es i d h) ∙ ap (λ (t : Bool). cond t (Ok (get_or es i d)) (first_of s at (drop (suc i) es))) e)
