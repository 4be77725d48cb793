-- What is so of every refusal: each block holds just what it held before. From the contracts of `two` and `three` alone.
--     neither      of two pools, whichever was refused
--     none         of two pools and the ids, whichever was refused
-- Assumes nothing.
use Rattle.std.proofs.Common.{Result, Ok, Err}
use Prim.Native.Nat.{ℕ}
use mathlib.Core.Path.{◌≡◌, sym, subst}
use mathlib.Core.List.{List}
use Rattle.ranges.specs.declared.Constraint.{Constraint}
use Rattle.ranges.specs.declared.RangeInclusive.{RangeInclusive}
use Rattle.addresses.specs.Operations.{Pool}
use Rattle.addresses.specs.Held.{Holds}
use Rattle.ids.specs.State.{State}
use Rattle.ids.specs.Held as ids
use Rattle.both.specs.declared.PairError.{PairError}
use Rattle.both.specs.declared.PairError.TheVariants as pair
use Rattle.both.specs.declared.TripleError.{TripleError}
use Rattle.both.specs.declared.TripleError.TheVariants as triple
use Rattle.both.specs.Both.{Pairs, Triples}

-- the block holds just what it held
abbrev pub Same : List ℕ → List ℕ → Type 0
Same a a' = (p : Pool) → Holds a p → Holds a' p

abbrev pub SameIds : List ℕ → List ℕ → Type 0
SameIds c c' = (s : State) → ids.Holds c s → ids.Holds c' s

kept : (a a' : List ℕ) → a' ≡ a → Same a a'
kept a a' e p h = subst (λ (m : List ℕ). Holds m p) (sym e) h

kept_ids : (c c' : List ℕ) → c' ≡ c → SameIds c c'
kept_ids c c' e s h = subst (λ (m : List ℕ). ids.Holds m s) (sym e) h

-- not everything is granted
unfoldable pub Refused : Result (RangeInclusive × RangeInclusive) PairError → Type 0
Refused (Ok (r, s)) = ⊥
Refused (Err (pair.First e)) = Unit {0}
Refused (Err (pair.Second e)) = Unit {0}

unfoldable pub RefusedOne : Result (RangeInclusive × RangeInclusive × ℕ) TripleError → Type 0
RefusedOne (Ok (r, s, i)) = ⊥
RefusedOne (Err (triple.First e)) = Unit {0}
RefusedOne (Err (triple.Second e)) = Unit {0}
RefusedOne (Err (triple.Third e)) = Unit {0}

pub neither : (a b a' b' : List ℕ) (q w : Constraint) (x : Result (RangeInclusive × RangeInclusive) PairError) → Refused x → Pairs a q b w x a' b' → Same a a' × Same b b'
unfolding Pairs Refused
neither a b a' b' q w (Ok (r, s)) n d = absurd n
neither a b a' b' q w (Err (pair.First e)) n d = (kept a a' d.0.0, kept b b' d.1)
neither a b a' b' q w (Err (pair.Second e)) n d = (λ p h. (d.0 p h).1, kept b b' d.1.0)

pub none : (a b c a' b' c' : List ℕ) (q w : Constraint) (x : Result (RangeInclusive × RangeInclusive × ℕ) TripleError) → RefusedOne x → Triples a q b w c x a' b' c' → Same a a' × Same b b' × SameIds c c'
unfolding Triples RefusedOne
none a b c a' b' c' q w (Ok (r, s, i)) n d = absurd n
none a b c a' b' c' q w (Err (triple.First e)) n d = (kept a a' d.0.0, kept b b' d.1, kept_ids c c' d.2)
none a b c a' b' c' q w (Err (triple.Second e)) n d = (λ p h. (d.0 p h).1, kept b b' d.1.0, kept_ids c c' d.2)
none a b c a' b' c' q w (Err (triple.Third e)) n d = (λ p h. (d.0 p h).1, λ p h. (d.1 p h).1, kept_ids c c' d.2.kept)
