-- Going on from a claim, and the verdict.
--     grant_told, release_told, follow_refusal     the pool after going on from a claim
--     settle_right, settle_wrong, audited          the verdict
--     hinders_not                                  a claim that the block does not go on from is none that it could go on from
-- Assumes nothing.
use Rattle.std.proofs.Common.{Result, Ok, Err}
use Prim.Native.Nat.{ℕ, ◌+◌, ◌-◌}
use mathlib.Core.Path.{◌≡◌, refl, sym, ◌∙◌, subst}
use mathlib.Core.Logic.{inl, inr, ⊎_elim}
use mathlib.Core.List.{List}
use native.Mathlib.Omega.{arith}
use Rattle.ranges.specs.declared.AllocPolicy.TheVariants.{ExactMatch}
use Rattle.ranges.specs.declared.Error.{Error}
use Rattle.ranges.specs.declared.RangeInclusive.{RangeInclusive}
use Rattle.ranges.specs.Range.{IsRange}
use Rattle.addresses.specs.declared.Answer.{Answer}
use Rattle.addresses.specs.declared.Answer.TheVariants.{Granted, Freed, Refused}
use Rattle.addresses.specs.Meaning.{window}
use Rattle.addresses.specs.Operations.{Pool, next, HasRoom, Frees}
use Rattle.addresses.specs.Runs.{Operation, Release, Valid, Does}
use Rattle.addresses.specs.Exact.{Exactly}
use Rattle.addresses.specs.Held.{Holds}
use Rattle.addresses.specs.Contract.{granted, freed, Performs, asking, returning}
use Rattle.addresses.proofs.ComputedLaws.{does_unique}
use Rattle.addresses.proofs.PoolLaws.{granted_range}
use Rattle.addresses.proofs.ExactLaws.{exactly_just}
use Rattle.verdict.specs.declared.Verdict.{Verdict}
use Rattle.verdict.specs.declared.Verdict.TheVariants.{Right, Followed, Stayed}
use Rattle.pool_audit.specs.Verdicts.{size_of, Possible, Hinders, Judged}
use Rattle.pool_audit.specs.Steps.{GrantsJust, Takes, Follows, Undoes, Settles}
use Rattle.pool_audit.proofs.Back.{proper_just}

-- the outcome of going on, by what the operation that does it returned
abbrev pub outcome : Result RangeInclusive Error → Result Unit Error
outcome (Ok r) = Ok tt
outcome (Err e) = Err e

module _ (m m' : List ℕ) (r : RangeInclusive) where
  -- from a claimed grant
  follow_grant : (x : Result RangeInclusive Error) → GrantsJust m r.start r.end (granted x) m' → Follows m (Granted r) (outcome x) m'
  unfolding Takes Possible Hinders Exactly next
  follow_grant (Ok q) g p h = ⊎_elim none some (g p h)
    where
      none : (Granted q ≡ Refused Error.InvalidRange) × (¬ IsRange r.start r.end) × Holds m' p → Takes p (Granted r) (Ok tt) m'
      none w = absurd (cc w.0)

      some : IsRange r.start r.end × Exactly p r.start (size_of r) (Granted q) × Holds m' (next p (Granted q)) → Takes p (Granted r) (Ok tt) m'
      some w =
          let e : window r.start (size_of r) ≡ r = λ i. record { start = r.start; end = end_same w.0 i } in
          ((w.0, w.1.0, subst (HasRoom p) e w.1.1), subst (λ (y : RangeInclusive). Holds m' (next p (Granted y))) (w.1.2 ∙ e) w.2)
        where
          end_same : IsRange r.start r.end → r.start + size_of r - 1 ≡ r.end
          end_same k = omega (arith, k)
  follow_grant (Err e) g p h = ⊎_elim (λ w. (inl (refused w.0, w.1), w.2)) (λ w. (inr (w.0, w.1), w.2)) (g p h)
    where
      refused : Refused e ≡ Refused Error.InvalidRange → e ≡ Error.InvalidRange
      refused w = cc (w)

  -- from a claimed give-back
  follow_release : (x : Result RangeInclusive Error) → Performs m (returning r.start r.end) (freed x) m' → Follows m (Freed r) (outcome x) m'
  unfolding Takes Possible Hinders Does Frees next
  follow_release (Ok q) f p h =
      let w = f.right p h in
      (w.0.1, subst (λ (y : RangeInclusive). Holds m' (next p (Freed y))) w.0.2 w.1)
  follow_release (Err e) f p h = f.right p h

-- the same, of what is told of the claim and of what was returned
pub grant_told : (m m' : List ℕ) (claim : Answer) (r : RangeInclusive) (x : Result RangeInclusive Error) (t : Result Unit Error) → claim ≡ Granted r → outcome x ≡ t → GrantsJust m r.start r.end (granted x) m' → Follows m claim t m'
grant_told m m' claim r x t e k g p h = subst (λ (y : Answer). Takes p y t m') (sym e) (subst (λ (u : Result Unit Error). Takes p (Granted r) u m') k (follow_grant m m' r x g p h))

pub release_told : (m m' : List ℕ) (claim : Answer) (r : RangeInclusive) (x : Result RangeInclusive Error) (t : Result Unit Error) → claim ≡ Freed r → outcome x ≡ t → Performs m (returning r.start r.end) (freed x) m' → Follows m claim t m'
release_told m m' claim r x t e k f p h = subst (λ (y : Answer). Takes p y t m') (sym e) (subst (λ (u : Result Unit Error). Takes p (Freed r) u m') k (follow_release m m' r x f p h))

-- from a claimed refusal
pub follow_refusal : (m : List ℕ) (e : Error) → Follows m (Refused e) (Ok tt) m
unfolding Takes Possible next
follow_refusal m e p h = (tt, h)

-- the verdict, by whether the block went on from the claim
abbrev pub verdict : Answer → Result Unit Error → Verdict Answer
verdict x (Ok tt) = Followed x
verdict x (Err e) = Stayed x e

pub settle_right : (m : List ℕ) (x claim : Answer) → x ≡ claim → Settles m x claim Right m
unfolding Judged
settle_right m x claim e p o v d h = (subst (Does p o) e d, subst (λ (y : Answer). Holds m (next p y)) e h)

pub settle_wrong : (m n m' : List ℕ) (x claim : Answer) (t : Result Unit Error) → (x ≡ claim → ⊥) → Undoes m x n → Follows n claim t m' → Settles m x claim (verdict x t) m'
unfolding Judged Takes
settle_wrong m n m' x claim (Ok tt) k u f p o v d h =
    let w = f p (u p o v d h) in
    (λ c. k (does_unique p o x claim v.sound d c), d, w.0, w.1)
settle_wrong m n m' x claim (Err e) k u f p o v d h =
    let w = f p (u p o v d h) in
    (λ c. k (does_unique p o x claim v.sound d c), d, w.0, w.1)

-- the whole: the operation, then the verdict
pub audited : (m n m' : List ℕ) (o : Operation) (x claim : Answer) (t : Verdict Answer) → Performs m o x n → Settles n x claim t m' → (p : Pool) → Holds m p → Judged p o claim t m'
audited m n m' o x claim t f s p h =
    let w = f.right p h in
    s p o h.valid w.0 w.1

-- where there is a reason against a claim, a pool cannot go on from it
pub hinders_not : (p : Pool) (claim : Answer) (e : Error) → Valid p → Hinders p claim e → Possible p claim → ⊥
unfolding Hinders Possible Does Exactly Frees
hinders_not p (Granted r) e v w k = ⊎_elim (λ u. u.1 k.0) other w
  where
    end_same : r.end ≡ r.start + size_of r - 1
    end_same = omega (arith, k.0)

    whole : r ≡ window r.start (size_of r)
    whole = λ i. record { start = r.start; end = end_same i }

    other : IsRange r.start r.end × Exactly p r.start (size_of r) (Refused e) → ⊥
    other u =
        let j = exactly_just p (size_of r) 1 r.start v (proper_just r.start r.end) in
        let d = does_unique p (asking (size_of r) 1 (ExactMatch r.start)) (Refused e) (Granted r) v.sound ((j (Refused e)).1 u.1) ((j (Granted r)).1 (k.1, subst (HasRoom p) whole k.2, whole)) in
        let z : ◌≡◌ {A = ℕ} 0 1 = cc (d) in
        omega arith
hinders_not p (Freed r) e v w k =
    let d = does_unique p (Release r) (Refused e) (Freed r) v.sound w (is_freed (granted_range p r v k)) in
    let z : ◌≡◌ {A = ℕ} 0 1 = cc (d) in
    omega arith
  where
    is_freed : IsRange r.start r.end → Frees p r (Freed r)
    is_freed i = (i, k, refl)
hinders_not p (Refused x) e v w k = w
