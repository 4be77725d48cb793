-- Going back to a state, on from a claim, and the verdict.
--     grant_told, release_told, nothing_told     the state after going on from a claim
--     settle_right, settle_wrong, audited        the verdict
--     hinders_not                                a claim that the block does not go on from is none that it could go on from
-- Assumes nothing.
use Rattle.std.proofs.Common.{Result, Ok, Err}
use Prim.Native.Nat.{ℕ, ◌+◌, ◌<◌, max}
use mathlib.Core.Path.{◌≡◌, refl, sym, ◌∙◌, ap, subst}
use mathlib.Core.Bool.{true, false, not, ◌&&◌, ◌||◌}
use mathlib.Core.Logic.{⊎_elim}
use mathlib.Core.List.{List}
use native.Mathlib.Decide.{ℕ_discrete}
use native.Mathlib.Omega.{arith}
use lib.Dec.{eqb}
use borrow.Author.Tests.{eq-eqb, ne_eqb}
use Rattle.ranges.specs.declared.Error.{Error}
use Rattle.ids.specs.State.{State, grant, release, Allocates, Frees, allocated, freed}
use Rattle.ids.specs.Runs.{Operation, Allocate, Release, Does}
use Rattle.ids.specs.Exact.{Asks, Takes}
use Rattle.ids.specs.Held.{Holds}
use Rattle.ids.specs.Contract.{Performs}
use Rattle.ids.proofs.Unique.{does_one}
use Rattle.verdict.specs.declared.Verdict.{Verdict}
use Rattle.verdict.specs.declared.Verdict.TheVariants.{Right, Followed, Stayed}
use Rattle.id_audit.specs.Verdicts.{Possible, Hinders, Judged}
use Rattle.id_audit.specs.Steps.{Goes, FollowsGrant, FollowsRelease, Undoes, Settles}

-- ---- going back

-- an id that was taken back and granted again
module _ (s : State) (k : ℕ) (was : s.granted k ≡ true) (below : k < s.next) where
  granted_again : (j : ℕ) → eqb j k || (not (eqb j k) && s.granted j) ≡ s.granted j
  granted_again j = go (ℕ_discrete j k)
    where
      go : Dec (j ≡ k) → eqb j k || (not (eqb j k) && s.granted j) ≡ s.granted j
      go (yes e) = rw (eq-eqb j k e) (sym (ap s.granted e ∙ was))
      go (no n) = rw (ne_eqb j k n)

  next_again : max s.next (k + 1) ≡ s.next
  next_again = omega arith

  again : grant (release s k) k ≡ s
  again = λ i. record { low = s.low; high = s.high; next = next_again i; granted = λ j. granted_again j i }

  not_granted : (release s k).granted k ≡ true → ⊥
  not_granted e = let z : ◌≡◌ {A = ℕ} 0 1 = cc (e, taken_back) in omega arith
    where
      taken_back : not (eqb k k) && s.granted k ≡ false
      taken_back = rw (eq-eqb k k refl)

-- ---- going on

-- the outcome, by the answer of the operation that does it
abbrev pub outcome : Result ℕ Error → Result Unit Error
outcome (Ok k) = Ok tt
outcome (Err e) = Err e

pub grant_told : (m m' : List ℕ) (claim : Result ℕ Error) (k : ℕ) (x : Result ℕ Error) (t : Result Unit Error) → claim ≡ Ok k → outcome x ≡ t → Takes m k x m' → FollowsGrant m claim t m'
unfolding Goes Possible Hinders
grant_told m m' claim k x t e q g s h = subst (λ (y : Result ℕ Error). Goes s Allocate y t m') (sym e) (subst (λ (u : Result Unit Error). Goes s Allocate (Ok k) u m') q (go x g))
  where
    go : (x : Result ℕ Error) → Takes m k x m' → Goes s Allocate (Ok k) (outcome x) m'
    go (Ok j) g =
        let w = g.right s h in
        (w.0.1, subst (λ (n : ℕ). Holds m' (grant s n)) w.0.0 w.1)
    go (Err r) g = g.right s h

pub release_told : (m m' : List ℕ) (claim : Result ℕ Error) (k : ℕ) (x : Result ℕ Error) (t : Result Unit Error) → claim ≡ Ok k → outcome x ≡ t → Performs m (Release k) x m' → FollowsRelease m claim t m'
unfolding Goes Possible Hinders
release_told m m' claim k x t e q f s i h = subst (λ (y : Result ℕ Error). Goes s (Release i) y t m') (sym e) (subst (λ (u : Result Unit Error). Goes s (Release i) (Ok k) u m') q (go x f))
  where
    go : (x : Result ℕ Error) → Performs m (Release k) x m' → Goes s (Release i) (Ok k) (outcome x) m'
    go (Ok j) f =
        let w = f.right s h in
        (subst (λ (n : ℕ). Frees s k (Ok n)) w.0.0 w.0, subst (λ (n : ℕ). Holds m' (release s n)) w.0.0 w.1)
    go (Err r) f = f.right s h

-- of a claimed refusal there is nothing to do
pub nothing_told : (m : List ℕ) (o : Operation) (claim : Result ℕ Error) (e : Error) → claim ≡ Err e → (s : State) → Holds m s → Goes s o claim (Ok tt) m
unfolding Goes Possible
nothing_told m Allocate claim e q s h = subst (λ (y : Result ℕ Error). Goes s Allocate y (Ok tt) m) (sym q) (tt, h)
nothing_told m (Release i) claim e q s h = subst (λ (y : Result ℕ Error). Goes s (Release i) y (Ok tt) m) (sym q) (tt, h)

-- ---- the verdict

-- by whether the block went on from the claim
abbrev pub verdict : Result ℕ Error → Result Unit Error → Verdict (Result ℕ Error)
verdict x (Ok tt) = Followed x
verdict x (Err e) = Stayed x e

pub wrong : (s : State) (o : Operation) (x claim : Result ℕ Error) (t : Result Unit Error) (m' : List ℕ) → (x ≡ claim → ⊥) → Does s o x → Goes s o claim t m' → Judged s o claim (verdict x t) m'
unfolding Judged Goes
wrong s o x claim (Ok tt) m' n d g = (λ c. n (does_one s o x claim d c), d, g.0, g.1)
wrong s o x claim (Err e) m' n d g = (λ c. n (does_one s o x claim d c), d, g.0, g.1)

pub settle_right : (m : List ℕ) (x claim : Result ℕ Error) → x ≡ claim → Settles m x claim Right m
unfolding Judged
settle_right m x claim e s i f h = (subst (λ (y : Result ℕ Error). Frees s i y) e f, subst (λ (y : Result ℕ Error). Holds m (freed s y)) e h)

pub settle_wrong : (m n m' : List ℕ) (x claim : Result ℕ Error) (r t : Result Unit Error) → r ≡ t → (x ≡ claim → ⊥) → Undoes m x n → FollowsRelease n claim r m' → Settles m x claim (verdict x t) m'
settle_wrong m n m' x claim r t e k u f s i d h = wrong s (Release i) x claim t m' k d (subst (λ (y : Result Unit Error). Goes s (Release i) claim y m') e (f s i (u s i d h)))

-- a give-back: the operation, then the verdict
pub audited : (m n m' : List ℕ) (i : ℕ) (x claim : Result ℕ Error) (t : Verdict (Result ℕ Error)) → Performs m (Release i) x n → Settles n x claim t m' → (s : State) → Holds m s → Judged s (Release i) claim t m'
audited m n m' i x claim t f g s h =
    let w = f.right s h in
    g s i w.0 w.1

-- a grant that is claimed rightly is done
pub granted_right : (m m' : List ℕ) (x claim y : Result ℕ Error) → Asks m x → x ≡ claim → Performs m Allocate y m' → (s : State) → Holds m s → Judged s Allocate claim Right m'
unfolding Judged
granted_right m m' x claim y a e f s h =
    let w = f.right s h in
    let d : Allocates s claim = subst (λ (z : Result ℕ Error). Allocates s z) e (a s h) in
    (d, subst (λ (z : Result ℕ Error). Holds m' (allocated s z)) (does_one s Allocate y claim w.0 d) w.1)

pub granted_wrong : (m m' : List ℕ) (x claim : Result ℕ Error) (r t : Result Unit Error) → r ≡ t → Asks m x → (x ≡ claim → ⊥) → FollowsGrant m claim r m' → (s : State) → Holds m s → Judged s Allocate claim (verdict x t) m'
granted_wrong m m' x claim r t e a n f s h = wrong s Allocate x claim t m' n (a s h) (subst (λ (y : Result Unit Error). Goes s Allocate claim y m') e (f s h))

-- where there is a reason against a claim, a state cannot go on from it
pub hinders_not : (s : State) (o : Operation) (claim : Result ℕ Error) (e : Error) → Hinders s o claim e → Possible s o claim → ⊥
unfolding Hinders Possible
hinders_not s Allocate (Ok k) e w p = ⊎_elim (λ u. u.1 p.0) (λ u. let z : ◌≡◌ {A = ℕ} 0 1 = cc (u.2, p.1) in omega arith) w
hinders_not s (Release i) (Ok k) e w p =
    let d = does_one s (Release k) (Err e) (Ok k) w p in
    let z : ◌≡◌ {A = ℕ} 0 1 = cc (d) in
    omega arith
hinders_not s Allocate (Err x) e w p = w
hinders_not s (Release i) (Err x) e w p = w
