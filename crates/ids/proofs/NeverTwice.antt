-- No id is handed out twice without being given back in between: `never_twice` of any run, `chain_never_twice` of any calls on one block.
-- Assumes nothing.
use Rattle.std.proofs.Common.{Result, Ok, Err}
use mathlib.Core.Path.{◌≡◌, refl, sym, ap, ◌∙◌, subst}
use mathlib.Core.Logic.{inl, inr, ⊎_elim}
use mathlib.Core.Bool.{Bool, true, false, not, ◌&&◌, ◌||◌}
use mathlib.Core.List.{List, [], ◌∷◌, ◌++◌}
use Prim.Native.Nat.{ℕ}
use borrow.Author.Tests.{eqb-true, eq-eqb}
use lib.Dec.{eqb}
use Rattle.ranges.specs.declared.Error.{Error}
use Rattle.ids.specs.State.{State, fresh, Allocates}
use Rattle.ids.specs.Runs.{Operation, Does, after, Event, Runs, Grants}
use Rattle.ids.specs.Runs.Operation.{Allocate, Release}
use Rattle.ids.specs.NeverTwice.{GivenBack, NeverTwice}
use Rattle.ids.specs.Contract.{Makes, Chain}
use Rattle.ids.proofs.Tests.{or_left, or_right, false_true, is_either}
use Rattle.ids.proofs.RunLaws.{runs_split}
use Rattle.ids.proofs.Chains.{chain_runs}

and_false : (a b : Bool) → b ≡ true → not a && b ≡ false → a ≡ true
and_false true b p q = refl
and_false false b p q = absurd (false_true b q p)

-- an event after which a granted id is no longer granted gives it back
step_false : (s : State) (o : Operation) (r : Result ℕ Error) (i : ℕ) → Does s o r → s.granted i ≡ true → (after s o r).granted i ≡ false
    → (o ≡ Release i) × (r ≡ Ok i)
step_false s Allocate (Ok k) i d g f = absurd (false_true (eqb i k || s.granted i) f (or_right (eqb i k) (s.granted i) g))
step_false s Allocate (Err e) i d g f = absurd (false_true (s.granted i) f g)
step_false s (Release k) (Ok l) i d g f =
    let e : i ≡ l = eqb-true i l (and_false (eqb i l) (s.granted i) g f) in
    (ap Release (sym d.0 ∙ sym e), ap Ok (sym e))
step_false s (Release k) (Err e) i d g f = absurd (false_true (s.granted i) f g)

lost : (s t : State) (es : List Event) (i : ℕ) → Runs s es t → s.granted i ≡ true → t.granted i ≡ false → GivenBack es i
unfolding Runs GivenBack
lost s t [] i r g f = false_true (s.granted i) (ap (λ (x : State). x.granted i) (sym r) ∙ f) g
lost s t (e ∷ es) i r g f =
    ⊎_elim
    (λ h. inl (step_false s e.asked e.answer i r.0 g h))
    (λ h. inr (lost (after s e.asked e.answer) t es i r.1 h f))
    (is_either ((after s e.asked e.answer).granted i))

-- what an event that hands out i is in its state
granting : (s : State) (e : Event) (i : ℕ) → Grants e i → Does s e.asked e.answer → Allocates s (Ok i)
granting s e i g d = subst (λ (x : Operation). Does s x (Ok i)) g.0 (subst (λ (x : Result ℕ Error). Does s e.asked x) g.1 d)

granted_after : (s : State) (e : Event) (i : ℕ) → Grants e i → (after s e.asked e.answer).granted i ≡ true
granted_after s e i g =
    subst (λ (x : Result ℕ Error). (after s e.asked x).granted i ≡ true) (sym g.1)
    (subst (λ (x : Operation). (after s x (Ok i)).granted i ≡ true) (sym g.0) (or_left (eqb i i) (s.granted i) (eq-eqb i i refl)))

pub never_twice : (s t : State) (es : List Event) → Runs s es t → NeverTwice es
unfolding Runs NeverTwice
never_twice s t es r before between behind d e i q x y =
    let a = runs_split s t before (d ∷ (between ++ (e ∷ behind))) (subst (λ (l : List Event). Runs s l t) q r) in
    let b = runs_split (after a.0 d.asked d.answer) t between (e ∷ behind) a.2.1 in
    lost (after a.0 d.asked d.answer) b.0 between i b.1 (granted_after a.0 d i x) (granting b.0 e i y b.2.0).0.1

-- of calls on a block that `new` made
pub chain_never_twice : (b m z : List ℕ) (low high : ℕ) (es : List Event) → Makes b low high (Ok tt) m → Chain m es z → NeverTwice es
chain_never_twice b m z low high es k c =
    let q = chain_runs m z (fresh low high) es k.2 c in
    never_twice (fresh low high) q.0 es q.1
