-- The next answers depend on nothing but which ids are granted now and which ever were.
--     allocate_alike       for `allocate`, on which are granted now
--     same_future          for any operations, on that and on next
--     history_free         the same, said of two histories from fresh on
--     runs_some, runs_one  a list of operations has exactly one list of answers
-- Assumes nothing.
use Rattle.std.proofs.Common.{Result, Ok, Err}
use mathlib.Core.Path.{◌≡◌, refl, sym, ap, ap₂, ◌∙◌, subst}
use mathlib.Core.Logic.{inl, inr, ⊎_elim}
use mathlib.Core.Bool.{Bool, not, ◌&&◌, ◌||◌}
use mathlib.Core.List.{List, [], ◌∷◌}
use Prim.Native.Nat.{ℕ, ◌+◌, ◌-◌, ◌^◌, ◌≤◌, ◌<◌, max}
use native.Mathlib.Nat.{le_antisymm}
use native.Mathlib.Omega.{arith}
use lib.Dec.{eqb}
use Rattle.ranges.specs.declared.Error.{Error}
use Rattle.ids.specs.State.{State, Within, Free, fresh, exhausted, Allocates, Frees}
use Rattle.ids.specs.Runs.{Operation, Does, after, Event, event, Runs, Ever, Out, Alike, questions, SameFuture}
use Rattle.ids.specs.Runs.Operation.{Allocate, Release}
use Rattle.ids.proofs.Tests.{order, same_bool}
use Rattle.ids.proofs.Unique.{allocates_one, does_one, does_some}
use Rattle.ids.proofs.RunLaws.{runs_interval, runs_up, granted_out, out_granted, after_runs}

module _ (s t : State) (a : Alike s t) where
  there : (i : ℕ) → Within s i → Within t i
  there i w = (omega (arith, a.same_low, w.0), omega (arith, a.same_high, w.1))

  back : (i : ℕ) → Within t i → Within s i
  back i w = (omega (arith, a.same_low, w.0), omega (arith, a.same_high, w.1))

  free_there : (i : ℕ) → Free s i → Free t i
  free_there i f = (there i f.0, sym (a.same_granted i f.0) ∙ f.1)

  free_back : (i : ℕ) → Free t i → Free s i
  free_back i f = let w = back i f.0 in (w, a.same_granted i w ∙ f.1)

  allocates_there : (r : Result ℕ Error) → Allocates s r → Allocates t r
  allocates_there (Ok i) p = (free_there i p.0, λ j f. p.1 j (free_back j f))
  allocates_there (Err e) p =
      ((λ j f. p.0 j (free_back j f)), p.1 ∙ ap (λ (h : ℕ). exhausted (eqb h (2 ^ 32 - 1))) a.same_high)

  -- which ids are granted now settles what `allocate` answers
  pub allocate_alike : (r q : Result ℕ Error) → Allocates s r → Allocates t q → r ≡ q
  allocate_alike r q p k = allocates_one t r q (allocates_there r p) k

  module _ (n : s.next ≡ t.next) where
    frees_there : (i : ℕ) (r : Result ℕ Error) → Frees s i r → Frees t i r
    frees_there i (Ok k) p = (p.0, there i p.1, omega (arith, p.2), sym (a.same_granted i p.1) ∙ p.3)
    frees_there i (Err e) (inl p) = inl (p.0, λ w. p.1 (back i w))
    frees_there i (Err e) (inr (inl p)) = inr (inl (p.0, there i p.1, omega (arith, p.2)))
    frees_there i (Err e) (inr (inr p)) =
        inr (inr (p.0, there i p.1, omega (arith, p.2), sym (a.same_granted i p.1) ∙ p.3))

    does_there : (o : Operation) (r : Result ℕ Error) → Does s o r → Does t o r
    does_there Allocate r d = allocates_there r d
    does_there (Release i) r d = frees_there i r d

    -- the states after one answer are alike again
    alike_after : (o : Operation) (r : Result ℕ Error) → Alike (after s o r) (after t o r)
    alike_after Allocate (Ok i) = record {
      same_low = a.same_low;
      same_high = a.same_high;
      same_granted = λ j w. ap (λ (b : Bool). eqb j i || b) (a.same_granted j w);
    }
    alike_after Allocate (Err e) = a
    alike_after (Release k) (Ok i) = record {
      same_low = a.same_low;
      same_high = a.same_high;
      same_granted = λ j w. ap (λ (b : Bool). not (eqb j i) && b) (a.same_granted j w);
    }
    alike_after (Release k) (Err e) = a

    next_after : (o : Operation) (r : Result ℕ Error) → (after s o r).next ≡ (after t o r).next
    next_after Allocate (Ok i) = ap (λ (x : ℕ). max x (i + 1)) n
    next_after Allocate (Err e) = n
    next_after (Release k) (Ok i) = n
    next_after (Release k) (Err e) = n

-- the first of two lists of operations, and the rest
first_asked : (o p : Operation) (os ps : List Operation) → o ∷ os ≡ p ∷ ps → (o ≡ p) × (os ≡ ps)
first_asked o p os ps e = (cc (e), cc (e))

none_some : {A : Type 0} (o : Operation) (os : List Operation) → [] ≡ o ∷ os → A
none_some o os e = let z : ◌≡◌ {A = ℕ} 0 1 = cc (e) in absurd (omega arith)

some_none : {A : Type 0} (o : Operation) (os : List Operation) → o ∷ os ≡ [] → A
some_none o os e = let z : ◌≡◌ {A = ℕ} 0 1 = cc (e) in absurd (omega arith)

future : (s t : State) → Alike s t → s.next ≡ t.next → (es fs : List Event) (u v : State) → Runs s es u → Runs t fs v
    → questions es ≡ questions fs → es ≡ fs
unfolding Runs questions
future s t a n [] [] u v r q h = refl
future s t a n [] (f ∷ fs) u v r q h = none_some f.asked (questions fs) h
future s t a n (e ∷ es) [] u v r q h = some_none e.asked (questions es) h
future s t a n (e ∷ es) (f ∷ fs) u v r q h =
    let k = first_asked e.asked f.asked (questions es) (questions fs) h in
    let d : Does t e.asked f.answer = subst (λ (o : Operation). Does t o f.answer) (sym k.0) q.0 in
    let same : e.answer ≡ f.answer = does_one t e.asked e.answer f.answer (does_there s t a n e.asked e.answer r.0) d in
    let e_f : e ≡ f = ap₂ event k.0 same in
    let rest : Runs (after t e.asked e.answer) fs v =
    subst (λ (g : Event). Runs (after t g.asked g.answer) fs v) (sym e_f) q.1 in
    ap₂ (λ (x : Event) (xs : List Event). x ∷ xs) e_f
    (future (after s e.asked e.answer) (after t e.asked e.answer) (alike_after s t a n e.asked e.answer)
    (next_after s t a n e.asked e.answer) es fs u v r.1 rest k.1)

pub same_future : (s t : State) → Alike s t → s.next ≡ t.next → SameFuture s t
unfolding SameFuture
same_future s t a n = future s t a n

-- ---- exactly one list of answers

pub runs_one : (s : State) → SameFuture s s
runs_one s = same_future s s record { same_low = refl; same_high = refl; same_granted = λ i w. refl } refl

pub runs_some : (s : State) (os : List Operation) → (es : List Event) × (t : State) × Runs s es t × (questions es ≡ os)
unfolding Runs questions
runs_some s [] = ([], s, refl, refl)
runs_some s (o ∷ os) =
    let d = does_some s o in
    let q = runs_some (after s o d.0) os in
    (event o d.0 ∷ q.0, q.1, (d.1, q.2), ap (λ (l : List Operation). o ∷ l) q.3)

-- ---- two histories

module _ (low high : ℕ) (h : low ≤ high) (es fs : List Event) (s t : State) (r : Runs (fresh low high) es s) (q : Runs (fresh low high) fs t) where
  -- the same ids are out: the states are alike
  alike : ((i : ℕ) → (Out es i → Out fs i) × (Out fs i → Out es i)) → Alike s t
  alike o =
      let a = runs_interval (fresh low high) s es r in
      let b = runs_interval (fresh low high) t fs q in
      record {
        same_low = a.0 ∙ sym b.0;
        same_high = a.1 ∙ sym b.1;
        same_granted = λ i w. same_bool (s.granted i) (t.granted i)
            (λ g. out_granted low high fs t q i ((o i).0 (granted_out low high es s r i g)))
            (λ g. out_granted low high es s r i ((o i).1 (granted_out low high fs t q i g)));
      }

  -- the same ids were ever handed out: next is the same
  same_next : ((i : ℕ) → (Ever es i → Ever fs i) × (Ever fs i → Ever es i)) → s.next ≡ t.next
  same_next e =
      let x = after_runs low high es s h r in
      let y = after_runs low high fs t h q in
      let a : low ≤ s.next = runs_up (fresh low high) s es r in
      let b : low ≤ t.next = runs_up (fresh low high) t fs q in
      ⊎_elim
      (λ (k : s.next ≤ t.next). ⊎_elim
      (λ (l : t.next ≤ s.next). le_antisymm k l)
      (λ (l : s.next < t.next). absurd (omega (arith, (x.ever s.next ((e s.next).1 (y.all_below s.next a l))).1)))
      (order t.next s.next))
      (λ (k : t.next < s.next). absurd (omega (arith, (y.ever t.next ((e t.next).0 (x.all_below t.next b k))).1)))
      (order s.next t.next)

  pub history_free : ((i : ℕ) → (Out es i → Out fs i) × (Out fs i → Out es i)) → ((i : ℕ) → (Ever es i → Ever fs i) × (Ever fs i → Ever es i))
      → SameFuture s t
  history_free o e = same_future s t (alike o) (same_next e)

  -- for `allocate` alone the ids that are out are enough
  pub allocate_history_free : ((i : ℕ) → (Out es i → Out fs i) × (Out fs i → Out es i)) → (x y : Result ℕ Error) → Allocates s x → Allocates t y → x ≡ y
  allocate_history_free o x y p k = allocate_alike s t (alike o) x y p k
