-- What is so after any sequence of operations, by induction over the events: `after_runs`.
--     runs_split                a sequence cut in two
--     out_true, out_back        granted is what was handed out and not given back since
--     ever_below, below_ever    the ids below next are those that were ever handed out
-- Assumes nothing.
use Rattle.std.proofs.Common.{Result, Ok, Err}
use mathlib.Core.Path.{◌≡◌, refl, sym, ap, ◌∙◌, subst}
use mathlib.Core.Logic.{◌⊎◌, inl, inr, ⊎_elim}
use mathlib.Core.Bool.{true, false, not}
use mathlib.Core.List.{List, [], ◌∷◌, ◌++◌}
use Prim.Native.Nat.{ℕ, ◌≤◌, ◌<◌}
use native.Mathlib.Omega.{arith}
use borrow.Author.Tests.{eqb-true, eq-eqb, ne_eqb}
use lib.Dec.{eqb}
use Rattle.ranges.specs.declared.Error.{Error}
use Rattle.ids.specs.State.{State, fresh, Allocates}
use Rattle.ids.specs.Runs.{Operation, Does, after, Event, Runs, Grants, Ever, Stays, Out, Valid, After}
use Rattle.ids.specs.Runs.Operation.{Allocate, Release}
use Rattle.ids.proofs.Tests.{order, or_true, and_true, or_left, or_right, and_first, and_both, allocate_release, release_allocate, not_refused, same_id, decided, false_true, is_either}
use Rattle.ids.proofs.Validity.{valid_fresh, valid_allocated, valid_freed, at_most_next}

-- ---- a sequence cut in two

pub runs_split : (s t : State) (xs ys : List Event) → Runs s (xs ++ ys) t → (m : State) × Runs s xs m × Runs m ys t
unfolding Runs
runs_split s t [] ys r = (s, refl, r)
runs_split s t (e ∷ xs) ys r =
    let q = runs_split (after s e.asked e.answer) t xs ys r.1 in
    (q.0, (r.0, q.1), q.2)

-- ---- the interval stays

after_interval : (s : State) (o : Operation) (r : Result ℕ Error) → ((after s o r).low ≡ s.low) × ((after s o r).high ≡ s.high)
after_interval s Allocate (Ok i) = (refl, refl)
after_interval s Allocate (Err e) = (refl, refl)
after_interval s (Release k) (Ok i) = (refl, refl)
after_interval s (Release k) (Err e) = (refl, refl)

pub runs_interval : (s t : State) (es : List Event) → Runs s es t → (t.low ≡ s.low) × (t.high ≡ s.high)
unfolding Runs
runs_interval s t [] r = (ap (λ (x : State). x.low) r, ap (λ (x : State). x.high) r)
runs_interval s t (e ∷ es) r =
    let q = runs_interval (after s e.asked e.answer) t es r.1 in
    let k = after_interval s e.asked e.answer in
    (q.0 ∙ k.0, q.1 ∙ k.1)

-- ---- every state on the way is valid

valid_after : (s : State) (o : Operation) (r : Result ℕ Error) → Valid s → Does s o r → Valid (after s o r)
valid_after s Allocate r h d = valid_allocated s r h d
valid_after s (Release i) r h d = valid_freed s i r h d

pub valid_runs : (s t : State) (es : List Event) → Valid s → Runs s es t → Valid t
unfolding Runs
valid_runs s t [] h r = subst Valid (sym r) h
valid_runs s t (e ∷ es) h r =
    valid_runs (after s e.asked e.answer) t es (valid_after s e.asked e.answer h r.0) r.1

-- ---- what is granted was handed out and not given back since

-- id i is granted after the event because the event hands it out, or because it was and the event does not give it back
abbrev Remains : State → Operation → Result ℕ Error → ℕ → Type 0
Remains s o r i = ((o ≡ Allocate) × (r ≡ Ok i)) ⊎ ((s.granted i ≡ true) × (((o ≡ Release i) × (r ≡ Ok i)) → ⊥))

pub step_true : (s : State) (o : Operation) (r : Result ℕ Error) (i : ℕ) → Does s o r → (after s o r).granted i ≡ true → Remains s o r i
step_true s Allocate (Ok k) i d g =
    ⊎_elim
    (λ (q : eqb i k ≡ true). inl (refl, ap Ok (sym (eqb-true i k q))))
    (λ (q : s.granted i ≡ true). inr (q, λ z. allocate_release i z.0))
    (or_true (eqb i k) (s.granted i) g)
step_true s Allocate (Err e) i d g = inr (g, λ z. allocate_release i z.0)
step_true s (Release k) (Ok l) i d g =
    inr (
      and_true (not (eqb i l)) (s.granted i) g,
      λ z.
          let n : eqb i l ≡ false = and_first (eqb i l) (s.granted i) g in
          let y : eqb i l ≡ true = eq-eqb i l (sym (same_id l i z.1)) in
          let x : ◌≡◌ {A = ℕ} 0 1 = cc (n, y) in
          omega arith,
    )
step_true s (Release k) (Err e) i d g = inr (g, λ z. not_refused i z.1)

pub step_back : (s : State) (o : Operation) (r : Result ℕ Error) (i : ℕ) → Does s o r → Remains s o r i → (after s o r).granted i ≡ true
step_back s Allocate (Ok k) i d (inl q) = or_left (eqb i k) (s.granted i) (eq-eqb i k (sym (same_id k i q.1)))
step_back s Allocate (Ok k) i d (inr q) = or_right (eqb i k) (s.granted i) q.0
step_back s Allocate (Err e) i d (inl q) = not_refused i q.1
step_back s Allocate (Err e) i d (inr q) = q.0
step_back s (Release k) (Ok l) i d (inl q) = release_allocate k q.0
step_back s (Release k) (Ok l) i d (inr q) =
    and_both (eqb i l) (s.granted i)
    (ne_eqb i l (λ z. q.1 (ap Release (sym d.0 ∙ sym z), ap Ok (sym z)))) q.0
step_back s (Release k) (Err e) i d (inl q) = release_allocate k q.0
step_back s (Release k) (Err e) i d (inr q) = q.0

pub out_true : (s t : State) (es : List Event) (i : ℕ) → Runs s es t → t.granted i ≡ true → Out es i ⊎ ((s.granted i ≡ true) × Stays es i)
unfolding Runs Out Stays
out_true s t [] i r g = inr (ap (λ (x : State). x.granted i) (sym r) ∙ g, tt)
out_true s t (e ∷ es) i r g =
    ⊎_elim
    (λ (o : Out es i). inl (inr o))
    (λ q.
    ⊎_elim
    (λ k. inl (inl (k, q.1)))
    (λ k. inr (k.0, (k.1, q.1)))
    (step_true s e.asked e.answer i r.0 q.0))
    (out_true (after s e.asked e.answer) t es i r.1 g)

pub out_back : (s t : State) (es : List Event) (i : ℕ) → Runs s es t → Out es i ⊎ ((s.granted i ≡ true) × Stays es i) → t.granted i ≡ true
unfolding Runs Out Stays
out_back s t [] i r (inl o) = absurd o
out_back s t [] i r (inr g) = ap (λ (x : State). x.granted i) r ∙ g.0
out_back s t (e ∷ es) i r (inl (inl o)) =
    out_back (after s e.asked e.answer) t es i r.1 (inr (step_back s e.asked e.answer i r.0 (inl o.0), o.1))
out_back s t (e ∷ es) i r (inl (inr o)) = out_back (after s e.asked e.answer) t es i r.1 (inl o)
out_back s t (e ∷ es) i r (inr g) =
    out_back (after s e.asked e.answer) t es i r.1 (inr (step_back s e.asked e.answer i r.0 (inr (g.0, g.1.0)), g.1.1))

-- ---- the ids below next are those that were ever handed out

-- next never falls
next_up : (s : State) (o : Operation) (r : Result ℕ Error) → s.next ≤ (after s o r).next
next_up s Allocate (Ok i) = omega arith
next_up s Allocate (Err e) = omega arith
next_up s (Release k) (Ok i) = omega arith
next_up s (Release k) (Err e) = omega arith

pub runs_up : (s t : State) (es : List Event) → Runs s es t → s.next ≤ t.next
unfolding Runs
runs_up s t [] r = rw r (omega arith)
runs_up s t (e ∷ es) r =
    let a = next_up s e.asked e.answer in
    let b = runs_up (after s e.asked e.answer) t es r.1 in
    omega arith

-- an id that an event hands out lies in the interval and below the next one
grant_below : (s : State) (o : Operation) (r : Result ℕ Error) (i : ℕ) → Does s o r → o ≡ Allocate → r ≡ Ok i → (s.low ≤ i) × (i < (after s o r).next)
grant_below s Allocate (Ok k) i d p q = let e : k ≡ i = same_id k i q in (omega (arith, d.0.0.0), omega arith)
grant_below s Allocate (Err e) i d p q = not_refused i q
grant_below s (Release k) r i d p q = release_allocate k p

pub ever_below : (s t : State) (es : List Event) (i : ℕ) → Runs s es t → Ever es i → (s.low ≤ i) × (i < t.next)
unfolding Runs Ever
ever_below s t [] i r v = absurd v
ever_below s t (e ∷ es) i r (inl g) =
    let b = grant_below s e.asked e.answer i r.0 g.0 g.1 in
    let u = runs_up (after s e.asked e.answer) t es r.1 in
    (b.0, omega (arith, b.1))
ever_below s t (e ∷ es) i r (inr v) =
    let b = ever_below (after s e.asked e.answer) t es i r.1 v in
    (omega (arith, b.0, (after_interval s e.asked e.answer).0), b.1)

-- an event that passes an id hands it out
passed : (s : State) (o : Operation) (r : Result ℕ Error) (i : ℕ) → Valid s → Does s o r → s.next ≤ i → i < (after s o r).next
    → (o ≡ Allocate) × (r ≡ Ok i)
passed s Allocate (Ok k) i h d a b = let m = at_most_next s k h d in let e : k ≡ i = omega arith in (refl, ap Ok e)
passed s Allocate (Err e) i h d a b = absurd (omega arith)
passed s (Release k) (Ok l) i h d a b = absurd (omega arith)
passed s (Release k) (Err e) i h d a b = absurd (omega arith)

pub below_ever : (s t : State) (es : List Event) (i : ℕ) → Valid s → Runs s es t → s.next ≤ i → i < t.next → Ever es i
unfolding Runs Ever
below_ever s t [] i h r a b = absurd (let e : t.next ≡ s.next = ap (λ (x : State). x.next) r in omega arith)
below_ever s t (e ∷ es) i h r a b =
    ⊎_elim
    (λ (k : (after s e.asked e.answer).next ≤ i).
    inr (below_ever (after s e.asked e.answer) t es i (valid_after s e.asked e.answer h r.0) r.1 k b))
    (λ (k : i < (after s e.asked e.answer).next). inl (passed s e.asked e.answer i h r.0 a k))
    (order (after s e.asked e.answer).next i)

-- ---- the theorem

-- from a fresh allocator on, granted is `Out`
module _ (low high : ℕ) (es : List Event) (t : State) (r : Runs (fresh low high) es t) where
  pub granted_out : (i : ℕ) → t.granted i ≡ true → Out es i
  granted_out i g =
      ⊎_elim (λ o. o) (λ q. absurd (false_true false refl q.0)) (out_true (fresh low high) t es i r g)

  pub out_granted : (i : ℕ) → Out es i → t.granted i ≡ true
  out_granted i o = out_back (fresh low high) t es i r (inl o)

granted_before : (low high : ℕ) (es before rest : List Event) (e : Event) (i : ℕ) (t : State) → Runs (fresh low high) es t
    → es ≡ before ++ (e ∷ rest) → Grants e i → Out before i → ⊥
unfolding Runs
granted_before low high es before rest e i t r q g o =
    let c = runs_split (fresh low high) t before (e ∷ rest) (subst (λ (l : List Event). Runs (fresh low high) l t) q r) in
    let d : Allocates c.0 (Ok i) = subst (λ (x : Operation). Does c.0 x (Ok i)) g.0 (subst (λ (x : Result ℕ Error). Does c.0 e.asked x) g.1 c.2.0) in
    false_true (c.0.granted i) d.0.1 (out_granted low high before c.0 c.1 i o)

pub after_runs : (low high : ℕ) (es : List Event) (t : State) → low ≤ high → Runs (fresh low high) es t → After low high es t
after_runs low high es t h r =
    let same = runs_interval (fresh low high) t es r in
    let valid = valid_runs (fresh low high) t es (valid_fresh low high h) r in
    record {
      same_low = same.0;
      same_high = same.1;
      either = λ i w. ⊎_elim (λ f. inl (w, f)) (λ g. inr g) (is_either (t.granted i));
      not_both = λ i f g. false_true (t.granted i) f.1 g;
      inside = λ i g. let b = valid.below i g in (b.0, omega (arith, b.1, valid.to_high));
      out = λ i. decided (t.granted i) (granted_out low high es t r i) (out_granted low high es t r i);
      one_holder = λ before rest e i q g o. granted_before low high es before rest e i t r q g o;
      ever = λ i v. ever_below (fresh low high) t es i r v;
      all_below = λ i a b. below_ever (fresh low high) t es i (valid_fresh low high h) r a b;
    }
