-- Every run of the definition is one of the allocator as the Rust keeps it, with our test in free (`runs_ledger`): the definition's marks say of the ids below
-- next which are back.
-- Assumes nothing.
use Rattle.std.proofs.Common.{Result, Ok, Err}
use mathlib.Core.Path.{◌≡◌, refl, sym, ap, ◌∙◌, subst}
use mathlib.Core.Logic.{◌⊎◌, inl, inr, ⊎_elim}
use mathlib.Core.Bool.{Bool, true, false, not, ◌&&◌, ◌||◌}
use mathlib.Core.List.{List, [], ◌∷◌}
use Prim.Native.Nat.{ℕ, ◌+◌, ◌≤◌, ◌<◌}
use native.Mathlib.Omega.{arith}
use borrow.Author.Tests.{eqb-true, eq-eqb}
use lib.Dec.{eqb}
use Rattle.bits.proofs.Levels.{same?}
use Rattle.ranges.specs.declared.Error.{Error}
use Rattle.ids.specs.State.{State, fresh, Allocates, Frees}
use Rattle.ids.specs.Runs.{Operation, Does, after, Event, event, Runs, Valid}
use Rattle.ids.specs.Runs.Operation.{Allocate, Release}
use Rattle.ids.specs.Ledger.{Ledger, start, Before, Turn, again, first, freed, refused, Turns, none, more}
use Rattle.ids.proofs.Tests.{order, or_true, and_true, and_first, and_both, or_left, or_right, false_true, not_true}
use Rattle.ids.proofs.Validity.{valid_fresh, valid_allocated, valid_freed, at_most_next}
use Rattle.ids.proofs.LedgerLaws.{or_false, and_false, taken_false}

-- the two keep the same: back are the ids of the interval below next that are not granted
record As (s : State) (k : Ledger) : Type 0 where
  valid : Valid s
  next : k.next ≡ s.next
  back : (j : ℕ) → k.back j ≡ true → (s.low ≤ j) × (j < s.next) × (s.granted j ≡ false)
  all : (j : ℕ) → s.low ≤ j → j < s.next → s.granted j ≡ false → k.back j ≡ true

-- neither of two is so
neither : (a b : Bool) → a || b ≡ false → (a ≡ false) × (b ≡ false)
neither true b e = absurd (false_true true e refl)
neither false b e = (refl, e)

-- one that is so, or another that is not
without : (a b : Bool) → not a && b ≡ false → (a ≡ true) ⊎ (b ≡ false)
without true b e = inl refl
without false b e = inr e

-- what a step of the definition is
abbrev Step : State → Ledger → Operation → Result ℕ Error → Type 0
Step s k o r = (l : Ledger) × Turn Before k (event o r) l × As (after s o r) l

-- an id that was given back is granted again
grant_again : (s : State) (k : Ledger) (i : ℕ) → As s k → Allocates s (Ok i) → i < s.next → Step s k Allocate (Ok i)
grant_again s k i a d h = (
  record { next = k.next; back = λ j. not (eqb j i) && k.back j },
  again (a.all i d.0.0.0 h d.0.1),
  record {
    valid = valid_allocated s (Ok i) a.valid d;
    next = omega (arith, a.next);
    back = λ j b.
        let w = a.back j (and_true (not (eqb j i)) (k.back j) b) in
        (w.0, omega (arith, w.1), or_false (eqb j i) (s.granted j) (and_first (eqb j i) (k.back j) b) w.2);
    all = λ j l m g.
        let n = neither (eqb j i) (s.granted j) g in
        and_both (eqb j i) (k.back j) n.0 (a.all j l (omega arith) n.1);
  },
)

-- the next id is granted
grant_next : (s : State) (k : Ledger) (i : ℕ) → As s k → Allocates s (Ok i) → i ≡ s.next → Step s k Allocate (Ok i)
grant_next s k i a d e =
    let empty : (j : ℕ) → k.back j ≡ false = λ j. not_true (k.back j) (λ b.
    let w = a.back j b in omega (arith, w.1, d.1 j ((w.0, omega (arith, w.1, a.valid.to_high)), w.2))) in
    let l : Ledger = record { next = k.next + 1; back = k.back } in (
      l,
      subst (λ (x : ℕ). Turn Before k (event Allocate (Ok x)) l) (a.next ∙ sym e) (first empty),
      record {
        valid = valid_allocated s (Ok i) a.valid d;
        next = omega (arith, a.next);
        back = λ j b. absurd (false_true (k.back j) (empty j) b);
        all = λ j l m g.
            let n = neither (eqb j i) (s.granted j) g in
            ⊎_elim
            (λ (q : j ≡ i). absurd (false_true (eqb j i) n.0 (eq-eqb j i q)))
            (λ (q : j ≡ i → ⊥). a.all j l (⊎_elim (λ (b : s.next ≤ j). absurd (q (omega arith))) (λ (b : j < s.next). b) (order s.next j)) n.1)
            (same? j i);
      },
    )

-- an id is given back
give_back : (s : State) (k : Ledger) (i x : ℕ) → As s k → Frees s i (Ok x) → Step s k (Release i) (Ok x)
give_back s k i x a d =
    let l : Ledger = record { next = k.next; back = λ j. eqb j x || k.back j } in
    let low : s.low ≤ x = omega (arith, d.0, d.1.0) in
    let below : x < k.next = omega (arith, d.0, d.2, a.next) in
    let was : s.granted x ≡ true = ap s.granted d.0 ∙ d.3 in
    let out : k.back x ≡ false = not_true (k.back x) (λ b. false_true (s.granted x) (a.back x b).2 was) in (
      l,
      subst (λ (y : ℕ). Turn Before k (event (Release y) (Ok x)) l) d.0 (freed below out),
      record {
        valid = valid_freed s i (Ok x) a.valid d;
        next = a.next;
        back = λ j b.
            ⊎_elim
            (λ (q : eqb j x ≡ true). let e = eqb-true j x q in (omega arith, omega (arith, a.next), taken_false (eqb j x) (s.granted j) q))
            (λ (q : k.back j ≡ true). let w = a.back j q in (w.0, w.1, and_false (eqb j x) (s.granted j) w.2))
            (or_true (eqb j x) (k.back j) b);
        all = λ j l m g.
            ⊎_elim
            (λ (q : eqb j x ≡ true). or_left (eqb j x) (k.back j) q)
            (λ (q : s.granted j ≡ false). or_right (eqb j x) (k.back j) (a.all j l m q))
            (without (eqb j x) (s.granted j) g);
      },
    )

step : (s : State) (k : Ledger) (o : Operation) (r : Result ℕ Error) → As s k → Does s o r → Step s k o r
step s k Allocate (Ok i) a d =
    ⊎_elim
    (λ (h : s.next ≤ i). grant_next s k i a d (let m = at_most_next s i a.valid d in let e : i ≡ s.next = omega arith in e))
    (λ (h : i < s.next). grant_again s k i a d h)
    (order s.next i)
step s k Allocate (Err e) a d = (k, refused, a)
step s k (Release i) (Ok x) a d = give_back s k i x a d
step s k (Release i) (Err e) a d = (k, refused, a)

turns : (s t : State) (k : Ledger) (es : List Event) → As s k → Runs s es t → Turns Before k es
unfolding Runs
turns s t k [] a r = none
turns s t k (e ∷ es) a r =
    let w = step s k e.asked e.answer a r.0 in
    more w.1 (turns (after s e.asked e.answer) t w.0 es w.2 r.1)

pub runs_ledger : (low high : ℕ) (es : List Event) (t : State) → low ≤ high → Runs (fresh low high) es t → Turns Before (start low) es
runs_ledger low high es t h r =
    turns (fresh low high) t (start low) es
    record {
      valid = valid_fresh low high h;
      next = refl;
      back = λ j b. absurd (false_true false refl b);
      all = λ j l m g. absurd (omega arith);
    }
    r
