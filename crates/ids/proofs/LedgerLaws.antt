-- Ledger as the Rust keeps it, no id is handed out twice where free tests that the id lies below next (`ledger_never_twice`); with the test that the Rust had,
-- that it does not lie above next, one is (`old_twice`).
-- Assumes nothing.
use Rattle.std.proofs.Common.{Ok}
use mathlib.Core.Path.{◌≡◌, refl, sym, ap, ◌∙◌, subst}
use mathlib.Core.Logic.{◌⊎◌, inl, inr, ⊎_elim}
use mathlib.Core.Bool.{Bool, true, false, not, ◌&&◌, ◌||◌}
use mathlib.Core.List.{List, [], ◌∷◌, ◌++◌}
use Prim.Native.Nat.{ℕ, ◌<◌}
use native.Mathlib.Omega.{arith}
use borrow.Author.Tests.{eqb-true, eq-eqb, ne_eqb}
use lib.Dec.{eqb}
use Rattle.bits.proofs.Levels.{same?}
use Rattle.ids.specs.Runs.{Event, event, Grants, Returns}
use Rattle.ids.specs.Runs.Operation.{Allocate, Release}
use Rattle.ids.specs.NeverTwice.{GivenBack, NeverTwice}
use Rattle.ids.specs.Ledger.{Ledger, start, Before, NotAbove, Turn, again, first, freed, refused, Turns, none, more}
use Rattle.ids.proofs.Tests.{or_true, and_true, false_true, same_id, not_refused, release_allocate}

-- what was given back was granted before
abbrev Fair : Ledger → Type 0
Fair k = (j : ℕ) → k.back j ≡ true → j < k.next

-- i was granted, and is not back
abbrev Away : Ledger → ℕ → Type 0
Away k i = (i < k.next) × (k.back i ≡ false)

pub or_false : (a b : Bool) → a ≡ false → b ≡ false → a || b ≡ false
or_false true b p q = p
or_false false b p q = q

pub and_false : (a b : Bool) → b ≡ false → not a && b ≡ false
and_false true b q = refl
and_false false b q = q

pub taken_false : (a b : Bool) → a ≡ true → not a && b ≡ false
taken_false true b p = refl
taken_false false b p = absurd (false_true false refl p)

fair_step : {k l : Ledger} {e : Event} → Fair k → Turn Before k e l → Fair l
fair_step f (again {k} {i} b) = λ j h. f j (and_true (not (eqb j i)) (k.back j) h)
fair_step f (first {k} n) = λ j h. omega (arith, f j h)
fair_step f (freed {k} {i} t b) = λ j h. ⊎_elim (λ g. let q = eqb-true j i g in omega (arith, t)) (λ g. f j g) (or_true (eqb j i) (k.back j) h)
fair_step f refused = f

-- after its grant an id is away
granted_away : {k l : Ledger} {e : Event} (x : ℕ) → Fair k → Turn Before k e l → Grants e x → Away l x
granted_away x f (again {k} {i} b) g =
    let q : i ≡ x = same_id i x g.1 in
    (subst (λ (y : ℕ). y < k.next) q (f i b), taken_false (eqb x i) (k.back x) (eq-eqb x i (sym q)))
granted_away x f (first {k} n) g = let q : k.next ≡ x = same_id k.next x g.1 in (omega arith, n x)
granted_away x f (freed {k} {i} t b) g = release_allocate i g.0
granted_away x f refused g = not_refused x g.1

-- an id that is away is not granted
not_granted : {k l : Ledger} {e : Event} (x : ℕ) → Away k x → Turn Before k e l → Grants e x → ⊥
not_granted x a (again {k} {i} b) g = false_true (k.back x) a.1 (ap k.back (sym (same_id i x g.1)) ∙ b)
not_granted x a (first {k} n) g = omega (arith, same_id k.next x g.1, a.0)
not_granted x a (freed {k} {i} t b) g = release_allocate i g.0
not_granted x a refused g = not_refused x g.1

-- and stays away until it is given back
stays_away : {k l : Ledger} {e : Event} (x : ℕ) → Away k x → Turn Before k e l → Returns e x ⊎ Away l x
stays_away x a (again {k} {i} b) = inr (a.0, and_false (eqb x i) (k.back x) a.1)
stays_away x a (first {k} n) = inr (omega (arith, a.0), a.1)
stays_away x a (freed {k} {i} t b) =
    ⊎_elim
    (λ (q : x ≡ i). inl (ap Release (sym q), ap Ok (sym q)))
    (λ (n : x ≡ i → ⊥). inr (a.0, or_false (eqb x i) (k.back x) (ne_eqb x i n) a.1))
    (same? x i)
stays_away x a refused = inr a

lost : {k : Ledger} (i : ℕ) (between behind : List Event) (e : Event) → Away k i → Turns Before k (between ++ (e ∷ behind)) → Grants e i → GivenBack between i
unfolding GivenBack
lost i [] behind e a (more t r) g = not_granted i a t g
lost i (x ∷ between) behind e a (more t r) g = ⊎_elim (λ b. inl b) (λ b. inr (lost i between behind e b r g)) (stays_away i a t)

later : {k : Ledger} (i : ℕ) (before between behind : List Event) (d e : Event) → Fair k → Turns Before k (before ++ (d ∷ (between ++ (e ∷ behind))))
    → Grants d i → Grants e i → GivenBack between i
later i [] between behind d e f (more t r) x y = lost i between behind e (granted_away i f t x) r y
later i (z ∷ before) between behind d e f (more t r) x y = later i before between behind d e (fair_step f t) r x y

pub ledger_never_twice : (low : ℕ) (es : List Event) → Turns Before (start low) es → NeverTwice es
unfolding NeverTwice
ledger_never_twice low es r before between behind d e i q x y =
    later i before between behind d e (λ j h. absurd (false_true false refl h)) (subst (Turns Before (start low)) q r) x y

-- the sequence of the fault: 5 is given back before its grant, and then granted twice
abbrev fault : List Event
fault = event (Release 5) (Ok 5) ∷ event Allocate (Ok 5) ∷ event Allocate (Ok 5) ∷ []

out_again : (b : Bool) → not b && (b || false) ≡ false
out_again true = refl
out_again false = refl

pub old_twice : Turns NotAbove (start 5) fault × (NeverTwice fault → ⊥)
unfolding NeverTwice GivenBack
old_twice = (
  more (freed {k = start 5} {i = 5} (omega arith) refl) (more (again {i = 5} refl) (more (first (λ j. out_again (eqb j 5))) none)),
  λ n. n (event (Release 5) (Ok 5) ∷ []) [] [] (event Allocate (Ok 5)) (event Allocate (Ok 5)) 5 refl (refl, refl) (refl, refl),
)
