-- Tests on numbers and bools taken apart, and constructors told apart: what the laws about answers lean on.
-- Assumes nothing.
use Rattle.std.proofs.Common.{Result, Ok, Err}
use mathlib.Core.Path.{◌≡◌, refl, sym}
use mathlib.Core.Logic.{◌⊎◌, inl, inr, ⊎_elim}
use mathlib.Core.Bool.{Bool, true, false, not, ◌&&◌, ◌||◌}
use Prim.Native.Nat.{ℕ, zero, suc, ◌≤◌, ◌<◌}
use native.Mathlib.Omega.{arith}
use Rattle.ranges.specs.Align.{Decides}
use Rattle.ranges.specs.declared.Error.{Error}
use Rattle.ids.specs.Runs.Operation.{Allocate, Release}

-- a number is at most another, or above it
pub order : (a b : ℕ) → (a ≤ b) ⊎ (b < a)
order zero b = inl (omega arith)
order (suc a) zero = inr (omega arith)
order (suc a) (suc b) = ⊎_elim (λ h. inl (omega arith)) (λ h. inr (omega arith)) (order a b)

pub or_true : (a b : Bool) → a || b ≡ true → (a ≡ true) ⊎ (b ≡ true)
or_true true b e = inl refl
or_true false b e = inr e

pub and_true : (a b : Bool) → a && b ≡ true → b ≡ true
and_true true b e = e
and_true false b e = let z : ◌≡◌ {A = ℕ} 0 1 = cc (e) in absurd (omega arith)

pub or_left : (a b : Bool) → a ≡ true → a || b ≡ true
or_left true b e = refl
or_left false b e = absurd (let z : ◌≡◌ {A = ℕ} 0 1 = cc (e) in omega arith)

pub or_right : (a b : Bool) → b ≡ true → a || b ≡ true
or_right true b e = refl
or_right false b e = e

pub and_both : (a b : Bool) → a ≡ false → b ≡ true → not a && b ≡ true
and_both true b e f = absurd (let z : ◌≡◌ {A = ℕ} 0 1 = cc (e) in omega arith)
and_both false b e f = f

pub not_refused : {A : Type 0} {e : Error} (i : ℕ) → ◌≡◌ {A = Result ℕ Error} (Err e) (Ok i) → A
not_refused i q = let z : ◌≡◌ {A = ℕ} 0 1 = cc (q) in absurd (omega arith)

pub same_id : (k i : ℕ) → ◌≡◌ {A = Result ℕ Error} (Ok k) (Ok i) → k ≡ i
same_id k i q = cc (q)

pub and_first : (a b : Bool) → not a && b ≡ true → a ≡ false
and_first true b e = absurd (let z : ◌≡◌ {A = ℕ} 0 1 = cc (e) in omega arith)
and_first false b e = refl

-- two constructors are never equal
pub allocate_release : {A : Type 0} (i : ℕ) → Allocate ≡ Release i → A
allocate_release i q = let z : ◌≡◌ {A = ℕ} 0 1 = cc (q) in absurd (omega arith)

pub release_allocate : {A : Type 0} (i : ℕ) → Release i ≡ Allocate → A
release_allocate i q = let z : ◌≡◌ {A = ℕ} 0 1 = cc (q) in absurd (omega arith)

pub decided : (b : Bool) {P : Type 0} → (b ≡ true → P) → (P → b ≡ true) → Decides b P
decided true f g = f refl
decided false f g = λ p. let z : ◌≡◌ {A = ℕ} 0 1 = cc (g p) in omega arith

pub false_true : (b : Bool) → b ≡ false → b ≡ true → ⊥
false_true b p q = let z : ◌≡◌ {A = ℕ} 0 1 = cc (p, q) in omega arith

pub is_either : (b : Bool) → (b ≡ false) ⊎ (b ≡ true)
is_either true = inr refl
is_either false = inl refl

pub not_true : (b : Bool) → (b ≡ true → ⊥) → b ≡ false
not_true true f = absurd (f refl)
not_true false f = refl

pub same_bool : (a b : Bool) → (a ≡ true → b ≡ true) → (b ≡ true → a ≡ true) → a ≡ b
same_bool true b f g = sym (f refl)
same_bool false true f g = g refl
same_bool false false f g = refl
