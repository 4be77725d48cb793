-- Laws of comparing texts. Assumes nothing.
--     same_true, same_refl     the test holds of equal texts, and of no others
--     same_is                  it is what `==` answers
use mathlib.Core.Path.{◌≡◌, refl}
use mathlib.Core.Bool.{Bool, true, false, cond}
use mathlib.Core.List.{List, [], ◌∷◌}
use Prim.Native.Nat.{ℕ}
use native.Mathlib.Omega.{arith}
use lib.Dec.{eqb}
use borrow.Author.Tests.{eqb-true, eq-eqb}
use Rattle.std.specs.Prelude.{◌&&◌, bytes_eq}
use Rattle.text.specs.Words.{same}

pub same_true : (s t : List ℕ) → same s t ≡ true → s ≡ t
same_true [] [] e = refl
same_true [] (y ∷ t) e = absurd (let z : ◌≡◌ {A = ℕ} 0 1 = cc in omega arith)
same_true (x ∷ s) [] e = absurd (let z : ◌≡◌ {A = ℕ} 0 1 = cc in omega arith)
same_true (x ∷ s) (y ∷ t) e = go (same_true s t) (eqb x y) refl e
  where
    go : (same s t ≡ true → s ≡ t) → (b : Bool) → eqb x y ≡ b → cond b (same s t) false ≡ true → x ∷ s ≡ y ∷ t
    go ih true q e = let p = eqb-true x y q in let r = ih e in cc
    go ih false q e = absurd (let z : ◌≡◌ {A = ℕ} 0 1 = cc in omega arith)

pub same_refl : (s : List ℕ) → same s s ≡ true
same_refl [] = refl
same_refl (x ∷ s) = rw (eq-eqb x x refl) (same_refl s)

-- what `==` on two texts answers
pub same_is : (s t : List ℕ) → bytes_eq s t ≡ same s t
same_is [] [] = refl
same_is [] (y ∷ t) = refl
same_is (x ∷ s) [] = refl
same_is (x ∷ s) (y ∷ t) = go (same_is s t) (eqb x y)
  where
    go : bytes_eq s t ≡ same s t → (b : Bool) → (b && bytes_eq s t) ≡ cond b (same s t) false
    go ih true = ih
    go ih false = refl
