-- Painting cell by cell: those before i are painted, the others as they were. Assumes nothing.
use mathlib.Core.Path.{◌≡◌, refl, sym, ap, ◌∙◌, subst}
use mathlib.Core.Logic.{⊎_elim}
use mathlib.Core.Bool.{Bool, true, false}
use mathlib.Core.List.{List, ◌∷◌}
use Prim.Native.Nat.{ℕ, suc, ◌+◌, ◌-◌, ◌/◌, ◌%◌, ◌≤◌, ◌<◌}
use native.Mathlib.Omega.{arith}
use native.Mathlib.Numerals.{add-one}
use lib.ListN.{length, get_or, set, length-set}
use lib.Seq.{get_or-set_same, get_or-set_other}
use Rattle.picture.specs.Bar.{IsPool, size_of, before, Met, Says, Painted, Touched}
use Rattle.picture.proofs.Cells.{below_or_not, before_zero, before_suc}
use Rattle.picture.proofs.Marks.{stretch, says_touched}

pub record Painting (old : List ℕ) (base last s e : ℕ) (k : Bool) (new : List ℕ) (off i : ℕ) : Type 0 where
  pub long : length new ≡ length old
  pub within : i ≤ length old
  pub count : off ≡ before (last - base + 1) (length old) i
  pub done : (j : ℕ) → j < i →
      Touched (get_or old j 0) (base + before (last - base + 1) (length old) j) (base + before (last - base + 1) (length old) (suc j)) s e k (get_or new j 0)
  pub left : (j : ℕ) → i ≤ j → get_or new j 0 ≡ get_or old j 0

pub painting_start : (old : List ℕ) (base last s e : ℕ) (k : Bool) → Painting old base last s e k old 0 0
painting_start old base last s e k =
    record {
      long = refl;
      within = omega arith;
      count = sym (before_zero (last - base + 1) (length old));
      done = λ j h. absurd (omega arith);
      left = λ j h. refl;
    }

-- one more cell
pub painting_step : (old : List ℕ) (base last s e : ℕ) (k : Bool) (new : List ℕ) (off i size r : ℕ) → i < length old →
    size ≡ size_of ((last - base + 1) / length old) ((last - base + 1) % length old) i →
    Touched (get_or new i 0) (base + off) (base + off + size) s e k r →
    Painting old base last s e k new off i → Painting old base last s e k (set new i r) (off + size) (i + 1)
painting_step old base last s e k new off i size r h z t w =
    let c : off + size ≡ before (last - base + 1) (length old) (suc i) = omega (arith, w.count, z, before_suc (last - base + 1) (length old) i) in
    record {
      long = length-set new i r ∙ w.long;
      within = omega arith;
      count = c ∙ ap (before (last - base + 1) (length old)) (sym (add-one i));
      done = λ j l. ⊎_elim
          (λ (b : j < i). subst (Touched (get_or old j 0) (base + before (last - base + 1) (length old) j) (base + before (last - base + 1) (length old) (suc j)) s e k)
          (sym (get_or-set_other new i j r 0 (λ q. omega arith))) (w.done j b))
          (λ (g : i ≤ j). let q : i ≡ j = omega arith in subst
          (λ (y : ℕ). Touched (get_or old y 0) (base + before (last - base + 1) (length old) y) (base + before (last - base + 1) (length old) (suc y)) s e k (get_or (set new i r) y 0)) q
          (here (w.left i (omega arith)) w.count c))
          (below_or_not j i);
      left = λ j l. get_or-set_other new i j r 0 (λ q. omega arith) ∙ w.left j (omega arith);
    }
  where
    here : get_or new i 0 ≡ get_or old i 0 → off ≡ before (last - base + 1) (length old) i → off + size ≡ before (last - base + 1) (length old) (suc i) →
        Touched (get_or old i 0) (base + before (last - base + 1) (length old) i) (base + before (last - base + 1) (length old) (suc i)) s e k (get_or (set new i r) i 0)
    here m a b =
        let f : base + off + size ≡ base + before (last - base + 1) (length old) (suc i) = omega arith in
        let l : i < length new = omega (arith, w.long) in
        subst (λ (y : ℕ). Touched (get_or old i 0) (base + before (last - base + 1) (length old) i) (base + before (last - base + 1) (length old) (suc i)) s e k y) (sym (get_or-set_same new i r 0 l))
        (subst (λ (y : ℕ). Touched (get_or old i 0) (base + before (last - base + 1) (length old) i) y s e k r) f
        (subst (λ (y : ℕ). Touched (get_or old i 0) (base + y) (base + off + size) s e k r) a
        (subst (λ (y : ℕ). Touched y (base + off) (base + off + size) s e k r) m t)))

-- all cells
pub painting_end : (old : List ℕ) (base last s e : ℕ) (k : Bool) (new : List ℕ) (off i : ℕ) → IsPool base last → length old ≤ i →
    Painting old base last s e k new off i → Painted base last s e k old new
painting_end old base last s e k new off i p h w =
    record {
      shows = λ q ps v j l.
          let m : j < length old = omega (arith, w.long) in
          subst (λ (y : ℕ). Says (get_or new j 0) (Met base last y (stretch k s e ∷ ps) j false) (Met base last y (stretch k s e ∷ ps) j true)) (sym w.long)
          (says_touched base last (length old) j s e ps (get_or old j 0) k (get_or new j 0) (w.done j (omega arith)) (v j m));
      elsewhere = λ n. absurd (n p);
    }
