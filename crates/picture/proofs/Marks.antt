-- Laws of marks: what one more stretch does to a cell, and what a mark says of a pool that is told whole. Assumes nothing.
--     cell_told     where every address lies in a stretch of one kind, the mark says of all of a cell's addresses what they are
use mathlib.Core.Path.{◌≡◌, refl, sym, ap, subst}
use mathlib.Core.Logic.{◌⊎◌, inl, inr, ⊎_elim}
use mathlib.Core.Bool.{Bool, true, false}
use mathlib.Core.List.{List, ◌∷◌}
use Prim.Native.Nat.{ℕ, suc, ◌+◌, ◌-◌, ◌≤◌, ◌<◌}
use native.Mathlib.Omega.{arith}
use lib.ListN.{length, get_or}
use Rattle.picture.specs.Bar.{before, InCell, Stretch, Covers, Met, Says, Shows, joined, Hit, Touched}
use Rattle.picture.proofs.Cells.{before_most}

-- a mark says the same of statements that are equivalent
says_same : (m : ℕ) (F G F' G' : Type 0) → (F → F') → (F' → F) → (G → G') → (G' → G) → Says m F G → Says m F' G'
says_same m F G F' G' f f' g g' =
    ⊎_elim (λ a. inl (a.0, (λ x. a.1 (f' x)), (λ y. a.2 (g' y))))
    (⊎_elim (λ a. inr (inl (a.0, f a.1, (λ y. a.2 (g' y)))))
    (⊎_elim (λ a. inr (inr (inl (a.0, (λ x. a.1 (f' x)), g a.2))))
    (λ a. inr (inr (inr (a.0, f a.1, g a.2))))))

-- something granted, or something free, comes into the cell
joined_granted : (m : ℕ) (F G F' G' : Type 0) → (F → F') → (F' → F) → G' → Says m F G → Says (joined true m) F' G'
unfolding joined
joined_granted m F G F' G' f f' g =
    ⊎_elim (λ a. inr (inr (inl (ap (joined true) a.0, (λ x. a.1 (f' x)), g))))
    (⊎_elim (λ a. inr (inr (inr (ap (joined true) a.0, f a.1, g))))
    (⊎_elim (λ a. inr (inr (inl (ap (joined true) a.0, (λ x. a.1 (f' x)), g))))
    (λ a. inr (inr (inr (ap (joined true) a.0, f a.1, g))))))

joined_free : (m : ℕ) (F G F' G' : Type 0) → (G → G') → (G' → G) → F' → Says m F G → Says (joined false m) F' G'
unfolding joined
joined_free m F G F' G' g g' f =
    ⊎_elim (λ a. inr (inl (ap (joined false) a.0, f, (λ y. a.2 (g' y)))))
    (⊎_elim (λ a. inr (inl (ap (joined false) a.0, f, (λ y. a.2 (g' y)))))
    (⊎_elim (λ a. inr (inr (inr (ap (joined false) a.0, f, g a.2))))
    (λ a. inr (inr (inr (ap (joined false) a.0, f, g a.2))))))

-- the stretch that is painted
abbrev pub stretch : Bool → ℕ → ℕ → Stretch
stretch k s e = record { granted = k; start = s; end = e }

module _ (base last w i s e : ℕ) (ps : List Stretch) where
  -- what was met is met still
  still : (k j : Bool) → Met base last w ps i j → Met base last w (stretch k s e ∷ ps) i j
  still k j m = (m.0, m.1, inr m.2)

  -- of the other kind nothing more is met
  other_true : Met base last w (stretch true s e ∷ ps) i false → Met base last w ps i false
  other_true m = (m.0, m.1, ⊎_elim (λ c. absurd (let z : ◌≡◌ {A = ℕ} 0 1 = let q = c.0 in cc in omega arith)) (λ c. c) m.2)

  other_false : Met base last w (stretch false s e ∷ ps) i true → Met base last w ps i true
  other_false m = (m.0, m.1, ⊎_elim (λ c. absurd (let z : ◌≡◌ {A = ℕ} 0 1 = let q = c.0 in cc in omega arith)) (λ c. c) m.2)

  -- where the stretch does not come, nothing more is met
  missed : (k j : Bool) → ((x : ℕ) → InCell base last w i x → s ≤ x → x ≤ e → ⊥) → Met base last w (stretch k s e ∷ ps) i j → Met base last w ps i j
  missed k j n m = (m.0, m.1, ⊎_elim (λ c. absurd (n m.0 m.1 c.1 c.2)) (λ c. c) m.2)

  pub says_missed : (m : ℕ) (k : Bool) → ((x : ℕ) → InCell base last w i x → s ≤ x → x ≤ e → ⊥) →
      Says m (Met base last w ps i false) (Met base last w ps i true) →
      Says m (Met base last w (stretch k s e ∷ ps) i false) (Met base last w (stretch k s e ∷ ps) i true)
  says_missed m k n =
      says_same m _ _ _ _ (still k false) (missed k false n) (still k true) (missed k true n)

  pub says_hit : (m : ℕ) (k : Bool) (x : ℕ) → InCell base last w i x → s ≤ x → x ≤ e →
      Says m (Met base last w ps i false) (Met base last w ps i true) →
      Says (joined k m) (Met base last w (stretch k s e ∷ ps) i false) (Met base last w (stretch k s e ∷ ps) i true)
  says_hit m true x c l h = joined_granted m _ _ _ _ (still true false) other_true (x, c, inl (refl, l, h))
  says_hit m false x c l h = joined_free m _ _ _ _ (still false true) other_false (x, c, inl (refl, l, h))

  -- a cell after the stretch is painted
  pub says_touched : (m : ℕ) (k : Bool) (r : ℕ) → Touched m (base + before (last - base + 1) w i) (base + before (last - base + 1) w (suc i)) s e k r →
      Says m (Met base last w ps i false) (Met base last w ps i true) →
      Says r (Met base last w (stretch k s e ∷ ps) i false) (Met base last w (stretch k s e ∷ ps) i true)
  says_touched m k r t v =
      ⊎_elim
      (λ (h : Hit (base + before (last - base + 1) w i) (base + before (last - base + 1) w (suc i)) s e × (r ≡ joined k m)).
      subst (λ (y : ℕ). Says y (Met base last w (stretch k s e ∷ ps) i false) (Met base last w (stretch k s e ∷ ps) i true)) (sym h.1)
      (says_hit m k h.0.0 (h.0.1, h.0.2) h.0.3 h.0.4 v))
      (λ (h : (Hit (base + before (last - base + 1) w i) (base + before (last - base + 1) w (suc i)) s e → ⊥) × (r ≡ m)).
      subst (λ (y : ℕ). Says y (Met base last w (stretch k s e ∷ ps) i false) (Met base last w (stretch k s e ∷ ps) i true)) (sym h.1)
      (says_missed m k (λ x c l h'. h.0 (x, c.0, c.1, l, h')) v))
      t

-- every address of the pool lies in a stretch of one kind, and of one only
pub record Whole (base last : ℕ) (ps : List Stretch) : Type 0 where
  pub some : (x : ℕ) → base ≤ x → x ≤ last → Covers true ps x ⊎ Covers false ps x
  pub one : (x : ℕ) → Covers true ps x → Covers false ps x → ⊥

-- what the marks then say of all addresses of a cell
pub record Told (base last w i : ℕ) (ps : List Stretch) (m : ℕ) : Type 0 where
  pub granted : m ≡ 35 → (x : ℕ) → InCell base last w i x → Covers true ps x
  pub free : m ≡ 46 → (x : ℕ) → InCell base last w i x → Covers false ps x
  pub mixed : m ≡ 43 → Met base last w ps i true × Met base last w ps i false
  pub none : m ≡ 32 → (x : ℕ) → InCell base last w i x → ⊥
  pub marks : (m ≡ 32) ⊎ ((m ≡ 46) ⊎ ((m ≡ 35) ⊎ (m ≡ 43)))

pub cell_told : (base last : ℕ) (ps : List Stretch) (bar : List ℕ) (i : ℕ) → base ≤ last → Whole base last ps → Shows base last ps bar → i < length bar → Told base last (length bar) i ps (get_or bar i 0)
cell_told base last ps bar i p w s h =
    ⊎_elim
    (λ a. let m = a.0 in record {
      granted = λ e. absurd (omega arith);
      free = λ e. absurd (omega arith);
      mixed = λ e. absurd (omega arith);
      none = λ e x c. ⊎_elim (λ y. a.2 (x, c, y)) (λ y. a.1 (x, c, y)) (in_pool x c);
      marks = inl m;
    })
    (⊎_elim
    (λ a. let m = a.0 in record {
      granted = λ e. absurd (omega arith);
      free = λ e x c. ⊎_elim (λ y. absurd (a.2 (x, c, y))) (λ y. y) (in_pool x c);
      mixed = λ e. absurd (omega arith);
      none = λ e. absurd (omega arith);
      marks = inr (inl m);
    })
    (⊎_elim
    (λ a. let m = a.0 in record {
      granted = λ e x c. ⊎_elim (λ y. y) (λ y. absurd (a.1 (x, c, y))) (in_pool x c);
      free = λ e. absurd (omega arith);
      mixed = λ e. absurd (omega arith);
      none = λ e. absurd (omega arith);
      marks = inr (inr (inl m));
    })
    (λ a. let m = a.0 in record {
      granted = λ e. absurd (omega arith);
      free = λ e. absurd (omega arith);
      mixed = λ e. (a.2, a.1);
      none = λ e. absurd (omega arith);
      marks = inr (inr (inr m));
    })))
    (s i h)
  where
    in_pool : (x : ℕ) → InCell base last (length bar) i x → Covers true ps x ⊎ Covers false ps x
    in_pool x c = w.some x (omega (arith, c.0)) (omega (arith, c.1, before_most (last - base + 1) (length bar) (suc i) h))
