-- Where a range is free, and lists with a cell less. Assumes nothing.
use Prim.Native.Nat.{ℕ, zero, suc, ◌+◌, ◌-◌, ◌*◌, ◌≤◌, ◌<◌}
use mathlib.Core.Path.{◌≡◌, refl, sym, ap, ◌∙◌}
use mathlib.Core.List.{List, [], ◌∷◌, ◌++◌}
use mathlib.Core.Bool.{Bool, true, false}
use native.Mathlib.Omega.{arith}
use lib.ListN.{length, get_or, take, drop}
use Rattle.ranges.specs.Align.{Decides}
use Rattle.blocks.specs.Blocks.{blocks_of, size_at, tags_of, sizes, index, Sound}
use Rattle.blocks.proofs.Parts.{tag_at, sizes_snoc}
use Rattle.blocks.proofs.Flat.{flat_tag, flat_within}
use Rattle.splice.specs.Splice.{splice}
use Rattle.melting.specs.Melting.{Free}

-- range i of block b is free by its tag
module _ (m : List ℕ) (sound : Sound m) (b : ℕ) (h : b < blocks_of m) (i : ℕ) (l : i < size_at b m) where
  tag_is : get_or (tags_of m) (index b i m) 0 ≡ get_or m (201 + b * 129 + i) 0
  tag_is = flat_tag m sound b h i 0 l ∙ tag_at m sound b h i 0 l

  pub free_by : (k : ℕ) → k ≡ index b i m → get_or m (201 + b * 129 + i) 0 ≡ 0 → Free m k
  free_by k e z = rw e (record { within = flat_within m sound b h i l; free = tag_is ∙ z })

  pub not_free : (k : ℕ) → k ≡ index b i m → (get_or m (201 + b * 129 + i) 0 ≡ 0 → ⊥) → Free m k → ⊥
  not_free k e n f =
      let g : Free m (index b i m) = rw e at f in
      n (sym tag_is ∙ g.free)

-- the range before range i of block b
module _ (m : List ℕ) (b i : ℕ) where
  pub before_here : 0 < i → index b i m - 1 ≡ index b (i - 1) m
  unfolding index
  before_here p = omega arith

  pub pos_here : 0 < i → 0 < index b i m
  unfolding index
  pos_here p = omega arith

  pub before_there : i ≡ 0 → 0 < b → 0 < size_at (b - 1) m → (0 < index b i m) × (index b i m - 1 ≡ index (b - 1) (size_at (b - 1) m - 1) m)
  unfolding index
  before_there e p q =
      let z : b - 1 + 1 ≡ b = omega arith in
      let s : sizes 0 b m ≡ sizes 0 (b - 1) m + size_at (b - 1) m = rw z at (sizes_snoc (b - 1) m) in
      (omega arith, omega arith)

  pub before_none : i ≡ 0 → b ≡ 0 → 0 < index b i m → ⊥
  unfolding index sizes
  before_none e f p =
      let q : 0 < sizes 0 0 m + i = rw f at p in
      omega arith

-- the range behind it
module _ (m : List ℕ) (b i : ℕ) where
  pub behind_here : index b i m + 1 ≡ index b (i + 1) m
  unfolding index
  behind_here = omega arith

  pub behind_there : i + 1 ≡ size_at b m → index b i m + 1 ≡ index (b + 1) 0 m
  unfolding index
  behind_there e = omega (arith, sizes_snoc b m)

-- what a test tells, of what is as true
pub decide_map : {P Q : Type 0} (r : Bool) → (P → Q) → (Q → P) → Decides r P → Decides r Q
decide_map true f g d = f d
decide_map false f g d = λ q. d (g q)

-- a list with a cell less: what is before that cell
pub less_get : (x : List ℕ) (k j d : ℕ) → j < k → k ≤ length x → get_or (take k x ++ drop (k + 1) x) j d ≡ get_or x j d
less_get [] k j d h l = absurd (omega arith)
less_get (y ∷ x) zero j d h l = absurd (omega arith)
less_get (y ∷ x) (suc k) zero d h l = refl
less_get (y ∷ x) (suc k) (suc j) d h l = let z : suc k + 1 ≡ suc (k + 1) = omega arith in rw z (less_get x k j d (omega arith) (omega arith))

-- a change before it
pub less_less : (x n : List ℕ) (k : ℕ) → k + 1 < length x → splice k 1 n (splice (k + 1) 1 [] x) ≡ splice k 2 n x
less_less [] n k h = absurd (omega arith)
less_less (y ∷ []) n k h = absurd (omega arith)
less_less (y ∷ z ∷ x) n zero h = refl
less_less (y ∷ z ∷ x) n (suc k) h =
    let e : suc k + 1 ≡ suc (k + 1) = omega arith in
    let f : suc k + 1 + 1 ≡ suc (k + 1 + 1) = omega arith in
    let g : suc k + 2 ≡ suc (k + 2) = omega arith in
    rw (f, e, g) (ap (λ (l : List ℕ). y ∷ l) (less_less (z ∷ x) n k (omega arith)))

-- nothing given up
pub none_less : (x : List ℕ) (k : ℕ) → x ≡ splice k 0 [] x
none_less [] zero = refl
none_less [] (suc k) = let z : suc k + 0 ≡ suc (k + 0) = omega arith in rw z refl
none_less (y ∷ x) zero = refl
none_less (y ∷ x) (suc k) = let z : suc k + 0 ≡ suc (k + 0) = omega arith in rw z (ap (λ (l : List ℕ). y ∷ l) (none_less x k))
