-- The bar of a pool: which addresses a cell stands for, and what its mark says of them.
use Rattle.std.specs.Prelude.{◌≡◌, ◌⊎◌, Bool, true, false, cond, List, [], ◌∷◌, ℕ, suc, ◌+◌, ◌-◌, ◌*◌, ◌/◌, ◌%◌, ◌^◌, ◌≤◌, ◌<◌, min, ltb, eqb, length, get_or}

-- a pool from base to last, both included, whose number of addresses fits 64 bits
abbrev pub IsPool : ℕ → ℕ → Type 0
IsPool base last = (base ≤ last) × (last - base + 1 < 2 ^ 64)

-- how many addresses cell i has, where each has q and the first r have one more
abbrev pub size_of : ℕ → ℕ → ℕ → ℕ
size_of q r i = cond (ltb i r) (q + 1) q

-- how many of the n addresses stand before cell i, of w cells: they are split evenly, and what is left over goes to the first cells
unfoldable pub before : ℕ → ℕ → ℕ → ℕ
before n w i = i * (n / w) + min i (n % w)

-- x is an address of cell i
abbrev pub InCell : ℕ → ℕ → ℕ → ℕ → ℕ → Type 0
InCell base last w i x = (base + before (last - base + 1) w i ≤ x) × (x < base + before (last - base + 1) w (suc i))

-- a stretch of addresses, both ends included, that is granted or free
pub record Stretch : Type 0 where
  pub granted : Bool
  pub start : ℕ
  pub end : ℕ

-- x lies in a stretch of this kind
abbrev pub Covers : Bool → List Stretch → ℕ → Type 0
Covers k [] x = ⊥
Covers k (p ∷ ps) x = ((p.granted ≡ k) × (p.start ≤ x) × (x ≤ p.end)) ⊎ Covers k ps x

-- an address of cell i lies in a stretch of this kind
abbrev pub Met : ℕ → ℕ → ℕ → List Stretch → ℕ → Bool → Type 0
Met base last w ps i k = (x : ℕ) × InCell base last w i x × Covers k ps x

-- a mark says whether there is something free and whether there is something granted: ` ` neither, `.` free, `#` granted, `+` both
abbrev pub Says : ℕ → Type 0 → Type 0 → Type 0
Says m F G =
    ((m ≡ 32) × (F → ⊥) × (G → ⊥))
    ⊎ (((m ≡ 46) × F × (G → ⊥))
    ⊎ (((m ≡ 35) × (F → ⊥) × G)
    ⊎ ((m ≡ 43) × F × G)))

-- every cell of the bar says what the stretches are there
abbrev pub Shows : ℕ → ℕ → List Stretch → List ℕ → Type 0
Shows base last ps bar =
    (i : ℕ) → i < length bar → Says (get_or bar i 0) (Met base last (length bar) ps i false) (Met base last (length bar) ps i true)

-- what clearing leaves: the bar of no stretch, of any pool
abbrev pub Cleared : List ℕ → Type 0
Cleared bar = (base last : ℕ) → Shows base last [] bar

-- what painting a stretch does: the bar shows it with those that it showed; what is no pool changes nothing
pub record Painted (base last start end : ℕ) (granted : Bool) (old new : List ℕ) : Type 0 where
  pub shows : IsPool base last → (ps : List Stretch) → Shows base last ps old → Shows base last (record { granted = granted; start = start; end = end } ∷ ps) new
  pub elsewhere : (IsPool base last → ⊥) → new ≡ old

-- a mark with one more kind of stretch in its cell
unfoldable pub joined : Bool → ℕ → ℕ
joined true m = cond (eqb m 32) 35 (cond (eqb m 46) 43 m)
joined false m = cond (eqb m 32) 46 (cond (eqb m 35) 43 m)

-- an address from low up to, not including, top lies in the stretch
abbrev pub Hit : ℕ → ℕ → ℕ → ℕ → Type 0
Hit low top start end = (x : ℕ) × (low ≤ x) × (x < top) × (start ≤ x) × (x ≤ end)

-- a cell's mark after the stretch: joined where it is hit, the same where it is not
abbrev pub Touched : ℕ → ℕ → ℕ → ℕ → ℕ → Bool → ℕ → Type 0
Touched m low top start end granted r = (Hit low top start end × (r ≡ joined granted m)) ⊎ ((Hit low top start end → ⊥) × (r ≡ m))
