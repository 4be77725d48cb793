-- Laws of what is left of a pool.
--     walk_starts, walk_on, walk_ends     from range to range: what is counted below an address, to the pool's end
-- Assumes nothing.
use Prim.Native.Nat.{ℕ, ◌+◌, ◌-◌, ◌^◌, ◌≤◌, ◌<◌, max}
use mathlib.Core.Path.{◌≡◌, refl, sym, subst}
use mathlib.Core.Logic.{inl, inr}
use mathlib.Core.List.{List, [], ◌∷◌}
use native.Mathlib.Decide.{dec_le, ℕ_discrete}
use native.Mathlib.Nat.{zero-add, mul-one}
use native.Mathlib.Omega.{arith}
use Rattle.ranges.specs.Count.{Count, none}
use Rattle.ranges.proofs.CountLaws.{count_more, count_skip, count_most}
use Rattle.table.specs.Row.{Tile, past, Covers}
use Rattle.table.specs.Tiles.{Open, Has}
use Rattle.addresses.specs.Meaning.{State, Free, Greatest, Sound, row_of}
use Rattle.addresses.specs.Operations.{Pool}
use Rattle.addresses.specs.Runs.{Valid}
use Rattle.addresses.specs.Steps.{Clear}
use Rattle.addresses.proofs.RowLaws.{Behind, covers_row}
use Rattle.addresses.proofs.Tiles.{covers_cons}
use Rattle.addresses.proofs.StepLaws.{clear_open, clear_within, has_free, has_granted, has_in}
use Rattle.addresses.proofs.WalkLaws.{has_move, has_from, has_to}
use Rattle.left.specs.Contract.{FreeAddresses, FitsSomewhere, LargestFree}
use Rattle.left.specs.Steps.{Passed}

-- ---- rows

-- an address stands in one tile only
pub has_same : (from top a s e g s' e' g' : ℕ) (row : List Tile) → Behind from top row → Has top a s e g row → Has top a s' e' g' row → e ≡ e'
unfolding Behind Has
has_same from top a s e g s' e' g' [] b h k = absurd h
has_same from top a s e g s' e' g' (t ∷ row) b (inl w) (inl v) = omega (arith, w.1, v.1)
has_same from top a s e g s' e' g' (t ∷ row) b (inl w) (inr v) =
    absurd (omega (arith, w.1, w.4, has_from (past row top) top a s' e' g' row (covers_cons from top t row b).3 v, has_in top a s' e' g' row v))
has_same from top a s e g s' e' g' (t ∷ row) b (inr w) (inl v) =
    absurd (omega (arith, v.1, v.4, has_from (past row top) top a s e g row (covers_cons from top t row b).3 w, has_in top a s e g row w))
has_same from top a s e g s' e' g' (t ∷ row) b (inr w) (inr v) = has_same (past row top) top a s e g s' e' g' row (covers_cons from top t row b).3 w v

-- a window in one free tile: that tile has its first address, and does not end before it
pub open_has : (top a size : ℕ) (row : List Tile) → 0 < size → Open top a size row → (s : ℕ) × (e : ℕ) × Has top a s e 0 row × (a + size ≤ e + 1)
unfolding Open Has
open_has top a size [] n h = absurd h
open_has top a size (t ∷ row) n (inl w) = (t.start, past row top - 1, inl (refl, omega (arith, w.2), w.0, w.1, omega (arith, w.2)), omega (arith, w.2))
open_has top a size (t ∷ row) n (inr w) =
    let r = open_has top a size row n w in
    (r.0, r.1, inr r.2, r.3)

-- a sound state's row, as it stands from the base on
pub behind : (σ : State) → Sound σ → Behind σ.base σ.top (row_of σ)
unfolding Behind Covers
behind σ o = go (row_of σ) (covers_row σ o)
  where
    go : (row : List Tile) → Covers σ.base σ.top row → Behind σ.base σ.top row
    go [] c = absurd c
    go (t ∷ row) c = c

-- ---- what is counted below an address

-- a free window of `size` addresses ends by b
abbrev pub EndsBy : State → ℕ → ℕ → Type 0
EndsBy σ b size = (x : ℕ) × Clear σ x size × (x + size ≤ b)

-- what is known once the addresses below a are counted, and a range starts at a
pub record Walk (p : Pool) (a free largest : ℕ) : Type 0 where
  pub above : p.state.base ≤ a
  pub below : a < p.state.top
  pub starts : (s e g : ℕ) → Has p.state.top a s e g (row_of p.state) → s ≡ a
  pub counted : Count (Free p.state) a free
  pub greatest : Greatest (EndsBy p.state a) largest

-- below the base nothing is free
pub walk_starts : (p : Pool) → Valid p → Walk p p.state.base 0 0
unfolding Greatest
walk_starts p v = record {
  above = omega arith;
  below = v.sound.some;
  starts = λ s e g h. omega (arith, has_from σ.base σ.top σ.base s e g (row_of σ) (behind σ v.sound) h, has_in σ.top σ.base s e g (row_of σ) h);
  counted = rw (zero-add σ.base) at (count_skip (Free σ) 0 0 σ.base (λ x h l f. omega (arith, f.above)) none);
  greatest = ((0, (λ x h l. absurd (omega arith)), omega arith), most);
}
  where
    σ : State
    σ = p.state

    most : (size : ℕ) → EndsBy p.state p.state.base size → size ≤ 0
    most size w = elim (dec_le size 0) [ yes h ↦ h | no h ↦ absurd (omega (arith, (w.1 w.0 (omega arith) (omega arith)).above, w.2)) ]

module _ (p : Pool) (v : Valid p) (a free largest : ℕ) (w : Walk p a free largest) (s e g : ℕ) (h : Has p.state.top a s e g (row_of p.state)) where
  -- the range that stands at a starts there
  here : (s ≡ a) × (a ≤ e)
  here = (w.starts s e g h, (has_in p.state.top a s e g (row_of p.state) h).1)

  -- it is what stands at each of its addresses
  stands : (x : ℕ) → a ≤ x → x ≤ e → Has p.state.top x s e g (row_of p.state)
  stands x l k = has_move p.state.top a x s e g (row_of p.state) h (omega (arith, here.0)) k

  -- the next range starts past its end
  next_starts : (s' e' g' : ℕ) → Has p.state.top (e + 1) s' e' g' (row_of p.state) → s' ≡ e + 1
  next_starts s' e' g' k =
      let i = has_in p.state.top (e + 1) s' e' g' (row_of p.state) k in
      elim (dec_le s' e) [
        | yes l ↦
            let b = has_move p.state.top (e + 1) e s' e' g' (row_of p.state) k l (omega (arith, i)) in
            absurd (omega (arith, i, has_same p.state.base p.state.top e s e g s' e' g' (row_of p.state) (behind p.state v.sound) (stands e here.1 (omega arith)) b))
        | no l ↦ omega (arith, i)
      ]

  -- a free window that reaches a starts there or later
  reaches : (x size : ℕ) → Clear p.state x size → x ≤ a → a < x + size → a ≤ x
  reaches x size f l k =
      let r = open_has p.state.top x size (row_of p.state) (omega arith) (clear_open p.state x size v.sound (omega arith) f) in
      let i = has_in p.state.top x r.0 r.1 0 (row_of p.state) r.2 in
      omega (arith, i, w.starts r.0 r.1 0 (has_move p.state.top x a r.0 r.1 0 (row_of p.state) r.2 (omega (arith, i)) (omega (arith, r.3))))

  -- a free range: each of its addresses counts, and it is itself a window
  free_here : g ≡ 0 → (x : ℕ) → a ≤ x → x ≤ e → Free p.state x
  free_here z x l k = has_free p.state x s e v.sound (rw z at (stands x l k))

  free_counted : g ≡ 0 → Count (Free p.state) (e + 1) (free + (e - a + 1))
  free_counted z =
      let q : a + (e - a + 1) ≡ e + 1 = omega (arith, here) in
      rw q at (count_more (Free p.state) a free (e - a + 1) (λ x l k. free_here z x l (omega (arith, here))) w.counted)

  free_greatest : g ≡ 0 → Greatest (EndsBy p.state (e + 1)) (max largest (e - a + 1))
  unfolding Greatest
  free_greatest z = (some, most)
    where
      some : EndsBy p.state (e + 1) (max largest (e - a + 1))
      some =
          elim (dec_le (e - a + 1) largest) [
            | yes l ↦
                let q : largest ≡ max largest (e - a + 1) = omega arith in
                subst (EndsBy p.state (e + 1)) q (w.greatest.0.0, w.greatest.0.1, omega (arith, here, w.greatest.0.2))
            | no l ↦
                let q : e - a + 1 ≡ max largest (e - a + 1) = omega arith in
                subst (EndsBy p.state (e + 1)) q (a, (λ x k j. free_here z x k (omega (arith, here))), omega (arith, here))
          ]

      most : (size : ℕ) → EndsBy p.state (e + 1) size → size ≤ max largest (e - a + 1)
      most size y =
          elim (dec_le (y.0 + size) a) [
            | yes l ↦ omega (arith, w.greatest.1 size (y.0, y.1, l))
            | no l ↦ elim (dec_le a y.0) [ yes k ↦ omega (arith, y.2) | no k ↦ absurd (omega (arith, reaches y.0 size y.1 (omega arith) (omega arith))) ]
          ]

  -- a granted range: none of its addresses is free
  held_here : (g ≡ 0 → ⊥) → (x : ℕ) → a ≤ x → x ≤ e → ¬ Free p.state x
  held_here n x l k f = f.unheld (record { start = s; end = e }) (has_granted p.state a s e g v.sound n h) (has_in p.state.top x s e g (row_of p.state) (stands x l k))

  held_counted : (g ≡ 0 → ⊥) → Count (Free p.state) (e + 1) free
  held_counted n =
      let q : a + (e - a + 1) ≡ e + 1 = omega (arith, here) in
      rw q at (count_skip (Free p.state) a free (e - a + 1) (λ x l k. held_here n x l (omega (arith, here))) w.counted)

  held_greatest : (g ≡ 0 → ⊥) → Greatest (EndsBy p.state (e + 1)) largest
  unfolding Greatest
  held_greatest n = ((w.greatest.0.0, w.greatest.0.1, omega (arith, here, w.greatest.0.2)), most)
    where
      most : (size : ℕ) → EndsBy p.state (e + 1) size → size ≤ largest
      most size y =
          elim (dec_le (y.0 + size) a) [
            | yes l ↦ w.greatest.1 size (y.0, y.1, l)
            | no l ↦
                elim (dec_le size 0) [
                  | yes k ↦ omega arith
                  | no k ↦ absurd (held_here n (y.0 + (size - 1)) (omega arith) (omega (arith, y.2)) (y.1 (y.0 + (size - 1)) (omega arith) (omega arith)))
                ]
          ]

  -- so once the range is passed, both numbers are those up to its end
  pub passed_to : (f l : ℕ) → Passed free largest a e g f l → Count (Free p.state) (e + 1) f × Greatest (EndsBy p.state (e + 1)) l
  passed_to f l d =
      elim (ℕ_discrete g 0) [
        | yes z ↦ rw ((d.of_free z).0, (d.of_free z).1) (free_counted z, free_greatest z)
        | no n ↦ rw ((d.of_held n).0, (d.of_held n).1) (held_counted n, held_greatest n)
      ]

  -- the walk goes on where the pool does
  pub walk_on : (f l : ℕ) → Passed free largest a e g f l → e + 1 < p.state.top → Walk p (e + 1) f l
  walk_on f l d k =
      let c = passed_to f l d in
      record { above = omega (arith, w.above, here); below = k; starts = next_starts; counted = c.0; greatest = c.1 }

  -- and has counted the pool where that ends
  pub walk_ends : (f l : ℕ) → Passed free largest a e g f l → p.state.top ≤ e + 1 → FreeAddresses p.state f × LargestFree p.state l
  unfolding Greatest
  walk_ends f l d k =
      let q : e + 1 ≡ p.state.top = omega (arith, has_to p.state.base p.state.top a s e g (row_of p.state) (behind p.state v.sound) h) in
      let c : Count (Free p.state) p.state.top f × Greatest (EndsBy p.state p.state.top) l = rw q at (passed_to f l d) in
      (c.0, ((c.1.0.0, record { allowed = (c.1.0.0, sym (mul-one c.1.0.0)); free = c.1.0.1 }), most c.1))
    where
      most : Greatest (EndsBy p.state p.state.top) l → (size : ℕ) → FitsSomewhere p.state size → size ≤ l
      most c size y =
          elim (dec_le size 0) [
            | yes z ↦ omega arith
            | no z ↦ c.1 size (y.0, y.1.free, clear_within p.state y.0 size (omega arith) y.1.free)
          ]

  -- no sum passes 2^64 - 1: a pool has no more addresses
  pub walk_fits : g ≡ 0 → free + (e - a + 1) < 2 ^ 64
  walk_fits z = omega (arith, count_most p.state.base (λ x l f. omega (arith, f.above)) (free_counted z), has_to p.state.base p.state.top a s e g (row_of p.state) (behind p.state v.sound) h, v.within)
