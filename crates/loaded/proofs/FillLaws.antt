-- Laws of the walk that asks for the granted ranges: after i ranges the block has just the granted ones among them.
--     filled_start     before the first
--     filled_step      one range more
--     filled_end       after all of them the block holds the pool
-- Assumes nothing.
use Rattle.std.proofs.Common.{◌≡◌, ℕ, zero, suc, ◌+◌, ◌-◌, ◌*◌, ◌%◌, ◌^◌, ◌<◌, ◌≤◌, cond, ◌⊎◌, List, [], ◌∷◌, ◌++◌, length, sym, refl, ap, ◌∙◌, subst, inl, inr, append_assoc, append-nil, mod-eq_of_lt, arith, eq-eqb, ne_eqb}
use Rattle.ranges.specs.declared.AllocPolicy.TheVariants.{ExactMatch}
use Rattle.ranges.specs.declared.RangeInclusive.{RangeInclusive}
use Rattle.table.specs.Row.{Tile, past, Covers}
use Rattle.addresses.specs.Meaning.{row_of}
use Rattle.addresses.specs.Operations.{Pool}
use Rattle.addresses.specs.Runs.{Valid}
use Rattle.addresses.specs.Held.{Holds}
use Rattle.addresses.specs.Contract.{Performs, asking}
use Rattle.addresses.proofs.RowLaws.{Behind, covers_row, ranges, ranges_row}
use Rattle.addresses.proofs.Tiles.{covers_cons}
use Rattle.addresses.proofs.WalkLaws.{behind_top}
use Rattle.addresses.proofs.ReachLaws.{ask}
use Rattle.addresses.proofs.RebuildLaws.{having, rebuild_step}
use Rattle.saved.specs.Format.{Tiles}
use Rattle.loaded.specs.Steps.{Ends, Places, empty}

-- ---- a row and what is left of it

covers_behind : (from top : ℕ) (row : List Tile) → Covers from top row → Behind from top row
unfolding Behind Covers
covers_behind from top [] c = absurd c
covers_behind from top (t ∷ row) c = c

-- of a row from word k on: its first tile is where it is to be, ends by the top, and is said by the words
pub record Here (w : ℕ → ℕ) (from top k : ℕ) (t : Tile) (row : List Tile) : Type 0 where
  pub above : from ≤ t.start
  pub some : t.start < past row top
  pub below : past row top ≤ top
  pub start : w k ≡ t.start
  pub tag : w (k + 1) ≡ t.tag
  pub rest : Behind (past row top) top row
  pub words : Tiles w (k + 2) row

here : (w : ℕ → ℕ) (from top k : ℕ) (t : Tile) (row : List Tile) → Behind from top (t ∷ row) → Tiles w k (t ∷ row) → Here w from top k t row
unfolding Behind Tiles
here w from top k t row b d =
    let c = covers_cons from top t row b in
    record { above = omega (arith, c.0); some = omega (arith, c.0, c.1); below = behind_top (past row top) top row c.3; start = d.0; tag = d.1; rest = c.3; words = d.2 }

-- the address past a tile, as the words say it
past_ends : (w : ℕ → ℕ) (last top i n r : ℕ) (row : List Tile) → Tiles w (9 + 2 * i) row → i + 1 + length row ≡ n → last + 1 ≡ top → Behind (past row top) top row → top ≤ 2 ^ 64 → Ends w last n i r → r ≡ past row top % 2 ^ 64
unfolding Tiles past Behind
past_ends w last top i n r [] d e t b l h = h.outer (omega arith) ∙ ap (λ (x : ℕ). x % 2 ^ 64) t
past_ends w last top i n r (u ∷ row) d e t b l h =
    let c = covers_cons u.start top u row b in
    h.inner (omega arith) ∙ d.0 ∙ sym (mod-eq_of_lt (omega (arith, c.1, behind_top (past row top) top row c.3)))

-- how many addresses that makes
size_of : (size s e top : ℕ) → size < 2 ^ 64 → s < e → e ≤ 2 ^ 64 → e - s < 2 ^ 64 → (size + s) % 2 ^ 64 ≡ e % 2 ^ 64 → size ≡ e - s
size_of size s e top a b c d h = omega arith

-- ---- the walk

-- after i ranges of p the block m holds p with the granted ones among them, qs; ys are to come
pub record Filled (w : ℕ → ℕ) (p : Pool) (i : ℕ) (m : List ℕ) : Type 0 where
  pub ys : List Tile
  pub from : ℕ
  pub qs : List RangeInclusive
  pub granted : p.state.granted ≡ qs ++ ranges p.state.top ys
  pub count : i + length ys ≡ length (row_of p.state)
  pub above : p.state.base ≤ from
  pub covers : Behind from p.state.top ys
  pub words : Tiles w (7 + 2 * i) ys
  pub holds : Holds m (having p p.limit qs)

pub filled_start : (w : ℕ → ℕ) (p : Pool) (m : List ℕ) → Valid p → Tiles w 7 (row_of p.state) → Holds m (empty p) → Filled w p 0 m
unfolding row_of
filled_start w p m v t h = record {
  ys = row_of p.state;
  from = p.state.base;
  qs = [];
  granted = sym (ranges_row p.state.base p.state.top p.state.granted v.sound.ordered);
  count = omega arith;
  above = omega arith;
  covers = covers_behind p.state.base p.state.top (row_of p.state) (covers_row p.state v.sound);
  words = t;
  holds = h;
}

module _ (w : ℕ → ℕ) (p : Pool) (last n i : ℕ) (m m' : List ℕ) (v : Valid p) (number : n ≡ length (row_of p.state)) (top : last + 1 ≡ p.state.top) (more : i < n) (c : Places w last n i m m') where
  -- a free range is passed by, a granted one is asked for and granted
  step : (t : Tile) (row : List Tile) (from : ℕ) (qs : List RangeInclusive) → p.state.granted ≡ qs ++ ranges p.state.top (t ∷ row) → i + length (t ∷ row) ≡ length (row_of p.state) → p.state.base ≤ from → Here w from p.state.top (7 + 2 * i) t row → Holds m (having p p.limit qs) → (w (8 + 2 * i) ≡ 0) ⊎ (w (8 + 2 * i) ≡ 0 → ⊥) → Filled w p (i + 1) m'
  unfolding ranges
  step t row from qs g k a h held (inl z) = record {
    ys = row;
    from = past row p.state.top;
    qs = qs;
    granted = g ∙ ap (λ (b : _). qs ++ cond b (ranges p.state.top row) (record { start = t.start; end = past row p.state.top - 1 } ∷ ranges p.state.top row)) (eq-eqb t.tag 0 (sym h.tag ∙ ap w (omega arith) ∙ z));
    count = omega (arith, k);
    above = omega (arith, a, h.above, h.some);
    covers = h.rest;
    words = subst (λ (x : ℕ). Tiles w x row) (omega arith) h.words;
    holds = subst (λ (x : List ℕ). Holds x (having p p.limit qs)) (sym (c.free z)) held;
  }
  step t row from qs g k a h held (inr z) =
      let e = past row p.state.top in
      let r : RangeInclusive = record { start = t.start; end = e - 1 } in
      let d = c.granted z in
      let all : p.state.granted ≡ qs ++ r ∷ ranges p.state.top row = g ∙ ap (λ (b : _). qs ++ cond b (ranges p.state.top row) (r ∷ ranges p.state.top row)) (ne_eqb t.tag 0 (λ (x : t.tag ≡ 0). z (ap w (omega arith) ∙ h.tag ∙ x))) in
      let ends : d.1 ≡ e % 2 ^ 64 = past_ends w last p.state.top i n d.1 row (subst (λ (x : ℕ). Tiles w x row) (omega arith) h.words) (omega (arith, k, number)) top h.rest v.below d.3 in
      let wide : (d.0 + t.start) % 2 ^ 64 ≡ e % 2 ^ 64 = subst (λ (x : ℕ). (d.0 + x) % 2 ^ 64 ≡ e % 2 ^ 64) h.start (d.4 ∙ ends) in
      let size : d.0 ≡ suc r.end - r.start = size_of d.0 t.start e p.state.top d.2 h.some (omega (arith, h.below, v.below)) (omega (arith, h.below, h.above, a, v.within)) wide ∙ omega (arith, h.some) in
      let done : Performs m (ask r) d.5 m' = subst (λ (x : ℕ). Performs m (asking x 1 (ExactMatch t.start)) d.5 m') size (subst (λ (x : ℕ). Performs m (asking d.0 1 (ExactMatch x)) d.5 m') h.start d.6) in
      let now = rebuild_step p p.limit qs (ranges p.state.top row) r m m' d.5 v v.room all held done in
      record {
        ys = row;
        from = e;
        qs = qs ++ r ∷ [];
        granted = all ∙ sym (append_assoc qs (r ∷ []) (ranges p.state.top row));
        count = omega (arith, k);
        above = omega (arith, a, h.above, h.some);
        covers = h.rest;
        words = subst (λ (x : ℕ). Tiles w x row) (omega arith) h.words;
        holds = now.1;
      }

  zero_or : (x : ℕ) → (x ≡ 0) ⊎ (x ≡ 0 → ⊥)
  zero_or zero = inl refl
  zero_or (suc x) = inr (λ e. omega arith)

  go : (ys : List Tile) (from : ℕ) (qs : List RangeInclusive) → p.state.granted ≡ qs ++ ranges p.state.top ys → i + length ys ≡ length (row_of p.state) → p.state.base ≤ from → Behind from p.state.top ys → Tiles w (7 + 2 * i) ys → Holds m (having p p.limit qs) → Filled w p (i + 1) m'
  go [] from qs g k a b d h = absurd (omega (arith, k, number, more))
  go (t ∷ row) from qs g k a b d h = step t row from qs g k a (here w from p.state.top (7 + 2 * i) t row b d) h (zero_or (w (8 + 2 * i)))

  pub filled_step : Filled w p i m → Filled w p (i + 1) m'
  filled_step f = go f.ys f.from f.qs f.granted f.count f.above f.covers f.words f.holds

pub filled_end : (w : ℕ → ℕ) (p : Pool) (i : ℕ) (m : List ℕ) → i ≡ length (row_of p.state) → Filled w p i m → Holds m p
unfolding ranges
filled_end w p i m e f = go f.ys f.granted f.count
  where
    go : (ys : List Tile) → p.state.granted ≡ f.qs ++ ranges p.state.top ys → i + length ys ≡ length (row_of p.state) → Holds m p
    go [] g k = subst (λ (x : List RangeInclusive). Holds m (having p p.limit x)) (sym (g ∙ append-nil f.qs)) f.holds
    go (t ∷ ys) g k = absurd (omega (arith, k, e))
