-- Laws of the walk that copies: after i ranges of the source the copy has just the granted ones among them.
--     filled_start     before the first
--     filled_step      one range more
--     filled_end       after all of them the copy holds the source's pool
-- Assumes nothing.
use Rattle.std.proofs.Common.{◌≡◌, ℕ, suc, ◌+◌, ◌-◌, ◌%◌, ◌^◌, ◌<◌, ◌≤◌, ◌⊎◌, List, [], ◌∷◌, ◌++◌, length, sym, refl, ap, ◌∙◌, subst, inl, inr, append_assoc, append-nil, mod-eq_of_lt, arith, length-append}
use native.Mathlib.Decide.{dec_le}
use Rattle.ranges.specs.declared.AllocPolicy.TheVariants.{ExactMatch}
use Rattle.ranges.specs.declared.RangeInclusive.{RangeInclusive}
use Rattle.table.specs.Row.{Tile, past, Covers}
use Rattle.table.specs.Tiles.{Has}
use Rattle.addresses.specs.Meaning.{Ordered, gap, row_from, row_of}
use Rattle.addresses.specs.Operations.{Pool}
use Rattle.addresses.specs.Runs.{Valid}
use Rattle.addresses.specs.Held.{Holds}
use Rattle.addresses.specs.Contract.{Performs, asking}
use Rattle.addresses.proofs.Room.{ordered_le}
use Rattle.addresses.proofs.Moves.{held, gap_some, gap_none, past_row}
use Rattle.addresses.proofs.RowLaws.{Behind, covers_row}
use Rattle.addresses.proofs.StepLaws.{has_in}
use Rattle.addresses.proofs.WalkLaws.{Next, walk_step}
use Rattle.addresses.proofs.ReachLaws.{ask}
use Rattle.addresses.proofs.RebuildLaws.{having, Roomy, rebuild_step}
use Rattle.copied.specs.Steps.{Placed, Carried, Carries}

-- ---- the first tile of a row

-- the first tile of a row: a free one, up to the next range; or the first range
unfoldable pub First : ℕ → ℕ → ℕ → ℕ → List RangeInclusive → List Tile → Type 0
First from top e g rs rest =
    ((g ≡ 0) × (rest ≡ row_from (e + 1) top rs) × Ordered (e + 1) top rs)
    ⊎ ((g ≡ 1) × (r : RangeInclusive) × (qs : List RangeInclusive) × (rs ≡ r ∷ qs) × (r.start ≡ from) × (r.end ≡ e) × (rest ≡ row_from (e + 1) top qs) × Ordered (e + 1) top qs)

-- two tiles in front of two rows that are the same are the same
same_tag : (t u : Tile) (xs ys : List Tile) → t ∷ xs ≡ u ∷ ys → t.tag ≡ u.tag
same_tag t u xs ys e = cc

same_rest : (t u : Tile) (xs ys : List Tile) → t ∷ xs ≡ u ∷ ys → xs ≡ ys
same_rest t u xs ys e = cc

nil_cons : (t : Tile) (xs : List Tile) → [] ≡ t ∷ xs → ⊥
nil_cons t xs e = omega (arith, ap length e)

pub first_tile : (from top e g : ℕ) (rs : List RangeInclusive) (rest : List Tile) → Ordered from top rs → row_from from top rs ≡ record { start = from; tag = g } ∷ rest → e + 1 ≡ past rest top → First from top e g rs rest
unfolding First row_from Ordered past
first_tile from top e g [] rest o h n = go (dec_le (suc from) top)
  where
    go : Dec (suc from ≤ top) → First from top e g [] rest
    go (yes l) =
        let k = sym (gap_some from top l) ∙ h in
        let z : rest ≡ [] = sym (same_rest _ _ _ _ k) in
        let at : e + 1 ≡ top = n ∙ ap (λ (y : List Tile). past y top) z in
        inl (sym (same_tag _ _ _ _ k), z ∙ sym (gap_none (e + 1) top (omega arith)), omega arith)
    go (no l) = absurd (nil_cons _ rest (sym (gap_none from top (omega arith)) ∙ h))
first_tile from top e g (r ∷ rs) rest o h n = go (dec_le (suc from) r.start)
  where
    go : Dec (suc from ≤ r.start) → First from top e g (r ∷ rs) rest
    go (yes l) =
        let k = sym (ap (λ (y : List Tile). y ++ held r.start ∷ row_from (suc r.end) top rs) (gap_some from r.start l)) ∙ h in
        let z : rest ≡ held r.start ∷ row_from (suc r.end) top rs = sym (same_rest _ _ _ _ k) in
        let at : e + 1 ≡ r.start = n ∙ ap (λ (y : List Tile). past y top) z in
        inl (sym (same_tag _ _ _ _ k), z ∙ sym (ap (λ (y : List Tile). y ++ held r.start ∷ row_from (suc r.end) top rs) (gap_none (e + 1) r.start (omega arith))), (omega arith, o.1, o.2))
    go (no l) =
        let k = sym (ap (λ (y : List Tile). y ++ held r.start ∷ row_from (suc r.end) top rs) (gap_none from r.start (omega arith))) ∙ h in
        let z : rest ≡ row_from (suc r.end) top rs = sym (same_rest _ _ _ _ k) in
        let at : e + 1 ≡ suc r.end = n ∙ ap (λ (y : List Tile). past y top) z ∙ past_row (suc r.end) top rs o.2 in
        let at' : suc r.end ≡ e + 1 = sym at in
        inr (sym (same_tag _ _ _ _ k), r, rs, refl, omega (arith, o.0), omega arith, z ∙ ap (λ (y : ℕ). row_from y top rs) at', subst (λ (y : ℕ). Ordered y top rs) at' o.2)

-- a row that is not empty starts below the top
pub row_below : (from top : ℕ) (rs : List RangeInclusive) → Ordered from top rs → 0 < length (row_from from top rs) → from < top
unfolding row_from Ordered
row_below from top [] o l = go (dec_le (suc from) top)
  where
    go : Dec (suc from ≤ top) → from < top
    go (yes k) = k
    go (no k) = absurd (omega (arith, ap length (gap_none from top (omega arith))))
row_below from top (r ∷ rs) o l = omega (arith, o.0, o.1, ordered_le (suc r.end) top rs o.2)

-- ---- the walk

-- after i ranges of p the walk is at a, and the block n holds p with the granted ones among them, qs; rs are to come
pub record Filled (p : Pool) (limit i a : ℕ) (n : List ℕ) : Type 0 where
  pub from : ℕ
  pub xs : List Tile
  pub qs : List RangeInclusive
  pub rs : List RangeInclusive
  pub granted : p.state.granted ≡ qs ++ rs
  pub row : row_of p.state ≡ xs ++ row_from from p.state.top rs
  pub walked : length xs ≡ i
  pub ordered : Ordered from p.state.top rs
  pub above : p.state.base ≤ from
  pub here : a ≡ from % 2 ^ 64
  pub holds : Holds n (having p limit qs)

pub filled_start : (p : Pool) (limit a : ℕ) (n : List ℕ) → Valid p → a ≡ p.state.base → Holds n (having p limit []) → Filled p limit 0 a n
unfolding row_of
filled_start p limit a n v b h = record {
  from = p.state.base;
  xs = [];
  qs = [];
  rs = p.state.granted;
  granted = refl;
  row = refl;
  walked = refl;
  ordered = v.sound.ordered;
  above = omega arith;
  here = b ∙ sym (mod-eq_of_lt (omega (arith, v.below, v.sound.some)));
  holds = h;
}

-- a row that covers may stand behind something
covers_behind : (from top : ℕ) (row : List Tile) → Covers from top row → Behind from top row
unfolding Behind Covers
covers_behind from top [] c = absurd c
covers_behind from top (t ∷ row) c = c

module _ (p : Pool) (limit i a : ℕ) (m n : List ℕ) (h : Holds m p) (l : Roomy p limit) (f : Filled p limit i a n) (more : i < length (row_of p.state)) where
  here_below : f.from < p.state.top
  here_below = row_below f.from p.state.top f.rs f.ordered (omega (arith, f.walked, ap length f.row, length-append f.xs (row_from f.from p.state.top f.rs)))

  here_at : a ≡ f.from
  here_at = f.here ∙ mod-eq_of_lt (omega (arith, here_below, h.valid.below))

  -- what stands at the walk's address is the first tile of what is to come
  stands_next : (s e g : ℕ) → Has p.state.top a s e g (row_of p.state) → Next p.state.top s e g (row_from f.from p.state.top f.rs)
  stands_next s e g w =
      walk_step p.state.base p.state.top s e g f.xs (row_from f.from p.state.top f.rs)
      (subst (Behind p.state.base p.state.top) f.row (covers_behind p.state.base p.state.top (row_of p.state) (covers_row p.state h.valid.sound)))
      (subst (λ (y : ℕ). Has p.state.top y s e g (f.xs ++ row_from f.from p.state.top f.rs)) (here_at ∙ sym (past_row f.from p.state.top f.rs f.ordered))
      (subst (Has p.state.top a s e g) f.row w))

  -- a tile longer
  longer : (t : Tile) (ys : List Tile) → row_from f.from p.state.top f.rs ≡ t ∷ ys → (row_of p.state ≡ (f.xs ++ t ∷ []) ++ ys) × (length (f.xs ++ t ∷ []) ≡ i + 1)
  longer t ys e = (f.row ∙ ap (λ (y : List Tile). f.xs ++ y) e ∙ sym (append_assoc f.xs (t ∷ []) ys), length-append f.xs (t ∷ []) ∙ omega (arith, f.walked))

  module _ (n' : List ℕ) (s e g : ℕ) (next : Next p.state.top s e g (row_from f.from p.state.top f.rs)) where
    tile : row_from f.from p.state.top f.rs ≡ record { start = f.from; tag = g } ∷ next.rest
    tile = next.tile ∙ ap (λ (y : ℕ). record { start = y; tag = g } ∷ next.rest) (past_row f.from p.state.top f.rs f.ordered)

    -- a free range is passed by
    pass : (g ≡ 0) → next.rest ≡ row_from (e + 1) p.state.top f.rs → Ordered (e + 1) p.state.top f.rs → f.from ≤ e → n' ≡ n → Filled p limit (i + 1) ((e + 1) % 2 ^ 64) n'
    pass z r o up k =
        let w = longer (record { start = f.from; tag = g }) (row_from (e + 1) p.state.top f.rs) (tile ∙ ap (λ (y : List Tile). record { start = f.from; tag = g } ∷ y) r) in
        record {
          from = e + 1;
          xs = f.xs ++ record { start = f.from; tag = g } ∷ [];
          qs = f.qs;
          rs = f.rs;
          granted = f.granted;
          row = w.0;
          walked = w.1;
          ordered = o;
          above = omega (arith, f.above);
          here = refl;
          holds = subst (λ (y : List ℕ). Holds y (having p limit f.qs)) (sym k) f.holds;
        }

    -- a granted one is asked for, and granted
    grant : (r : RangeInclusive) (qs : List RangeInclusive) → f.rs ≡ r ∷ qs → r.start ≡ f.from → r.end ≡ e → next.rest ≡ row_from (e + 1) p.state.top qs → Ordered (e + 1) p.state.top qs → f.from ≤ e → Placed n a e n' → Filled p limit (i + 1) ((e + 1) % 2 ^ 64) n'
    grant r qs split start end rest o up k =
        let w = longer (record { start = f.from; tag = g }) (row_from (e + 1) p.state.top qs) (tile ∙ ap (λ (y : List Tile). record { start = f.from; tag = g } ∷ y) rest) in
        let all : p.state.granted ≡ f.qs ++ r ∷ qs = f.granted ∙ ap (λ (y : List RangeInclusive). f.qs ++ y) split in
        let top : e + 1 ≤ p.state.top = ordered_le (e + 1) p.state.top qs o in
        let size : (e - a + 1) % 2 ^ 64 ≡ suc r.end - r.start = mod-eq_of_lt (omega (arith, here_at, top, h.valid.within, f.above)) ∙ omega (arith, here_at, start, end, up) in
        let at : a ≡ r.start = here_at ∙ sym start in
        let done : Performs n (ask r) k.0 n' = subst (λ (y : ℕ). Performs n (asking (suc r.end - r.start) 1 (ExactMatch y)) k.0 n') at (subst (λ (y : ℕ). Performs n (asking y 1 (ExactMatch a)) k.0 n') size k.1) in
        let held = rebuild_step p limit f.qs qs r n n' k.0 h.valid l all f.holds done in
        record {
          from = e + 1;
          xs = f.xs ++ record { start = f.from; tag = g } ∷ [];
          qs = f.qs ++ r ∷ [];
          rs = qs;
          granted = all ∙ sym (append_assoc f.qs (r ∷ []) qs);
          row = w.0;
          walked = w.1;
          ordered = o;
          above = omega (arith, f.above);
          here = refl;
          holds = held.1;
        }

    -- whichever it is
    go_on : f.from ≤ e → Carried n a e g n' → First f.from p.state.top e g f.rs next.rest → Filled p limit (i + 1) ((e + 1) % 2 ^ 64) n'
    unfolding First
    go_on up (inl k) (inl t) = pass t.0 t.1 t.2 up k.1
    go_on up (inl k) (inr t) = absurd (omega (arith, k.0, t.0))
    go_on up (inr k) (inl t) = absurd (k.0 t.0)
    go_on up (inr k) (inr t) = grant t.1 t.2 t.3 t.4 t.5 t.6 t.7 up k.1

  pub filled_step : (r : ℕ) (n' : List ℕ) → Carries m n a r n' → Filled p limit (i + 1) r n'
  filled_step r n' (inr k) = absurd (k.1 p h (omega (arith, here_at, f.above)) (omega (arith, here_at, here_below)))
  filled_step r n' (inl k) =
      let next = stands_next k.start k.end k.tag (k.stands p h) in
      let t = tile n' k.start k.end k.tag next in
      let in_tile = has_in p.state.top a k.start k.end k.tag (row_of p.state) (k.stands p h) in
      subst (λ (y : ℕ). Filled p limit (i + 1) y n') (sym k.past)
      (go_on n' k.start k.end k.tag next (omega (arith, here_at, in_tile)) k.done (first_tile f.from p.state.top k.end k.tag f.rs next.rest f.ordered t next.ends))

-- a row with no tile has no range
row_none : (from top : ℕ) (rs : List RangeInclusive) → length (row_from from top rs) ≡ 0 → rs ≡ []
unfolding row_from
row_none from top [] e = refl
row_none from top (r ∷ rs) e = absurd (omega (arith, e, length-append (gap from r.start) (held r.start ∷ row_from (suc r.end) top rs)))

pub filled_end : (p : Pool) (limit i a : ℕ) (n : List ℕ) → i ≡ length (row_of p.state) → Filled p limit i a n → Holds n (having p limit p.state.granted)
filled_end p limit i a n c f =
    let e : f.rs ≡ [] = row_none f.from p.state.top f.rs (omega (arith, f.walked, ap length f.row, length-append f.xs (row_from f.from p.state.top f.rs))) in
    let g : p.state.granted ≡ f.qs = f.granted ∙ ap (λ (y : List RangeInclusive). f.qs ++ y) e ∙ append-nil f.qs in
    subst (λ (y : List RangeInclusive). Holds n (having p limit y)) (sym g) f.holds
