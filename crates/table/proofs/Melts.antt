-- What `melt` answers, from where the address was found and what was left. Assumes nothing.
use Prim.Native.Nat.{ℕ, ◌+◌, ◌<◌}
use mathlib.Core.Path.{◌≡◌, refl, sym, ap, subst, ◌∙◌}
use mathlib.Core.List.{List}
use native.Mathlib.Omega.{arith}
use lib.ListN.{get_or, take, drop}
use Rattle.cells.specs.Cells.{Located}
use Rattle.blocks.specs.Blocks.{count_of, top_of, starts_at, tags_at, starts_of, tags_of, index, Settled, Ready}
use Rattle.std.proofs.Common.{Option, None, Ok, Err}
use Rattle.blocks.specs.Looks.{Headed, There, Finds}
use Rattle.blocks.proofs.Flat.{flat_start, flat_tag}
use Rattle.melting.specs.Melting.{Melted}
use Rattle.table.specs.Row.{Tile, Covers, melt, unfree}
use Rattle.table.specs.Tiles.{Granted}
use Rattle.table.specs.Table.{Proper, with_row}
use Rattle.table.specs.Layout.{row_in, Holds}
use Rattle.table.specs.Contract.{Melts}
use Rattle.table.specs.Steps.{glue}
use Rattle.table.specs.declared.ChangeError.TheVariants.{Absent, NoTable}
use Rattle.table.proofs.Lying.{starts_length}
use Rattle.table.proofs.Moves.{melt_glue, melt_covers}
use Rattle.table.proofs.Standing.{granted_above, granted_in, granted_only}
use Rattle.table.proofs.Holding.{own, of_own, of_none, tile_in, split_in, covers_split, located_next, turned_holds}
use Rattle.table.proofs.Melting.{melt_row}
use Rattle.table.proofs.Cuts.{bad_head, found_before}

module _ (m : List ℕ) (s : ℕ) where
  abbrev top : ℕ
  top = top_of m

  absent : (Ready m → Proper (own m) → Granted s (row_in m) → ⊥) → Melts m s (Err Absent) m
  unfolding Melts
  absent f = (refl, of_own m (λ t. Granted s t.row → ⊥) f)

  pub melt_below : {r : Option (ℕ × ℕ)} → Finds m s r → r ≡ None → Melts m s (Err Absent) m
  melt_below f e = absent (λ r p. granted_above top s (get_or m 2 0) (row_in m) p.covers (found_before m s f e r.settled p))

  module _ (b i : ℕ) (there : There m b i) (located : Settled m → Located (starts_of m) s (index b i m)) where
    abbrev k : ℕ
    k = index b i m

    inside : (u : Settled m) → k < count_of m
    inside u = omega (arith, (located u).within, starts_length m u)

    abbrev tile : Settled m → Tile
    tile u = tile_in m u k (inside u)

    start : (u : Settled m) → get_or (starts_of m) k 0 ≡ get_or (starts_at b m) i 0
    start u = flat_start m u.sound b there.block i 0 there.tile

    tag : (u : Settled m) → get_or (tags_of m) k 0 ≡ get_or (tags_at b m) i 0
    tag u = flat_tag m u.sound b there.block i 0 there.tile

    -- the tile that has s is the only one that could start there
    here : (u : Settled m) → Proper (own m) → Granted s (row_in m) → (get_or (starts_of m) k 0 ≡ s) × (get_or (tags_of m) k 0 ≡ 0 → ⊥)
    here u p g = granted_only top (tile u) (drop (k + 1) (row_in m)) s (located u).from (located_next m u k (inside u) s (located u)) (take k (row_in m)) (get_or m 2 0) (covers_split m u k (inside u) p) (subst (Granted s) (split_in m u k (inside u)) g)

    pub melt_between : (get_or (starts_at b m) i 0 ≡ s → ⊥) → Melts m s (Err Absent) m
    melt_between n = absent (λ r p g. n (sym (start r.settled) ∙ (here r.settled p g).0))

    pub melt_free : get_or (tags_at b m) i 0 ≡ 0 → Melts m s (Err Absent) m
    melt_free z = absent (λ r p g. (here r.settled p g).1 (tag r.settled ∙ z))

    abbrev returned : List Tile
    returned = glue (take k (row_in m)) (record { start = get_or (starts_of m) k 0; tag = 0 }) (unfree (drop (k + 1) (row_in m)))

    melt_split : (u : Settled m) → get_or (starts_of m) k 0 ≡ s → Proper (own m) → melt s (row_in m) ≡ returned
    melt_split u at p =
        ap (λ (x : ℕ). melt x (row_in m)) (sym at)
        ∙ ap (melt (get_or (starts_of m) k 0)) (split_in m u k (inside u))
        ∙ melt_glue top (tile u) (drop (k + 1) (row_in m)) (take k (row_in m)) (get_or m 2 0) (covers_split m u k (inside u) p)

    covers_returned : (u : Settled m) → Proper (own m) → Covers (get_or m 2 0) top returned
    covers_returned u p = melt_covers top (tile u) (drop (k + 1) (row_in m)) (take k (row_in m)) (get_or m 2 0) (covers_split m u k (inside u) p)

    pub melt_done : (m' : List ℕ) → get_or (starts_at b m) i 0 ≡ s → (get_or (tags_at b m) i 0 ≡ 0 → ⊥) → (Ready m → Melted m m' k) → Melts m s (Ok tt) m'
    unfolding Melts
    melt_done m' e n f =
        of_own m (λ t. Granted s t.row × Holds m' (with_row t (melt s t.row)))
        (λ r p.
        let u = r.settled in
        let at : get_or (starts_of m) k 0 ≡ s = start u ∙ e in
        let w = f r in (
          subst (Granted s) (sym (split_in m u k (inside u))) (granted_in top (tile u) (drop (k + 1) (row_in m)) s (take k (row_in m)) at (λ z. n (sym (tag u) ∙ z))),
          turned_holds m m' _ _ (melt s (row_in m)) p w.turned (melt_row m u k (inside u) w.after w.before w.told_after w.told_before ∙ sym (melt_split u at p)) (subst (Covers (get_or m 2 0) top) (sym (melt_split u at p)) (covers_returned u p)),
        ))

pub melt_no_table : (m : List ℕ) (s : ℕ) {r : Option ℕ} → Headed m r → r ≡ None → Melts m s (Err NoTable) m
unfolding Melts
melt_no_table m s h e = (refl, of_none m (bad_head m h e))
