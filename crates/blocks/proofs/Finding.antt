-- What `find` answers, from the searches among the blocks and in one. Assumes nothing.
use Prim.Native.Nat.{ℕ, ◌+◌, ◌*◌, ◌<◌}
use mathlib.Core.Path.{◌≡◌, ◌∙◌}
use mathlib.Core.List.{List}
use native.Mathlib.Decide.{dec_lt}
use native.Mathlib.Omega.{arith}
use lib.ListN.{get_or}
use Rattle.std.proofs.Common.{Some, None}
use Rattle.cells.specs.Cells.{Passed, Locates}
use Rattle.places.proofs.Searches.{get_d_any}
use Rattle.blocks.specs.Blocks.{blocks_of, size_at, starts_at, past_at, Sound}
use Rattle.blocks.specs.Looks.{Finds}
use Rattle.blocks.proofs.Parts.{starts_length, start_at, start_past}
use Rattle.blocks.proofs.Flat.{flat_located, flat_zero}

pub find_first : (m : List ℕ) (a : ℕ) → a < get_or m 137 0 → Finds m a None
unfolding Finds
find_first m a h s = rw (flat_zero m s 0) h

module _ (m : List ℕ) (sound : Sound m) (a nb : ℕ) (e : nb ≡ blocks_of m) (b : ℕ) (passed : Passed (λ p. get_or m (137 + p * 129) 0) a nb 1 b) where
  here : b < blocks_of m
  here = omega (arith, passed.within)

  -- the block's first start is not above a, so this cannot be where there is a range
  pub find_none : Locates (starts_at b m) a None → Finds m a None
  unfolding Finds Locates
  find_none u s =
      let p = s.some b here in
      let z : 137 + b * 129 + 0 ≡ 137 + b * 129 = omega arith in
      let f : get_or (starts_at b m) 0 0 ≡ get_or m (137 + b * 129) 0 = start_at m sound b here 0 0 p ∙ rw z in
      absurd (omega (arith, u (omega (arith, starts_length m sound b here)), passed.low))

  pub find_in : (i : ℕ) → Locates (starts_at b m) a (Some i) → Finds m a (Some (b, i))
  unfolding Finds Locates
  find_in i u =
      let n = starts_length m sound b here in (
        record {
          block = here;
          tile = omega (arith, u.within);
          rises = elim (dec_lt (i + 1) (size_at b m)) [
            | yes p ↦ omega (arith, u.to (omega arith), get_d_any (starts_at b m) (i + 1) (past_at b m) 0 (omega arith))
            | no p ↦ omega (arith, start_past m sound b here (i + 1) (past_at b m) (omega arith))
          ];
        },
        u.from,
        λ s. flat_located m s b here a i u (λ t. passed.high (omega arith)),
      )
