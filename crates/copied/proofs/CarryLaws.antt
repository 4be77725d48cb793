-- Laws of the steps of a copy, from the contracts of what they call.
--     nowhere, turned, passed, placed     the four ways in which `carry` ends
--     carries_some                        each leaves a pool in the copy where there was one
--     row_some                            a pool has a range
-- Assumes nothing.
use Rattle.std.proofs.Common.{◌≡◌, ℕ, ◌+◌, ◌%◌, ◌^◌, ◌<◌, List, [], ◌∷◌, length, sym, refl, subst, inl, inr, arith, Ok, Err}
use Rattle.table.specs.Row.{Tile, Covers}
use Rattle.table.specs.Tiles.{Has}
use Rattle.table.specs.declared.Stands.{Stands}
use Rattle.table.specs.declared.AtError.{AtError}
use Rattle.table.specs.declared.AtError.TheVariants.{Outside, NoTable}
use Rattle.addresses.specs.Meaning.{row_of}
use Rattle.addresses.specs.Operations.{Pool, next}
use Rattle.addresses.specs.Runs.{Valid}
use Rattle.addresses.specs.Held.{Holds}
use Rattle.addresses.specs.Contract.{Shows}
use Rattle.addresses.proofs.RowLaws.{covers_row}
use Rattle.addresses.proofs.StepLaws.{has_in}
use Rattle.copied.specs.Steps.{Placed, Carried, Carries}

pub nowhere : (m n : List ℕ) (a r : ℕ) (e : AtError) → Shows m a (Err e) → Carries m n a r n
unfolding Shows
nowhere m n a r Outside c = inr (refl, c)
nowhere m n a r NoTable c = inr (refl, λ p h l u. c p h)

module _ (m n : List ℕ) (a r : ℕ) (s : Stands) (c : Shows m a (Ok s)) where
  has : (p : Pool) → Holds m p → Has p.state.top a s.start s.end s.tag (row_of p.state)
  unfolding Shows
  has p h = c p h

  pub turned : s.end < a → Carries m n a r n
  turned l = inr (refl, λ p h l' u. absurd (omega (arith, has_in p.state.top a s.start s.end s.tag (row_of p.state) (has p h))))

  pub passed : r ≡ (s.end + 1) % 2 ^ 64 → s.tag ≡ 0 → Carries m n a r n
  passed k z = inl (record { start = s.start; end = s.end; tag = s.tag; stands = has; past = k; done = inl (z, refl) })

  pub placed : (n' : List ℕ) → r ≡ (s.end + 1) % 2 ^ 64 → (s.tag ≡ 0 → ⊥) → Placed n a s.end n' → Carries m n a r n'
  placed n' k z d = inl (record { start = s.start; end = s.end; tag = s.tag; stands = has; past = k; done = inr (z, d) })

pub carries_some : (m n n' : List ℕ) (a r : ℕ) (q : Pool) → Holds n q → Carries m n a r n' → (w : Pool) × Holds n' w
carries_some m n n' a r q h (inr k) = (q, subst (λ (y : List ℕ). Holds y q) (sym k.0) h)
carries_some m n n' a r q h (inl k) = go k.done
  where
    go : Carried n a k.end k.tag n' → (w : Pool) × Holds n' w
    go (inl d) = (q, subst (λ (y : List ℕ). Holds y q) (sym d.1) h)
    go (inr d) = (next q d.1.0, (d.1.1.right q h).1)

-- a pool has a range
pub row_some : (p : Pool) → Valid p → 0 < length (row_of p.state)
unfolding Covers
row_some p v = go (row_of p.state) (covers_row p.state v.sound)
  where
    go : (row : List Tile) → Covers p.state.base p.state.top row → 0 < length row
    go [] c = absurd c
    go (t ∷ row) c = omega arith
