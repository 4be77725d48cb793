-- Laws of what comes before the table: a pool that is made, a request that is in order or refused, a pair that is a range.
-- Assumes nothing.
use Rattle.std.proofs.Common.{◌≡◌, ℕ, ◌+◌, ◌-◌, ◌<◌, List, [], ◌∷◌, Ok, Err, sym, refl, subst, inl, inr, arith}
use Rattle.ranges.specs.declared.AllocPolicy.{AllocPolicy}
use Rattle.ranges.specs.declared.Error.{Error}
use Rattle.ranges.specs.declared.Error.TheVariants.{NoRoom}
use Rattle.ranges.specs.Range.{MakesRange}
use Rattle.ranges.specs.Request.{MakesConstraint}
use Rattle.table.specs.declared.MakeError.{MakeError}
use Rattle.table.specs.declared.MakeError.TheVariants as make
use Rattle.table.specs.Table as table
use Rattle.table.specs.Held as held
use Rattle.table.specs.Contract as contract
use Rattle.table.proofs.Holding.{holds_proper}
use Rattle.addresses.specs.declared.Answer.TheVariants.{Refused}
use Rattle.addresses.specs.Meaning.{row_of, row_from}
use Rattle.addresses.specs.Operations.{Pool, next, Within, Lendable, fresh, Makes, Allocates}
use Rattle.addresses.specs.Runs.{Does}
use Rattle.addresses.specs.Held.{table_of}
use Rattle.addresses.specs.Contract.{Performs, asking, returning, Starts}
use Rattle.addresses.proofs.Moves.{free, gap_some}
use Rattle.addresses.proofs.PoolLaws.{made_valid}
use Rattle.addresses.proofs.ReleaseLaws.{no_range}

-- ---- a pool is made

-- the table of a new pool is one free range
fresh_table : (base size limit : ℕ) → 0 < size → table.fresh base (base + (size - 1)) limit ≡ table_of (fresh base size limit)
unfolding row_of row_from
fresh_table base size limit s =
    let t : base + (size - 1) + 1 ≡ base + size = omega arith in
    let r : free base ∷ [] ≡ row_from base (base + size) [] = sym (gap_some base (base + size) (omega arith)) in
    λ i. record { base = base; top = t i; limit = limit; row = r i }

module _ (m m' : List ℕ) (base size limit : ℕ) (s : 0 < size) (w : Within base size) where
  pub starts_done : contract.Makes m base (base + (size - 1)) limit (Ok tt) m' → Starts m base size limit (Ok tt) m'
  unfolding contract.Makes Starts Makes Lendable
  starts_done c =
      let h : held.Holds m' (table_of (fresh base size limit)) = subst (held.Holds m') (fresh_table base size limit s) c in
      let p = holds_proper m' (table_of (fresh base size limit)) h in
      let d : Makes base size limit (Ok tt) = (s, w, (p.some, p.most)) in
      (d, record { table = h; valid = made_valid base size limit d })

  pub starts_refused : (e : MakeError) → contract.Makes m base (base + (size - 1)) limit (Err e) m' → Starts m base size limit (Err NoRoom) m'
  unfolding contract.Makes Starts Makes Lendable
  starts_refused make.Unfit k = (k.0, inl (s, w, λ l. k.1 (omega arith, l.0, l.1)))
  starts_refused make.Short k = (k.0, inr (refl, (s, w, (k.1.1, k.1.2)), k.2))

-- ---- a request

-- a request that is not in order is refused with its reason
out_of_order : (p : Pool) (size align : ℕ) (w : AllocPolicy) (e : Error) → MakesConstraint size align w (Err e) → Allocates p (record { size = size; align = align; policy = w }) (Refused e)
unfolding Allocates
out_of_order p size align w e (inl k) = subst (λ (y : Error). Allocates p (record { size = size; align = align; policy = w }) (Refused y)) (sym k.0) k.1
out_of_order p size align w e (inr (inl k)) = subst (λ (y : Error). Allocates p (record { size = size; align = align; policy = w }) (Refused y)) (sym k.0) (k.1, k.2)
out_of_order p size align w e (inr (inr k)) = subst (λ (y : Error). Allocates p (record { size = size; align = align; policy = w }) (Refused y)) (sym k.0) (k.1, k.2, k.3)

pub request_refused : (m : List ℕ) (size align : ℕ) (w : AllocPolicy) (e : Error) → MakesConstraint size align w (Err e) → Performs m (asking size align w) (Refused e) m
unfolding Does next
request_refused m size align w e c = record { kept = refl; right = λ p h. (out_of_order p size align w e c, h) }

-- ---- a pair

pub pair_refused : (m : List ℕ) (s e : ℕ) (y : Error) → MakesRange s e (Err y) → Performs m (returning s e) (Refused y) m
pair_refused m s e y k = subst (λ (z : Error). Performs m (returning s e) (Refused z) m) (sym k.0) (no_range m s e k.1)
