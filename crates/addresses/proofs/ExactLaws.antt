-- Exact means exact: the four answers of an exact request that is in order are just those of the definition (exactly_just), and of
-- the code on a block that holds a pool (exact_called).
-- Assumes nothing.
use Rattle.std.proofs.Common.{◌≡◌, ℕ, ◌↔◌, List, refl, subst, arith}
use Rattle.ranges.specs.declared.AllocPolicy.TheVariants.{ExactMatch}
use Rattle.ranges.specs.declared.Error.TheVariants.{Overflow, ResourceNotAvailable, InvalidAlignment, UnalignedAddress, InvalidSize, NoRoom}
use Rattle.ranges.specs.Request.{Proper}
use Rattle.addresses.specs.declared.Answer.{Answer}
use Rattle.addresses.specs.declared.Answer.TheVariants.{Granted, Refused}
use Rattle.addresses.specs.Meaning.{window}
use Rattle.addresses.specs.Operations.{Pool, Chosen, Nowhere, Beyond, HasRoom, Allocates}
use Rattle.addresses.specs.Runs.{Does, Valid}
use Rattle.addresses.specs.Held.{Holds}
use Rattle.addresses.specs.Contract.{Performs, asking}
use Rattle.addresses.specs.Steps.{Clear}
use Rattle.addresses.specs.Exact.{Exactly}
use Rattle.addresses.proofs.StepLaws.{clear_within}

module _ (p : Pool) (size align at : ℕ) (v : Valid p) (o : Proper size align (ExactMatch at)) where
  -- each answer of the definition is one of the four
  exactly_to : (x : Answer) → Allocates p (record { size = size; align = align; policy = ExactMatch at }) x → Exactly p at size x
  unfolding Allocates Exactly Chosen Nowhere Beyond HasRoom
  exactly_to (Granted r) d = subst (λ (a : ℕ). Clear p.state a size × HasRoom p (window a size) × (r ≡ window a size)) d.2.0 (d.2.1.free, d.3, d.4)
  exactly_to (Refused NoRoom) d = subst (λ (a : ℕ). Clear p.state a size × (¬ HasRoom p (window a size))) d.2.0 (d.2.1.free, d.3)
  exactly_to (Refused Overflow) d = d.2
  exactly_to (Refused ResourceNotAvailable) d = (λ f. d.1 (record { allowed = o.aligned; free = f }), d.2)
  exactly_to (Refused InvalidSize) d = absurd (omega (arith, d, o.some))
  exactly_to (Refused InvalidAlignment) d = absurd (d.1 o.power)
  exactly_to (Refused UnalignedAddress) d = absurd (d.2 o.aligned)
  exactly_to _ d = absurd d

  -- and each of the four is an answer of the definition
  exactly_from : (x : Answer) → Exactly p at size x → Allocates p (record { size = size; align = align; policy = ExactMatch at }) x
  unfolding Allocates Exactly Chosen Nowhere Beyond
  exactly_from (Granted r) d = (o, at, (refl, record { allowed = o.aligned; free = d.0 }), d.1, d.2)
  exactly_from (Refused NoRoom) d = (o, at, (refl, record { allowed = o.aligned; free = d.0 }), d.1)
  exactly_from (Refused Overflow) d = (o, λ f. omega (arith, clear_within p.state at size o.some f.free, v.below, d.1), d)
  exactly_from (Refused ResourceNotAvailable) d = (o, λ f. d.0 f.free, d.1)
  exactly_from _ d = absurd d

  pub exactly_just : (x : Answer) → Allocates p (record { size = size; align = align; policy = ExactMatch at }) x ↔ Exactly p at size x
  exactly_just x = (exactly_to x, exactly_from x)

-- of the code
pub exact_called : (m m' : List ℕ) (p : Pool) (size align at : ℕ) (x : Answer) → Holds m p → Proper size align (ExactMatch at) → Performs m (asking size align (ExactMatch at)) x m' → Exactly p at size x
unfolding Does
exact_called m m' p size align at x h o d = (exactly_just p size align at h.valid o x).0 (d.right p h).0
