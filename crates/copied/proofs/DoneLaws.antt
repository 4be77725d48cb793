-- Laws of `copy`: what its calls say of each pool that the source holds, from their contracts alone.
--     copy_none                           the source's header is no pool's
--     copy_limit, copy_short, copy_unfit  limit or block do not suffice
--     copy_kept                           after any refusal the block is as it was
--     copy_done                           the block holds the source's pool
-- Assumes nothing.
use Rattle.std.proofs.Common.{◌≡◌, ℕ, ◌<◌, ◌≤◌, List, [], length, refl, subst, ⊎_elim, arith, Some, None, Ok, Err}
use Rattle.ranges.specs.declared.Error.{Error}
use Rattle.ranges.specs.declared.Error.TheVariants.{Overflow, OutOfRange, AlreadyReleased, NeverAllocated, ResourceNotAvailable, InvalidRange, InvalidAlignment, UnalignedAddress, Underflow, InvalidSize, NoRoom, InvalidPolicy, NoState}
use Rattle.table.specs.Held.{words_for}
use Rattle.table.specs.Contract as table
use Rattle.addresses.specs.Operations.{Pool, Within, Lendable, fresh, Makes}
use Rattle.addresses.specs.Held.{table_of, Holds}
use Rattle.addresses.specs.Contract.{Starts}
use Rattle.addresses.proofs.PoolLaws.{makes_only}
use Rattle.copied.specs.declared.Extent.{Extent}
use Rattle.copied.specs.Copy.{Copies}
use Rattle.copied.specs.Steps.{Fills, Measures}
use Rattle.copied.proofs.CarryLaws.{row_some}

pub copy_none : (m n : List ℕ) (limit : ℕ) → Measures m None → Copies m limit (Err NoState) n n
unfolding Copies
copy_none m n limit w = (refl, w)

module _ (m n : List ℕ) (limit least : ℕ) (says : table.Says m (λ t. t.limit) least) where
  least_is : (p : Pool) → Holds m p → least ≡ p.limit
  least_is p h = says (table_of p) h.table

  pub copy_limit : limit < least → Copies m limit (Err NoRoom) n n
  unfolding Copies
  copy_limit l = (refl, λ p h s. omega (arith, least_is p h, s.least))

  module _ (words : ℕ) (enough : words ≡ words_for limit) where
    pub copy_short : length n < words → Copies m limit (Err NoRoom) n n
    unfolding Copies
    copy_short l = (refl, λ p h s. omega (arith, s.words))

    module _ (x : Extent) (measured : Measures m (Some x)) (long : words ≤ length n) (n' : List ℕ) where
      -- a pool of these numbers is made for any limit that a table may have
      makeable : 0 < limit → limit ≤ 4096 → Makes x.base x.size limit (Ok tt)
      unfolding Makes Within Lendable
      makeable some most = (measured.some, (omega (arith, measured.within), omega (arith, measured.below, measured.some)), (some, most))

      never : (e : Error) → Makes x.base x.size limit (Ok tt) → Makes x.base x.size limit (Err e) → ⊥
      never e a b =
          let k = makes_only x.base x.size limit (Ok tt) a in
          let l = makes_only x.base x.size limit (Err e) b in
          let z : ◌≡◌ {A = ℕ} 0 1 = cc in
          omega arith

      pub copy_unfit : (e : Error) → Starts n x.base x.size limit (Err e) n' → Copies m limit (Err NoRoom) n n'
      unfolding Starts Copies
      copy_unfit e w = (
        w.0,
        λ p h s.
            let some : 0 < limit = omega (arith, s.least, h.valid.room, row_some p h.valid) in
            ⊎_elim (never e (makeable some s.most)) (λ z. omega (arith, z.2, s.words)) w.1,
      )

      pub copy_done : Starts n x.base x.size limit (Ok tt) n' → least ≤ limit → (n'' : List ℕ) → Fills m n' x.base x.count n'' → Copies m limit (Ok tt) n n''
      unfolding Starts Copies Makes Lendable
      copy_done w l n'' f = (
        f.some (fresh x.base x.size limit) w.1,
        λ p h.
            let fits : p.limit ≤ limit = omega (arith, least_is p h) in
            let b = measured.first p h in
            let t = measured.behind p h in (
              record { least = fits; most = w.0.2.1; words = omega arith },
              f.all p limit h b (measured.all p h) fits (subst (λ (z : Pool). Holds n' z) (λ i. record { state = record { base = b i; top = t i; granted = [] }; limit = limit }) w.1),
            ),
      )

-- after any refusal the block is as it was
pub copy_kept : (m n n' : List ℕ) (limit : ℕ) (e : Error) → Copies m limit (Err e) n n' → n' ≡ n
unfolding Copies
copy_kept m n n' limit NoRoom d = d.0
copy_kept m n n' limit NoState d = d.0
copy_kept m n n' limit Overflow d = absurd d
copy_kept m n n' limit OutOfRange d = absurd d
copy_kept m n n' limit AlreadyReleased d = absurd d
copy_kept m n n' limit NeverAllocated d = absurd d
copy_kept m n n' limit ResourceNotAvailable d = absurd d
copy_kept m n n' limit InvalidRange d = absurd d
copy_kept m n n' limit InvalidAlignment d = absurd d
copy_kept m n n' limit UnalignedAddress d = absurd d
copy_kept m n n' limit Underflow d = absurd d
copy_kept m n n' limit InvalidSize d = absurd d
copy_kept m n n' limit InvalidPolicy d = absurd d
