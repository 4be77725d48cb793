-- Laws of a give-back: what the table's answers to `at` and `melt` say of the pool.
--     past_there, past_absent     why a window that passes the end is refused
--     free_tile .. free_absent    what stands at the first address is not just the range: it is not granted
--     melt_frees, melt_refused    it is just the range: the melt is the give-back
-- Assumes nothing.
use Rattle.std.proofs.Common.{◌≡◌, ℕ, List, Ok, Err, refl, ap, subst, arith}
use mathlib.Core.List.{Memᴰ}
use Rattle.ranges.specs.declared.Error.{Error}
use Rattle.ranges.specs.declared.Error.TheVariants.{Overflow, ResourceNotAvailable, InvalidRange, NoState}
use Rattle.ranges.specs.declared.RangeInclusive.{RangeInclusive}
use Rattle.ranges.specs.Range.{IsRange}
use Rattle.table.specs.declared.AtError.{AtError}
use Rattle.table.specs.declared.AtError.TheVariants as look
use Rattle.table.specs.declared.ChangeError.{ChangeError}
use Rattle.table.specs.declared.ChangeError.TheVariants as change
use Rattle.table.specs.declared.Stands.{Stands}
use Rattle.table.specs.Contract as table
use Rattle.addresses.specs.declared.Answer.TheVariants.{Freed, Refused}
use Rattle.addresses.specs.Meaning.{row_of}
use Rattle.addresses.specs.Operations.{Pool, next, Frees}
use Rattle.addresses.specs.Runs.{Does}
use Rattle.addresses.specs.Held.{table_of, Holds}
use Rattle.addresses.specs.Contract.{Performs, returning}
use Rattle.addresses.specs.Steps.{why_unchanged, why_not_there, PastTheEnd}
use Rattle.addresses.proofs.Room.{ordered_mem}
use Rattle.addresses.proofs.Tiles.{granted_once}
use Rattle.addresses.proofs.StepLaws.{melt_done, has_free, has_granted, has_in, granted_tile}

-- ---- the tile of an address

-- the range from s to e
abbrev range : ℕ → ℕ → RangeInclusive
range s e = record { start = s; end = e }

module _ (m : List ℕ) (a : ℕ) where
  pub past_free : (x : Stands) → table.Shows m a (Ok x) → x.tag ≡ 0 → (p : Pool) → Holds m p → PastTheEnd p a Overflow
  unfolding table.Shows PastTheEnd
  past_free x c z p h = has_free p.state a x.start x.end h.valid.sound (rw z at (c (table_of p) h.table))

  pub past_held : (x : Stands) → table.Shows m a (Ok x) → (x.tag ≡ 0 → ⊥) → (p : Pool) → Holds m p → PastTheEnd p a ResourceNotAvailable
  unfolding table.Shows PastTheEnd
  past_held x c n p h f =
      let w = c (table_of p) h.table in
      f.unheld (range x.start x.end) (has_granted p.state a x.start x.end x.tag h.valid.sound n w) (has_in p.state.top a x.start x.end x.tag (row_of p.state) w)

  pub past_absent : (e : AtError) → table.Shows m a (Err e) → (p : Pool) → Holds m p → PastTheEnd p a (why_not_there e)
  unfolding table.Shows PastTheEnd
  past_absent look.Outside c p h = λ f. c (table_of p) h.table f.above f.below
  past_absent look.NoTable c p h = absurd (c (table_of p) h.table)

-- a refusal that leaves the block as it was
refused : (m : List ℕ) (s e : ℕ) (y : Error) → ((p : Pool) → Holds m p → Frees p (range s e) (Refused y)) → Performs m (returning s e) (Refused y) m
unfolding Does next
refused m s e y f = record { kept = refl; right = λ p h. (f p h, h) }

-- what stands at the first address of the range is not just the range: it is not granted
module _ (m : List ℕ) (start end : ℕ) (r : IsRange start end) where
  pub free_absent : (e : AtError) → table.Shows m start (Err e) → Performs m (returning start end) (Refused (why_not_there e)) m
  unfolding table.Shows Frees
  free_absent look.Outside c =
      refused m start end ResourceNotAvailable (λ p h. (
        r,
        λ i.
            let w = ordered_mem p.state.base p.state.top p.state.granted (range start end) h.valid.sound.ordered i in
            c (table_of p) h.table w.0 (omega arith),
      ))
  free_absent look.NoTable c = refused m start end NoState (λ p h. absurd (c (table_of p) h.table))

  module _ (x : Stands) (c : table.Shows m start (Ok x)) where
    -- the tile is free
    pub free_tile : x.tag ≡ 0 → Performs m (returning start end) (Refused ResourceNotAvailable) m
    unfolding table.Shows Frees
    free_tile z =
        refused m start end ResourceNotAvailable (λ p h. (
          r,
          λ i.
              let w = ordered_mem p.state.base p.state.top p.state.granted (range start end) h.valid.sound.ordered i in
              (has_free p.state start x.start x.end h.valid.sound (rw z at (c (table_of p) h.table))).unheld (range start end) i (omega arith, w.1),
        ))

    -- a granted tile is the range
    same_tile : (x.tag ≡ 0 → ⊥) → (p : Pool) → Holds m p → Memᴰ (range start end) p.state.granted → range x.start x.end ≡ range start end
    unfolding table.Shows
    same_tile n p h i =
        let k = c (table_of p) h.table in
        let v = has_in p.state.top start x.start x.end x.tag (row_of p.state) k in
        let w = ordered_mem p.state.base p.state.top p.state.granted (range start end) h.valid.sound.ordered i in
        granted_once p.state.base p.state.top start p.state.granted (range x.start x.end) (range start end) h.valid.sound.ordered
        (has_granted p.state start x.start x.end x.tag h.valid.sound n k) i v.0 v.1 (omega arith) w.1

    pub other_start : (x.tag ≡ 0 → ⊥) → (x.start ≡ start → ⊥) → Performs m (returning start end) (Refused ResourceNotAvailable) m
    unfolding Frees
    other_start n d = refused m start end ResourceNotAvailable (λ p h. (r, λ i. d (ap (λ (y : RangeInclusive). y.start) (same_tile n p h i))))

    pub other_end : (x.tag ≡ 0 → ⊥) → (x.end ≡ end → ⊥) → Performs m (returning start end) (Refused ResourceNotAvailable) m
    unfolding Frees
    other_end n d = refused m start end ResourceNotAvailable (λ p h. (r, λ i. d (ap (λ (y : RangeInclusive). y.end) (same_tile n p h i))))

    -- it is just the range
    module _ (n : x.tag ≡ 0 → ⊥) (es : x.start ≡ start) (ee : x.end ≡ end) (m' : List ℕ) where
      member : (p : Pool) → Holds m p → Memᴰ (range start end) p.state.granted
      unfolding table.Shows
      member p h = subst (λ (z : RangeInclusive). Memᴰ z p.state.granted) (λ j. range (es j) (ee j)) (has_granted p.state start x.start x.end x.tag h.valid.sound n (c (table_of p) h.table))

      pub melt_frees : table.Melts m start (Ok tt) m' → Performs m (returning start end) (Freed (range start end)) m'
      unfolding table.Melts Does Frees
      melt_frees k =
          record {
            kept = tt;
            right = λ p h. ((r, member p h, refl), melt_done m' p (range start end) h.valid (member p h) (k (table_of p) h.table).1);
          }

      pub melt_refused : (e : ChangeError) → table.Melts m start (Err e) m' → Performs m (returning start end) (Refused (why_unchanged e)) m'
      unfolding table.Melts
      melt_refused change.Absent k = record { kept = k.0; right = λ p h. absurd (k.1 (table_of p) h.table (granted_tile p.state (range start end) h.valid.sound (member p h))) }
      melt_refused change.Full k = absurd k
      melt_refused change.Unfit k = absurd k
      melt_refused change.NoTable k = record { kept = k.0; right = λ p h. absurd (k.1 (table_of p) h.table) }

-- a pair that is no range
pub no_range : (m : List ℕ) (start end : ℕ) → (IsRange start end → ⊥) → Performs m (returning start end) (Refused InvalidRange) m
unfolding Frees
no_range m start end n = refused m start end InvalidRange (λ p h. n)
