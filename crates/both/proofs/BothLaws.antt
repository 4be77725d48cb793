-- Laws of asking for several things at once, from the public contracts of the pools and of the ids alone.
--     restored                                      a range that is given back leaves the pool from before (`freed_again`)
--     pair_one, pair_two, pair_both                 the three answers of `two`
--     triple_refused, triple_three, triple_all      those of `three`
-- Assumes nothing.
use Rattle.std.proofs.Common.{Ok, Err}
use Prim.Native.Nat.{ℕ}
use mathlib.Core.Path.{refl}
use mathlib.Core.List.{List}
use Rattle.ranges.specs.declared.Constraint.{Constraint}
use Rattle.ranges.specs.declared.Error.{Error}
use Rattle.ranges.specs.declared.RangeInclusive.{RangeInclusive}
use Rattle.addresses.proofs.CallLaws.{freed_again}
use Rattle.ids.specs.Runs as ids
use Rattle.ids.specs.Contract as ids_contract
use Rattle.both.specs.declared.PairError.{PairError}
use Rattle.both.specs.declared.PairError.TheVariants as pair
use Rattle.both.specs.declared.TripleError.TheVariants as triple
use Rattle.both.specs.Both.{Grants, Restores, Asks, Returns, Pairs, Triples, among_three}

-- ---- one pool

pub restored : (a n a' : List ℕ) (q : Constraint) (r : RangeInclusive) → Grants a q r n → Returns n r a' → Restores a q a'
restored a n a' q r g f p h = ((r, (g p h).0), (freed_again a n a' p q r f.0 h (record { kept = tt; right = g }) f.1).1)

-- ---- two

module _ (a b a' : List ℕ) (q w : Constraint) where
  pub pair_one : (e : Error) → Asks a q (Err e) a' → Pairs a q b w (Err (pair.First e)) a' b
  unfolding Pairs
  pair_one e d = (d, refl)

  module _ (r : RangeInclusive) (d : Asks a q (Ok r) a') (b' : List ℕ) where
    pub pair_both : (s : RangeInclusive) → Asks b w (Ok s) b' → Pairs a q b w (Ok (r, s)) a' b'
    unfolding Pairs
    pair_both s f = (d, f)

    pub pair_two : (e : Error) → Asks b w (Err e) b' → (a'' : List ℕ) → Returns a' r a'' → Pairs a q b w (Err (pair.Second e)) a'' b'
    unfolding Pairs
    pair_two e f a'' g = (restored a a' a'' q r d g, f)

-- ---- three

module _ (a b c a' b' : List ℕ) (q w : Constraint) where
  pub triple_refused : (e : PairError) → Pairs a q b w (Err e) a' b' → Triples a q b w c (Err (among_three e)) a' b' c
  unfolding Pairs Triples
  triple_refused (pair.First e) d = (d.0, d.1, refl)
  triple_refused (pair.Second e) d = (d.0, d.1, refl)

  module _ (r s : RangeInclusive) (d : Pairs a q b w (Ok (r, s)) a' b') (c' : List ℕ) where
    pub triple_all : (i : ℕ) → ids_contract.Performs c ids.Allocate (Ok i) c' → Triples a q b w c (Ok (r, s, i)) a' b' c'
    unfolding Pairs Triples
    triple_all i f = (d.0, d.1, f)

    pub triple_three : (e : Error) → ids_contract.Performs c ids.Allocate (Err e) c' → (a'' b'' : List ℕ) → Returns b' s b'' → Returns a' r a'' → Triples a q b w c (Err (triple.Third e)) a'' b'' c'
    unfolding Pairs Triples
    triple_three e f a'' b'' h g = (restored a a' a'' q r d.0 g, restored b b' b'' w s d.1 h, f)
