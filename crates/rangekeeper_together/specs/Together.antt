-- What the names for several things or none answer: the answer of what each calls, as a number, 0 for done.
-- a, b and c are the blocks before, a', b' and c' after; o and o' are the out-parameters before and after.
use Rattle.std.specs.Prelude.{ℕ, ◌≡◌, ◌⊎◌, List, Option, Some, None, Result, Ok, Err}
use Rattle.ranges.specs.declared.AllocPolicy.{AllocPolicy}
use Rattle.ranges.specs.declared.Constraint.{Constraint}
use Rattle.ranges.specs.declared.Error.{Error}
use Rattle.ranges.specs.declared.RangeInclusive.{RangeInclusive}
use Rattle.ranges.specs.Reasons.{number_of}
use Rattle.ranges.specs.Request as request
use Rattle.both.specs.declared.PairError.{PairError}
use Rattle.both.specs.declared.PairError.TheVariants as pair
use Rattle.both.specs.declared.TripleError.{TripleError}
use Rattle.both.specs.declared.TripleError.TheVariants as triple
use Rattle.both.specs.Both as both

-- ---- requests in numbers

pub record Numbers : Type 0 where
  pub size : ℕ
  pub align : ℕ
  pub policy : ℕ
  pub address : ℕ

abbrev pub asked : ℕ → ℕ → ℕ → ℕ → Numbers
asked size align policy address = record { size = size; align = align; policy = policy; address = address }

-- q is the request that the numbers stand for
pub record Means (n : Numbers) (q : Constraint) : Type 0 where
  pub size : q.size ≡ n.size
  pub align : q.align ≡ n.align
  pub policy : request.Stands n.policy n.address q.policy

-- the policy's number stands for no policy
abbrev pub NoPolicy : Numbers → Type 0
NoPolicy n = (p : AllocPolicy) → request.Stands n.policy n.address p → ⊥

abbrev pub Requests : Numbers → Option Constraint → Type 0
Requests n (Some q) = Means n q
Requests n None = NoPolicy n

-- ---- two pools

-- the first addresses of the two ranges, and whose refusal it was
pub record Outs : Type 0 where
  pub first : ℕ
  pub second : ℕ
  pub which : ℕ

abbrev pub outs : ℕ → ℕ → ℕ → Outs
outs first second which = record { first = first; second = second; which = which }

-- what asking two pools answers
abbrev pub PairAnswer : Type 0
PairAnswer = Result (RangeInclusive × RangeInclusive) PairError

-- the number of an answer, and what the out-parameters hold after it
abbrev pub pair_number : PairAnswer → ℕ
pair_number (Ok (r, s)) = 0
pair_number (Err (pair.First e)) = number_of e
pair_number (Err (pair.Second e)) = number_of e

abbrev pub pair_outs : Outs → PairAnswer → Outs
pair_outs o (Ok (r, s)) = outs r.start s.start o.which
pair_outs o (Err (pair.First e)) = outs o.first o.second 1
pair_outs o (Err (pair.Second e)) = outs o.first o.second 2

-- what `two` does, its number, and the out-parameters
pub record Offered (a : List ℕ) (q : Constraint) (b : List ℕ) (w : Constraint) (o : Outs) (r : ℕ) (a' b' : List ℕ) (o' : Outs) : Type 0 where
  pub answer : PairAnswer
  pub number : r ≡ pair_number answer
  pub out : o' ≡ pair_outs o answer
  pub done : both.Pairs a q b w answer a' b'

-- a request whose policy is none is refused before anything else is looked at
pub record Unknown (which : ℕ) (a b : List ℕ) (o : Outs) (r : ℕ) (a' b' : List ℕ) (o' : Outs) : Type 0 where
  pub number : r ≡ number_of Error.InvalidPolicy
  pub out : o' ≡ outs o.first o.second which
  pub kept : a' ≡ a
  pub kept_other : b' ≡ b

-- what `rk_both` does
abbrev pub Offers : List ℕ → Numbers → List ℕ → Numbers → Outs → ℕ → List ℕ → List ℕ → Outs → Type 0
Offers a m b n o r a' b' o' =
    ((q w : Constraint) × Means m q × Means n w × Offered a q b w o r a' b' o')
    ⊎ ((NoPolicy m × Unknown 1 a b o r a' b' o') ⊎ (NoPolicy n × Unknown 2 a b o r a' b' o'))

-- ---- two pools and ids

pub record OutsThree : Type 0 where
  pub first : ℕ
  pub second : ℕ
  pub id : ℕ
  pub which : ℕ

abbrev pub outs_three : ℕ → ℕ → ℕ → ℕ → OutsThree
outs_three first second id which = record { first = first; second = second; id = id; which = which }

-- what asking all three answers
abbrev pub TripleAnswer : Type 0
TripleAnswer = Result (RangeInclusive × RangeInclusive × ℕ) TripleError

abbrev pub triple_number : TripleAnswer → ℕ
triple_number (Ok (r, s, i)) = 0
triple_number (Err (triple.First e)) = number_of e
triple_number (Err (triple.Second e)) = number_of e
triple_number (Err (triple.Third e)) = number_of e

-- with another number for whose refusal it was
abbrev pub whose : OutsThree → ℕ → OutsThree
whose o which = outs_three o.first o.second o.id which

abbrev pub triple_outs : OutsThree → TripleAnswer → OutsThree
triple_outs o (Ok (r, s, i)) = outs_three r.start s.start i o.which
triple_outs o (Err (triple.First e)) = whose o 1
triple_outs o (Err (triple.Second e)) = whose o 2
triple_outs o (Err (triple.Third e)) = whose o 3

-- what `three` does, its number, and the out-parameters
pub record OfferedThree (a : List ℕ) (q : Constraint) (b : List ℕ) (w : Constraint) (c : List ℕ) (o : OutsThree) (r : ℕ) (a' b' c' : List ℕ) (o' : OutsThree) : Type 0 where
  pub answer : TripleAnswer
  pub number : r ≡ triple_number answer
  pub out : o' ≡ triple_outs o answer
  pub done : both.Triples a q b w c answer a' b' c'

pub record UnknownThree (which : ℕ) (a b c : List ℕ) (o : OutsThree) (r : ℕ) (a' b' c' : List ℕ) (o' : OutsThree) : Type 0 where
  pub number : r ≡ number_of Error.InvalidPolicy
  pub out : o' ≡ whose o which
  pub kept : a' ≡ a
  pub kept_other : b' ≡ b
  pub kept_ids : c' ≡ c

-- what `rk_all_three` does
abbrev pub OffersThree : List ℕ → Numbers → List ℕ → Numbers → List ℕ → OutsThree → ℕ → List ℕ → List ℕ → List ℕ → OutsThree → Type 0
OffersThree a m b n c o r a' b' c' o' =
    ((q w : Constraint) × Means m q × Means n w × OfferedThree a q b w c o r a' b' c' o')
    ⊎ ((NoPolicy m × UnknownThree 1 a b c o r a' b' c' o') ⊎ (NoPolicy n × UnknownThree 2 a b c o r a' b' c' o'))
