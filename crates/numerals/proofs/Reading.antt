-- Laws of reading a numeral byte by byte: a digit, one more digit, and what is read at the end. Assumes nothing.
use mathlib.Core.Path.{◌≡◌, refl, sym, ap, ◌∙◌, subst}
use mathlib.Core.Bool.{Bool, true, false, cond}
use mathlib.Core.List.{List, ◌∷◌}
use Prim.Native.Nat.{ℕ, suc, ◌+◌, ◌*◌, ◌^◌, ◌≤◌, ◌<◌}
use native.Mathlib.Nat.{mul-le-mul_left}
use native.Mathlib.Omega.{arith}
use lib.Dec.{ltb}
use lib.ListN.{length, drop, get_or, drop_of_length-le}
use lib.Seq.{drop-cons}
use native.Mathlib.Numerals.{add-one}
use borrow.Author.Tests.{ltb-false, lt-ltb, le-ltb, eq-eqb, ne_eqb}
use Rattle.std.proofs.Common.{Option, Some, None, Ok, Err, SomeIff}
use Rattle.std.proofs.lemmas.Bool.Decides.{nat_tests}
use Rattle.std.specs.Char.{digit_value}
use Rattle.std.specs.Option.{ok_or}
use Rattle.numerals.specs.Numeral.{means, wrong, digit, after, digits, fitted}
use Rattle.numerals.specs.Steps.{sum_of, added}
use Rattle.numerals.specs.declared.NoNumber.TheVariants.{NoDigit, TooLarge}

-- the digit of a byte is the one that `to_digit` answers, in a base up to sixteen
digit_is : (c b : ℕ) → b ≤ 16 → (digit_value c < b → digit c ≡ digit_value c) × (digit c < b → digit_value c < b)
unfolding digit
digit_is c b h = (λ k. grind (arith, nat_tests), λ k. grind (arith, nat_tests))

pub digit_found : (c b : ℕ) (r : Option ℕ) → b ≤ 16 → SomeIff r (digit_value c < b) (digit_value c) → SomeIff r (digit c < b) (digit c)
digit_found c b None h w = λ k. w ((digit_is c b h).1 k)
digit_found c b (Some d) h w = let e = (digit_is c b h).0 w.0 in (omega (arith, w.0, e), w.1 ∙ sym e)

-- one more digit of a sum, whether it fits or not
pub added_sum : (m b d : ℕ) → 0 < b → added (sum_of m) b d ≡ sum_of (m * b + d)
added_sum m b d p = go (ltb m (2 ^ 64)) refl
  where
    go : (t : Bool) → ltb m (2 ^ 64) ≡ t → added (cond t (Some m) None) b d ≡ sum_of (m * b + d)
    go true e = refl
    go false e =
        let h : 2 ^ 64 ≤ m * b + d = omega (arith, ltb-false m (2 ^ 64) e, mul-le-mul_left {m = 1} {n = b} m p) in
        rw (le-ltb (m * b + d) (2 ^ 64) h)

-- at the end, a sum that fits is the number, and one that does not is too large
sum_fitted : (m : ℕ) → ok_or (sum_of m) TooLarge ≡ fitted (means m)
sum_fitted m = go (ltb m (2 ^ 64))
  where
    go : (t : Bool) → ok_or (cond t (Some m) None) TooLarge ≡ cond t (Ok m) (Err TooLarge)
    go true = refl
    go false = refl

-- nothing at the place where the first digit is wanted, or a byte that is none
pub reading_none : (s : List ℕ) (from b : ℕ) → length s ≤ from → Err (NoDigit from) ≡ fitted (digits b from (drop from s))
reading_none s from b h = rw (drop_of_length-le s h)

pub reading_stop : (s : List ℕ) (from b : ℕ) → from < length s → (digit (get_or s from 0) < b → ⊥) → Err (NoDigit from) ≡ fitted (digits b from (drop from s))
reading_stop s from b h n =
    let k : b ≤ digit (get_or s from 0) = omega arith in
    rw (drop-cons s from 0 h) (rw (le-ltb (digit (get_or s from 0)) b k))

-- the sum is that of a number, and what is left after it means what the whole does
pub record Reading (s : List ℕ) (from b : ℕ) (sum : Option ℕ) (i : ℕ) : Type 0 where
  pub number : ℕ
  pub same : digits b from (drop from s) ≡ after b number i (drop i s)
  pub summed : sum ≡ sum_of number

pub reading_start : (s : List ℕ) (from b d : ℕ) → from < length s → d ≡ digit (get_or s from 0) → digit (get_or s from 0) < b → b ≤ 16 → Reading s from b (Some d) (from + 1)
reading_start s from b d h e k m =
    let l : d < 2 ^ 64 = omega arith in
    record {
      number = d;
      same = rw (drop-cons s from 0 h) (rw (lt-ltb (digit (get_or s from 0)) b k) (rw (add-one from) (ap (λ (x : ℕ). after b x (suc from) (drop (suc from) s)) (sym e))));
      summed = rw (lt-ltb d (2 ^ 64) l);
    }

module _ (s : List ℕ) (from b : ℕ) (sum : Option ℕ) (i : ℕ) (h : i < length s) (w : Reading s from b sum i) where
  goes : digits b from (drop from s) ≡ after b w.number i (get_or s i 0 ∷ drop (suc i) s)
  goes = w.same ∙ ap (after b w.number i) (drop-cons s i 0 h)

  -- a `_`
  pub reading_skip : (r : Option ℕ) → get_or s i 0 ≡ 95 → r ≡ sum → Reading s from b r (i + 1)
  reading_skip r e q = record { number = w.number; same = rw (add-one i) (goes ∙ rw (eq-eqb (get_or s i 0) 95 e)); summed = q ∙ w.summed }

  -- a digit
  pub reading_digit : (d : ℕ) (o r : Option ℕ) → (get_or s i 0 ≡ 95 → ⊥) → 0 < b → o ≡ Some d → SomeIff o (digit (get_or s i 0) < b) (digit (get_or s i 0)) → r ≡ added sum b d → Reading s from b r (i + 1)
  reading_digit d o r n p q f e =
      let g = subst (λ (x : Option ℕ). SomeIff x (digit (get_or s i 0) < b) (digit (get_or s i 0))) q f in
      record {
        number = w.number * b + digit (get_or s i 0);
        same = rw (add-one i) (goes ∙ rw (ne_eqb (get_or s i 0) 95 n, lt-ltb (digit (get_or s i 0)) b g.0));
        summed = e ∙ ap (λ (x : ℕ). added sum b x) g.1 ∙ ap (λ (x : Option ℕ). added x b (digit (get_or s i 0))) w.summed ∙ added_sum w.number b (digit (get_or s i 0)) p;
      }

  -- a byte that is neither
  pub reading_stopped : (get_or s i 0 ≡ 95 → ⊥) → (digit (get_or s i 0) < b → ⊥) → Err (NoDigit i) ≡ fitted (digits b from (drop from s))
  reading_stopped n z =
      let k : b ≤ digit (get_or s i 0) = omega arith in
      let stops : after b w.number i (get_or s i 0 ∷ drop (suc i) s) ≡ wrong i = rw (ne_eqb (get_or s i 0) 95 n, le-ltb (digit (get_or s i 0)) b k) in
      sym (ap fitted (goes ∙ stops))

-- at the end of the text
pub reading_end : (s : List ℕ) (from b : ℕ) (sum : Option ℕ) (i : ℕ) → length s ≤ i → Reading s from b sum i → ok_or sum TooLarge ≡ fitted (digits b from (drop from s))
reading_end s from b sum i h w =
    ap (λ (x : Option ℕ). ok_or x TooLarge) w.summed ∙ sum_fitted w.number ∙ sym (ap fitted (w.same ∙ ap (after b w.number i) (drop_of_length-le s h)))
