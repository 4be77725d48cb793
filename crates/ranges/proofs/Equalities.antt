-- What `==` says of reasons and of ranges, as the derives write it: true where the two are the same, and only there.
--     error_same, error_other, range_same, range_other     what an `if a == b` knows of the two
--     error_decides, range_decides                         the same as one statement
-- Assumes nothing.
use Rattle.std.proofs.Common.{◌≡◌, Bool, true, false, refl, ap, eq-eqb}
use Rattle.std.proofs.Math.Dec.{eqb}
use Rattle.std.proofs.lemmas.Bool.{eqb-true, and_parts, and_from}
use denote.Enum.Bare.{same_true, same_false}
use Rattle.ranges.specs.Align.{Decides}
use Rattle.ranges.specs.declared.Error.{Error}
use Rattle.ranges.specs.declared.RangeInclusive.{RangeInclusive}
use Rattle.ranges.specs.contracts.Error.{the_type}
use Rattle.ranges.specs.contracts.ErrorPartialEq.TheImpl as error
use Rattle.ranges.specs.contracts.RangeInclusivePartialEq.TheImpl as range

pub error_same : (d e : Error) → (error.eq-value).it d e ≡ true → d ≡ e
error_same d e h = same_true the_type tt d e h

pub error_other : (d e : Error) → (error.eq-value).it d e ≡ false → d ≡ e → ⊥
error_other d e h = same_false the_type d e h

pub range_same : (a b : RangeInclusive) → (range.eq-value).it a b ≡ true → a ≡ b
range_same a b h =
    let p = and_parts (eqb a.start b.start) (eqb a.end b.end) h in
    let s : a.start ≡ b.start = eqb-true a.start b.start p.0 in
    let e : a.end ≡ b.end = eqb-true a.end b.end p.1 in
    λ i. record { start = s i; end = e i }

pub range_other : (a b : RangeInclusive) → (range.eq-value).it a b ≡ false → a ≡ b → ⊥
range_other a b h q =
    let s : eqb a.start b.start ≡ true = eq-eqb a.start b.start (ap (λ (r : RangeInclusive). r.start) q) in
    let e : eqb a.end b.end ≡ true = eq-eqb a.end b.end (ap (λ (r : RangeInclusive). r.end) q) in
    cc (h, and_from (eqb a.start b.start) (eqb a.end b.end) s e)

decided : (t : Bool) {P : Type 0} → (t ≡ true → P) → (t ≡ false → P → ⊥) → Decides t P
decided true f g = f refl
decided false f g = g refl

pub error_decides : (d e : Error) → Decides ((error.eq-value).it d e) (d ≡ e)
error_decides d e = decided ((error.eq-value).it d e) (error_same d e) (error_other d e)

pub range_decides : (a b : RangeInclusive) → Decides ((range.eq-value).it a b) (a ≡ b)
range_decides a b = decided ((range.eq-value).it a b) (range_same a b) (range_other a b)
