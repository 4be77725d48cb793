-- No address is granted twice without being given back in between: said of the answers of any sequence of operations.
use Rattle.std.specs.Prelude.{◌≡◌, ℕ, List, ◌∷◌, ◌++◌}
use mathlib.Core.List.{Memᴰ}
use Rattle.ranges.specs.declared.RangeInclusive.{RangeInclusive}
use Rattle.ranges.specs.Range.{In}
use Rattle.addresses.specs.declared.Answer.{Answer}
use Rattle.addresses.specs.declared.Answer.TheVariants.{Granted, Freed}

-- between two grants that share an address the whole range of the first is given back
unfoldable pub NeverTwice : List Answer → Type 0
NeverTwice xs =
    (before between behind : List Answer) (q r : RangeInclusive) (x : ℕ) → xs ≡ before ++ (Granted q ∷ (between ++ (Granted r ∷ behind))) → In x q → In x r
    → Memᴰ (Freed q) between
