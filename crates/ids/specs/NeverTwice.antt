-- No id is handed out twice without being given back in between: said of any sequence of operations.
use Rattle.std.specs.Prelude.{◌≡◌, List, [], ◌∷◌, ◌++◌, ◌⊎◌, ℕ}
use Rattle.ids.specs.Runs.{Event, Grants, Returns}

-- some event gives i back
unfoldable pub GivenBack : List Event → ℕ → Type 0
GivenBack [] i = ⊥
GivenBack (e ∷ es) i = Returns e i ⊎ GivenBack es i

-- between two events that hand out the same id there is one that gives it back
unfoldable pub NeverTwice : List Event → Type 0
unfolding GivenBack
NeverTwice es =
    (before between behind : List Event) (d e : Event) (i : ℕ) → es ≡ before ++ (d ∷ (between ++ (e ∷ behind))) → Grants d i → Grants e i
    → GivenBack between i
