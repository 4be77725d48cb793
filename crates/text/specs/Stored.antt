-- A text put into lent bytes.
use Rattle.std.specs.Prelude.{◌≡◌, List, ◌++◌, ℕ, ◌+◌, ◌≤◌, ◌<◌, length, take, drop, Option, Some, None}

-- the text t is put into the old bytes from `at` on, and nothing else is changed; or it does not fit, and nothing is
abbrev pub Puts : List ℕ → ℕ → List ℕ → List ℕ → Option ℕ → Type 0
Puts t at old new (Some e) =
    (at + length t ≤ length old) × (e ≡ at + length t) × (new ≡ take at old ++ (t ++ drop e old))
Puts t at old new None = (length old < at + length t) × (new ≡ old)
