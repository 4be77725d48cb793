-- What saving and loading answer, as numbers, 0 for done, and what an out-parameter holds then.
use Rattle.std.specs.Prelude.{ℕ, Result, Ok, Err}
use Rattle.ranges.specs.declared.Error.{Error}
use Rattle.ranges.specs.Reasons.{number_of}
use Rattle.frame.specs.Flaws as flaws
use Rattle.frame.specs.declared.SaveError.{SaveError}
use Rattle.frame.specs.declared.SaveError.TheVariants as save
use Rattle.frame.specs.declared.LoadError.{LoadError}
use Rattle.frame.specs.declared.LoadError.TheVariants as load

-- the number of what `save` answers
abbrev pub saved_number : Result ℕ SaveError → ℕ
saved_number (Ok n) = 0
saved_number (Err save.NoRoom) = number_of Error.NoRoom
saved_number (Err save.NoState) = number_of Error.NoState

-- what an out-parameter that held `old` holds after it: how many bytes were written, or what it held
abbrev pub written_or : ℕ → Result ℕ SaveError → ℕ
written_or old (Ok n) = n
written_or old (Err e) = old

-- the number of what `load` answers
abbrev pub loaded_number : Result ℕ LoadError → ℕ
loaded_number (Ok n) = 0
loaded_number (Err load.NoRoom) = number_of Error.NoRoom
loaded_number (Err (load.Bad f)) = flaws.number_of f.flaw

-- what an out-parameter that held `old` holds after it: how many bytes were read, the place of a flaw, or what it held
abbrev pub place_or : ℕ → Result ℕ LoadError → ℕ
place_or old (Ok n) = n
place_or old (Err load.NoRoom) = old
place_or old (Err (load.Bad f)) = f.place
