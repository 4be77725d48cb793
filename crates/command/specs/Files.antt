-- A line of files as a kind and nine words, beside those that a line of the script has otherwise.
use Rattle.std.specs.Prelude.{List, [], ◌∷◌, ℕ, Option, Some, None, Result, Ok, Err}
use Rattle.fields.specs.declared.Name.{Name}
use Rattle.keeping.specs.declared.Way.{Way}
use Rattle.keeping.specs.declared.Files.{Files}
use Rattle.keeping.specs.declared.Unkept.{Unkept}
use Rattle.command.specs.Encoded.{flaw_of}

-- the kind of a line of files: 11 save, 12 load
abbrev pub way_kind : Way → ℕ
way_kind Way.Save = 11
way_kind Way.Load = 12

-- the flaw of a line with no `to` or no `from`
abbrev pub join_flaw : Way → ℕ
join_flaw Way.Save = 14
join_flaw Way.Load = 15

-- the kind of a line that is k if it says nothing of files; a flaw is 8, as of any line
abbrev pub kind_with : Option (Result Files Unkept) → ℕ → ℕ
kind_with None k = k
kind_with (Some (Ok f)) k = way_kind f.way
kind_with (Some (Err u)) k = 8

-- two places, the name's and the file's, in nine words
abbrev pub places : Name → Name → List ℕ
places n f = n.start ∷ n.len ∷ f.start ∷ f.len ∷ 0 ∷ 0 ∷ 0 ∷ 0 ∷ 0 ∷ []

-- a flaw and its place, in nine words
abbrev pub flawed : ℕ → ℕ → List ℕ
flawed w i = 0 ∷ 0 ∷ w ∷ i ∷ 0 ∷ 0 ∷ 0 ∷ 0 ∷ 0 ∷ []

-- the words of a line that are ws if it says nothing of files
abbrev pub words_with : Option (Result Files Unkept) → List ℕ → List ℕ
words_with None ws = ws
words_with (Some (Ok f)) ws = places f.name f.file
words_with (Some (Err (Unkept.Wrong w))) ws = flawed (flaw_of w.why) w.at
words_with (Some (Err (Unkept.Unjoined w i))) ws = flawed (join_flaw w) i
words_with (Some (Err (Unkept.Unfiled i))) ws = flawed 16 i
