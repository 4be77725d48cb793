-- The lines that save an allocator to a file or load it from one: `save` NAME `to` FILE, `load` NAME `from` FILE.
use Rattle.std.specs.Prelude.{cond, List, [], ◌∷◌, ℕ, ◌-◌, ltb, length, Option, Some, None, Result, Ok, Err}
use Rattle.text.specs.Words.{start_of, end_of, no_word, word_is}
use Rattle.fields.specs.Fields.{wrong, name_at}
use Rattle.fields.specs.declared.Name.{Name}
use Rattle.fields.specs.declared.Flaw.{Flaw}
use Rattle.fields.specs.declared.Wrong.{Wrong}
use Rattle.keeping.specs.declared.Way.{Way}
use Rattle.keeping.specs.declared.Files.{Files}
use Rattle.keeping.specs.declared.Unkept.{Unkept}

-- the first word: `save`, `load`
abbrev pub way_text : Way → List ℕ
way_text Way.Save = 115 ∷ 97 ∷ 118 ∷ 101 ∷ []
way_text Way.Load = 108 ∷ 111 ∷ 97 ∷ 100 ∷ []

-- the word before the file: `to`, `from`
abbrev pub join_text : Way → List ℕ
join_text Way.Save = 116 ∷ 111 ∷ []
join_text Way.Load = 102 ∷ 114 ∷ 111 ∷ 109 ∷ []

-- a file: one word, with nothing behind it
unfoldable pub file_at : List ℕ → Way → Name → ℕ → Result Files Unkept
file_at s way name at =
    cond (no_word s at) (Err (Unkept.Unfiled (start_of s at)))
    (cond (no_word s (end_of s at)) (Ok (record { way = way; name = name; file = record { start = start_of s at; len = end_of s at - start_of s at } }))
    (Err (Unkept.Wrong (wrong Flaw.LeftOver (start_of s (end_of s at))))))

-- `to` or `from`, and a file
unfoldable pub joined_at : List ℕ → Way → Name → ℕ → Result Files Unkept
joined_at s way name at = cond (word_is s at (join_text way)) (file_at s way name (end_of s at)) (Err (Unkept.Unjoined way (start_of s at)))

-- what follows the name, which is given the name and the place behind it; or what is wrong with the name
abbrev pub on_name : Result (Name × ℕ) Wrong → (Name → ℕ → Result Files Unkept) → Result Files Unkept
on_name (Ok t) f = f t.0 t.1
on_name (Err w) f = Err (Unkept.Wrong w)

-- a name, `to` or `from`, and a file
unfoldable pub named_at : List ℕ → Way → ℕ → Result Files Unkept
named_at s way at = on_name (name_at s at) (λ name i. joined_at s way name i)

-- what a line says of files: its first word decides; nothing where it is another word, or the line is too long
unfoldable pub kept_of : List ℕ → Option (Result Files Unkept)
kept_of s =
    cond (ltb 1000 (length s)) None
    (cond (word_is s 0 (way_text Way.Save)) (Some (named_at s Way.Save (end_of s 0)))
    (cond (word_is s 0 (way_text Way.Load)) (Some (named_at s Way.Load (end_of s 0)))
    None))
