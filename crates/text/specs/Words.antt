-- Words of a line: runs of bytes between blanks, up to a `#`.
use Rattle.std.specs.Prelude.{◌≡◌, Bool, true, false, cond, not, List, [], ◌∷◌, ℕ, suc, ◌+◌, ◌-◌, ◌≤◌, min, leb, ltb, eqb, length, take, drop}
use Rattle.text.specs.declared.Class.{Class}
use Rattle.text.specs.declared.Class.TheVariants.{Blank, Solid, Named, Undotted}

-- space, tab, and the carriage return of a line that ends in two bytes
unfoldable pub is_blank : ℕ → Bool
is_blank c = cond (eqb c 32) true (cond (eqb c 9) true (eqb c 13))

-- what words are made of: neither blank nor `#`
unfoldable pub is_solid : ℕ → Bool
is_solid c = cond (is_blank c) false (not (eqb c 35))

-- what a word without its dots is made of
unfoldable pub is_undotted : ℕ → Bool
is_undotted c = cond (is_solid c) (not (eqb c 46)) false

-- a byte from one to another
unfoldable pub is_from : ℕ → ℕ → ℕ → Bool
is_from c low high = cond (ltb c low) false (leb c high)

-- what names are made of: letters, digits, `-` and `_`
unfoldable pub is_named : ℕ → Bool
is_named c =
    cond (is_from c 97 122) true
    (cond (is_from c 65 90) true
    (cond (is_from c 48 57) true
    (cond (eqb c 45) true (eqb c 95))))

-- the classes of bytes
abbrev pub is_in : Class → ℕ → Bool
is_in Blank c = is_blank c
is_in Solid c = is_solid c
is_in Named c = is_named c
is_in Undotted c = is_undotted c

-- how many bytes at the front are of a class
abbrev pub run : Class → List ℕ → ℕ
run k [] = 0
run k (c ∷ s) = cond (is_in k c) (suc (run k s)) 0

-- the first place from `at` on whose byte is not of a class, or the end
unfoldable pub scan_of : Class → List ℕ → ℕ → ℕ
scan_of k s at = min at (length s) + run k (drop at s)

-- what scanning answers, and that it is a place of the text
pub record Scanned (k : Class) (s : List ℕ) (at r : ℕ) : Type 0 where
  pub is : r ≡ scan_of k s at
  pub within : r ≤ length s
  pub behind : at ≤ length s → at ≤ r

-- where the next word starts, and where it ends: both are the line's end where there is none
abbrev pub start_of : List ℕ → ℕ → ℕ
start_of s at = scan_of Blank s at

abbrev pub end_of : List ℕ → ℕ → ℕ
end_of s at = scan_of Solid s (start_of s at)

-- there is no word from `at` on
unfoldable pub no_word : List ℕ → ℕ → Bool
no_word s at = eqb (start_of s at) (end_of s at)

-- the bytes of a text from a to e
abbrev pub between : List ℕ → ℕ → ℕ → List ℕ
between s a e = take (e - a) (drop a s)

-- two texts are the same
abbrev pub same : List ℕ → List ℕ → Bool
same [] [] = true
same [] (y ∷ t) = false
same (x ∷ s) [] = false
same (x ∷ s) (y ∷ t) = cond (eqb x y) (same s t) false

-- the next word from `at` on is this one
unfoldable pub word_is : List ℕ → ℕ → List ℕ → Bool
word_is s at key = same (between s (start_of s at) (end_of s at)) key

-- the next word from `at` on has a dot in it
unfoldable pub dotted : List ℕ → ℕ → Bool
dotted s at = not (eqb (scan_of Undotted s (start_of s at)) (end_of s at))
