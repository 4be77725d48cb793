-- What the names of the copies answer: the answer of what each calls, as a number, 0 for done. m is the source, n the other block before, n' after.
use Rattle.std.specs.Prelude.{ℕ, ◌≡◌, List, Result, Ok, Err}
use Rattle.ranges.specs.Reasons.{number_of}
use Rattle.ranges.specs.declared.Error.{Error}
use Rattle.copied.specs.Copy as copied
use Rattle.copied_ids.specs.Copy as copied_ids

-- the number of what a copy answers
abbrev pub copied_number : Result (Unit {0}) Error → ℕ
copied_number (Ok tt) = 0
copied_number (Err e) = number_of e

-- what `rk_address_copy` does: what `copy` does, and its number
pub record Copies (m : List ℕ) (limit : ℕ) (n : List ℕ) (r : ℕ) (n' : List ℕ) : Type 0 where
  pub answer : Result (Unit {0}) Error
  pub number : r ≡ copied_number answer
  pub done : copied.Copies m limit answer n n'

-- what `rk_id_copy` does
pub record CopiesIds (m n : List ℕ) (r : ℕ) (n' : List ℕ) : Type 0 where
  pub answer : Result (Unit {0}) Error
  pub number : r ≡ copied_number answer
  pub done : copied_ids.Copies m answer n n'
