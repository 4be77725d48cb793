-- What the id allocator's names answer: the answer of what each calls, as a number, 0 for done. m is the block before, m' the block after.
use Rattle.std.specs.Prelude.{ℕ, ◌≡◌, Bool, true, false, List, Result, Ok, Err}
use Rattle.ranges.specs.declared.Error.{Error}
use Rattle.ranges.specs.Reasons.{number_of}
use Rattle.ids.specs.Runs.{Allocate, Release}
use Rattle.ids.specs.Contract as ids

-- the number of what `new` answers
abbrev pub setup_number : Result Unit Error → ℕ
setup_number (Ok tt) = 0
setup_number (Err e) = number_of e

-- the number of what an operation answers
abbrev pub answer_number : Result ℕ Error → ℕ
answer_number (Ok i) = 0
answer_number (Err e) = number_of e

-- what an out-parameter that held `old` holds after an answer: the id, or what it held
abbrev pub id_or : ℕ → Result ℕ Error → ℕ
id_or old (Ok i) = i
id_or old (Err e) = old

-- what `rk_id_new` does: what `new` does, and its number
pub record Starts (m : List ℕ) (low high r : ℕ) (m' : List ℕ) : Type 0 where
  pub answer : Result Unit Error
  pub number : r ≡ setup_number answer
  pub made : ids.Makes m low high answer m'

-- what `rk_id_allocate` does: what `allocate` does, its number, and the id
pub record Allocates (m : List ℕ) (old r : ℕ) (m' : List ℕ) (id : ℕ) : Type 0 where
  pub answer : Result ℕ Error
  pub number : r ≡ answer_number answer
  pub out : id ≡ id_or old answer
  pub done : ids.Performs m Allocate answer m'

-- what `rk_id_free` does: what `free` does, and its number
pub record Frees (m : List ℕ) (id r : ℕ) (m' : List ℕ) : Type 0 where
  pub answer : Result ℕ Error
  pub number : r ≡ answer_number answer
  pub done : ids.Performs m (Release id) answer m'

-- the number of a yes or a no
abbrev pub yes_number : Bool → ℕ
yes_number true = 1
yes_number false = 0

-- what `rk_id_is_allocated` answers: what `is_allocated` does, as a number
pub record Tells (m : List ℕ) (id r : ℕ) : Type 0 where
  pub answer : Bool
  pub number : r ≡ yes_number answer
  pub right : ids.Tells m id answer
