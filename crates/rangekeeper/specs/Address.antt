-- What the address allocator's names answer: the answer of what each calls, as a number, 0 for done. m is the block before, m' the block after.
use Rattle.std.specs.Prelude.{ℕ, ◌≡◌, ◌⊎◌, List, Result, Ok, Err}
use Rattle.ranges.specs.declared.AllocPolicy.{AllocPolicy}
use Rattle.ranges.specs.declared.Error.{Error}
use Rattle.ranges.specs.Reasons.{number_of}
use Rattle.ranges.specs.Request as request
use Rattle.table.specs.declared.Stands.{Stands}
use Rattle.table.specs.declared.AtError.{AtError}
use Rattle.table.specs.declared.AtError.TheVariants.{Outside, NoTable}
use Rattle.addresses.specs.declared.Answer.{Answer}
use Rattle.addresses.specs.declared.Answer.TheVariants.{Granted, Freed, Refused}
use Rattle.addresses.specs.Contract as addresses
use Rattle.left.specs.declared.Left.{Left}
use Rattle.left.specs.Contract.{Tells}

-- the number of what `new` answers
abbrev pub setup_number : Result (Unit {0}) Error → ℕ
setup_number (Ok tt) = 0
setup_number (Err e) = number_of e

-- the number of what an operation answers
abbrev pub answer_number : Answer → ℕ
answer_number (Granted r) = 0
answer_number (Freed r) = 0
answer_number (Refused e) = number_of e

-- what an out-parameter that held `old` holds after an answer: the granted range's first address, or what it held
abbrev pub granted_or : ℕ → Answer → ℕ
granted_or old (Granted r) = r.start
granted_or old (Freed r) = old
granted_or old (Refused e) = old

-- what `rk_address_new` does: what `new` does, and its number
pub record Starts (m : List ℕ) (base size limit r : ℕ) (m' : List ℕ) : Type 0 where
  pub answer : Result (Unit {0}) Error
  pub number : r ≡ setup_number answer
  pub made : addresses.Starts m base size limit answer m'

-- what `rk_address_allocate` does for a policy: what `allocate` does, its number, and where the range starts
pub record Grants (m : List ℕ) (old size align : ℕ) (policy : AllocPolicy) (r : ℕ) (m' : List ℕ) (start : ℕ) : Type 0 where
  pub answer : Answer
  pub number : r ≡ answer_number answer
  pub out : start ≡ granted_or old answer
  pub done : addresses.Performs m (addresses.asking size align policy) answer m'

-- what it does for a number that stands for no policy
pub record NoPolicy (m : List ℕ) (old policy at r : ℕ) (m' : List ℕ) (start : ℕ) : Type 0 where
  pub none : (p : AllocPolicy) → request.Stands policy at p → ⊥
  pub number : r ≡ number_of Error.InvalidPolicy
  pub out : start ≡ old
  pub kept : m' ≡ m

-- what `rk_address_allocate` does
abbrev pub Allocates : List ℕ → ℕ → ℕ → ℕ → ℕ → ℕ → ℕ → List ℕ → ℕ → Type 0
Allocates m old size align policy at r m' start =
    ((p : AllocPolicy) × request.Stands policy at p × Grants m old size align p r m' start) ⊎ NoPolicy m old policy at r m' start

-- what `rk_address_free` does: what `free` does, and its number
pub record Frees (m : List ℕ) (s e r : ℕ) (m' : List ℕ) : Type 0 where
  pub answer : Answer
  pub number : r ≡ answer_number answer
  pub done : addresses.Performs m (addresses.returning s e) answer m'

-- the number of what stands at an address: 0 for a range
abbrev pub stands_number : Result Stands AtError → ℕ
stands_number (Ok x) = 0
stands_number (Err Outside) = number_of Error.OutOfRange
stands_number (Err NoTable) = number_of Error.NoState

-- what three out-parameters that held `old` hold after it: the range's first address, its last, and its tag, or what they held
abbrev pub start_or : ℕ → Result Stands AtError → ℕ
start_or old (Ok x) = x.start
start_or old (Err e) = old

abbrev pub end_or : ℕ → Result Stands AtError → ℕ
end_or old (Ok x) = x.end
end_or old (Err e) = old

abbrev pub tag_or : ℕ → Result Stands AtError → ℕ
tag_or old (Ok x) = x.tag
tag_or old (Err e) = old

-- what `rk_address_at` does: what `at` answers, its number, and the range; a, b and c are what the out-parameters held before
pub record Shows (m : List ℕ) (at a b c r start end tag : ℕ) : Type 0 where
  pub answer : Result Stands AtError
  pub number : r ≡ stands_number answer
  pub first : start ≡ start_or a answer
  pub last : end ≡ end_or b answer
  pub mark : tag ≡ tag_or c answer
  pub right : addresses.Shows m at answer

-- the number of what is left: 0 where it is known
abbrev pub left_number : Result Left Error → ℕ
left_number (Ok l) = 0
left_number (Err e) = number_of e

-- what two out-parameters that held `old` hold after it: the free addresses and the largest free range, or what they held
abbrev pub free_or : ℕ → Result Left Error → ℕ
free_or old (Ok l) = l.free
free_or old (Err e) = old

abbrev pub largest_or : ℕ → Result Left Error → ℕ
largest_or old (Ok l) = l.largest
largest_or old (Err e) = old

-- what `rk_address_left` does: what `ask` answers, its number, and the two numbers; a and b are what the out-parameters held before
pub record Leaves (m : List ℕ) (a b r free largest : ℕ) : Type 0 where
  pub answer : Result Left Error
  pub number : r ≡ left_number answer
  pub count : free ≡ free_or a answer
  pub size : largest ≡ largest_or b answer
  pub right : Tells m answer
