-- What the names for saving an id allocator answer: the answer of what each calls, as a number, 0 for done. m is the block, bs are the bytes.
use Rattle.std.specs.Prelude.{ℕ, ◌≡◌, List, Result}
use Rattle.frame.specs.declared.SaveError.{SaveError}
use Rattle.frame.specs.declared.LoadError.{LoadError}
use Rattle.saved_ids.specs.Contract as save
use Rattle.loaded_ids.specs.Contract as load
use Rattle.rangekeeper_saved.specs.Numbers.{saved_number, written_or, loaded_number, place_or}

-- what `rk_id_save` does: what `save` does, its number, and how many bytes
pub record Saves (m bs : List ℕ) (old r : ℕ) (bs' : List ℕ) (n : ℕ) : Type 0 where
  pub answer : Result ℕ SaveError
  pub number : r ≡ saved_number answer
  pub out : n ≡ written_or old answer
  pub done : save.Saves m bs answer bs'

-- what `rk_id_load` does: what `load` does, its number, and how many bytes or where
pub record Loads (bs m : List ℕ) (old r : ℕ) (m' : List ℕ) (at : ℕ) : Type 0 where
  pub answer : Result ℕ LoadError
  pub number : r ≡ loaded_number answer
  pub out : at ≡ place_or old answer
  pub done : load.Loads bs m answer m'
