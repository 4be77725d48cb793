-- Written and read again. Assumes nothing.
--     message_one         bytes begin with one pool at most
--     message_bytes       one pool is written in one way only
--     read_written        what `save` wrote `load` accepts, as that pool, in every block that is long enough
--     written_read        what `load` accepts `save` writes again, byte for byte
--     loaded_reached      what is accepted is a pool that some operations reach
--     reached_loaded      each pool that some operations reach is accepted where its bytes stand
--     changed_refused     bytes of which one was changed are refused: so it is with one flipped bit
use Rattle.std.proofs.Common.{◌≡◌, ℕ, ◌-◌, ◌*◌, ◌<◌, List, length, get_or, sym, refl, ap, ◌∙◌, subst, Result, Ok, Err, arith}
use Rattle.octets.specs.Octets.{word, Bytes}
use Rattle.frame.specs.declared.Fault.{Fault}
use Rattle.frame.specs.declared.LoadError.{LoadError}
use Rattle.frame.specs.declared.LoadError.TheVariants as load
use Rattle.frame.proofs.FrameLaws.{frame_bytes, frame_changed}
use Rattle.table.specs.Held.{words_for}
use Rattle.addresses.specs.Meaning.{row_of}
use Rattle.addresses.specs.Operations.{Pool}
use Rattle.addresses.specs.Runs.{Valid, Reached}
use Rattle.addresses.specs.Held.{Holds}
use Rattle.addresses.proofs.RowLaws.{row_injective}
use Rattle.addresses.proofs.ReachLaws.{valid_just}
use Rattle.saved.specs.Format.{kind, Message, size}
use Rattle.saved.specs.Contract.{Saves}
use Rattle.saved.proofs.TileLaws.{tiles_one, tiles_words}
use Rattle.loaded.specs.Contract.{Loads}

pub message_one : (bs : List ℕ) (p q : Pool) → Valid p → Valid q → Message bs p → Message bs q → p ≡ q
message_one bs p q v w f g =
    let base : p.state.base ≡ q.state.base = sym f.frame.first ∙ g.frame.first in
    let last : p.state.top - 1 ≡ q.state.top - 1 = sym f.frame.second ∙ g.frame.second in
    let top : p.state.top ≡ q.state.top = omega (arith, last, v.sound.some, w.sound.some) in
    let limit : p.limit ≡ q.limit = sym f.frame.third ∙ g.frame.third in
    let count : 2 * length (row_of p.state) ≡ 2 * length (row_of q.state) = sym f.frame.count ∙ g.frame.count in
    let row : row_of p.state ≡ row_of q.state = tiles_one (word bs) 7 (row_of p.state) (row_of q.state) f.row g.row (omega arith) in
    let state : p.state ≡ q.state = row_injective p.state q.state v.sound w.sound base top row in
    λ i. record { state = state i; limit = limit i }

pub message_bytes : (u v : List ℕ) (p : Pool) → Bytes u → Bytes v → Message u p → Message v p → (j : ℕ) → j < size p → get_or u j 0 ≡ get_or v j 0
message_bytes u v p a b f g j l =
    frame_bytes kind p.state.base (p.state.top - 1) p.limit (2 * length (row_of p.state)) u v f.frame g.frame
    (λ i h k. tiles_words (word u) (word v) 7 (row_of p.state) f.row g.row i h k)
    a b j (omega arith)

-- what reading answers where the bytes begin with the pool p
unfoldable pub Resumes : List ℕ → Pool → Result ℕ LoadError → List ℕ → Type 0
Resumes m p (Ok n) m' = (n ≡ size p) × Holds m' p
Resumes m p (Err load.NoRoom) m' = (m' ≡ m) × (length m < words_for p.limit)
Resumes m p (Err (load.Bad fault)) m' = ⊥

resumes : (bs m m' : List ℕ) (p : Pool) (r : Result ℕ LoadError) → Valid p → Message bs p → Loads bs m r m' → Resumes m p r m'
unfolding Loads Resumes
resumes bs m m' p (Ok n) v f l =
    let e : l.0 ≡ p = message_one bs l.0 p l.1.valid v l.1.message f in
    (l.1.taken ∙ ap size e, subst (Holds m') e l.2)
resumes bs m m' p (Err load.NoRoom) v f l =
    let e : l.1 ≡ p = message_one bs l.1 p l.2.valid v l.2.message f in
    (l.0, subst (λ (q : Pool). length m < words_for q.limit) e l.3)
resumes bs m m' p (Err (load.Bad fault)) v f l = l.2 p v f

-- the theorem, one way: from the block k the pool p is written into the bytes, and they are read into the block m
pub read_written : (k bs bs' m m' : List ℕ) (n : ℕ) (p : Pool) (r : Result ℕ LoadError) → Holds k p → Saves k bs (Ok n) bs' → Loads bs' m r m' → Resumes m p r m'
unfolding Saves
read_written k bs bs' m m' n p r h s l = resumes bs' m m' p r h.valid (s.1 p h).message l

-- the other way: the bytes bs are read into a block, and that block is written into other bytes
pub written_read : (bs m m' cs cs' : List ℕ) (n k : ℕ) → Bytes bs → Bytes cs' → Loads bs m (Ok n) m' → Saves m' cs (Ok k) cs' → (k ≡ n) × ((j : ℕ) → j < n → get_or cs' j 0 ≡ get_or bs j 0)
unfolding Loads Saves
written_read bs m m' cs cs' n k a b l s =
    let w = s.1 l.0 l.2 in
    (w.taken ∙ sym l.1.taken, λ j h. message_bytes cs' bs l.0 b a w.message l.1.message j (omega (arith, h, l.1.taken)))

-- what is accepted is what is reached
pub loaded_reached : (bs m m' : List ℕ) (n : ℕ) → Loads bs m (Ok n) m' → (p : Pool) × Reached p × Message bs p × Holds m' p
unfolding Loads
loaded_reached bs m m' n l = (l.0, (valid_just l.0).0 l.1.valid, l.1.message, l.2)

pub reached_loaded : (bs m m' : List ℕ) (p : Pool) (r : Result ℕ LoadError) → Reached p → Message bs p → Loads bs m r m' → Resumes m p r m'
reached_loaded bs m m' p r q f l = resumes bs m m' p r ((valid_just p).1 q) f l

-- one byte is another
caught : (bs bs' : List ℕ) (i : ℕ) (p q : Pool) → Bytes bs → Bytes bs' → Message bs p → Message bs' q → i < size p → ((j : ℕ) → (j ≡ i → ⊥) → get_or bs' j 0 ≡ get_or bs j 0) → get_or bs' i 0 ≡ get_or bs i 0
caught bs bs' i p q a b f g h o = frame_changed kind _ _ _ _ _ _ _ _ i bs bs' a b f.frame g.frame (omega arith) o

pub changed_refused : (bs bs' m m' : List ℕ) (i : ℕ) (p : Pool) (r : Result ℕ LoadError) → Bytes bs → Bytes bs' → Message bs p → i < size p → (get_or bs' i 0 ≡ get_or bs i 0 → ⊥) → ((j : ℕ) → (j ≡ i → ⊥) → get_or bs' j 0 ≡ get_or bs j 0) → Loads bs' m r m' → (fault : Fault) × (r ≡ Err (load.Bad fault))
unfolding Loads
changed_refused bs bs' m m' i p (Ok n) a b f h d o l = absurd (d (caught bs bs' i p l.0 a b f l.1.message h o))
changed_refused bs bs' m m' i p (Err load.NoRoom) a b f h d o l = absurd (d (caught bs bs' i p l.1 a b f l.2.message h o))
changed_refused bs bs' m m' i p (Err (load.Bad fault)) a b f h d o l = (fault, refl)
