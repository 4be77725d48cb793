-- Laws of writing a pool, from the contracts of what is called. Assumes nothing.
--     nowhere, put_tile            the two ways in which a range is written
--     walked_start, walked_step    after i ranges the words say the first i tiles of the row
--     walked_end                   and after all of them the row
--     row_some                     a pool has a range
--     numbers_none, not_numbered     how many ranges there are
--     written                      the ranges and the frame around them are the pool
use Rattle.std.proofs.Common.{◌≡◌, ℕ, ◌+◌, ◌-◌, ◌*◌, ◌%◌, ◌^◌, ◌<◌, ◌≤◌, ◌⊎◌, List, [], ◌∷◌, ◌++◌, length, sym, refl, ap, ◌∙◌, subst, inl, inr, append_assoc, append-nil, mod-eq_of_lt, arith, length-append, Option, None, Result, Ok, Err, IsErrAnd}
use Rattle.std.specs.Option.{ok_or}
use Rattle.frame.specs.Frame.{Seals}
use Rattle.frame.specs.declared.SaveError.{SaveError}
use Rattle.frame.specs.declared.SaveError.TheVariants.{NoState}
use Rattle.frame.proofs.FrameLaws.{frame_same}
use Rattle.frame.proofs.Passed.{handed, missing}
use Rattle.octets.specs.Octets.{word, Puts}
use Rattle.octets.proofs.Words.{put_word}
use Rattle.table.specs.Row.{Tile, past, Covers}
use Rattle.table.specs.Tiles.{Has}
use Rattle.table.specs.declared.Stands.{Stands}
use Rattle.table.specs.declared.AtError.{AtError}
use Rattle.table.specs.declared.AtError.TheVariants.{Outside, NoTable}
use Rattle.addresses.specs.Meaning.{row_of}
use Rattle.addresses.specs.Operations.{Pool}
use Rattle.addresses.specs.Runs.{Valid}
use Rattle.addresses.specs.Held.{Holds}
use Rattle.addresses.specs.Contract.{Shows, Says}
use Rattle.addresses.specs.Held.{table_of}
use Rattle.table.specs.Contract as table
use Rattle.addresses.proofs.RowLaws.{Behind, covers_row}
use Rattle.addresses.proofs.Tiles.{covers_cons}
use Rattle.addresses.proofs.StepLaws.{has_in}
use Rattle.addresses.proofs.WalkLaws.{Next, walk_step, behind_past, behind_top}
use Rattle.saved.specs.Format.{kind, Tiles}
use Rattle.saved.specs.Contract.{Saves}
use Rattle.saved.specs.Steps.{Numbers, Took, Carries, Rows}
use Rattle.saved.proofs.TileLaws.{tiles_same, tiles_more}

-- ---- one range

pub nowhere : (m bs : List ℕ) (a i r : ℕ) (x : Result Stands AtError) → Shows m a x → ((y : Stands) → x ≡ Ok y → ⊥) → Carries m bs a i r bs
unfolding Shows
nowhere m bs a i r (Ok y) c k = absurd (k y refl)
nowhere m bs a i r (Err Outside) c k = record { long = refl; front = λ j h. refl; behind = λ j h. refl; took = inr c }
nowhere m bs a i r (Err NoTable) c k = record { long = refl; front = λ j h. refl; behind = λ j h. refl; took = inr (λ p h l u. c p h) }

pub put_tile : (m u v w : List ℕ) (a i r : ℕ) (x : Stands) → Shows m a (Ok x) → 72 + 16 * i ≤ length u → Puts u (7 + 2 * i) x.start v → Puts v (8 + 2 * i) x.tag w → r ≡ (x.end + 1) % 2 ^ 64 → Carries m u a i r w
unfolding Shows
put_tile m u v w a i r x q l p o k = record {
  long = o.long ∙ p.long;
  front = λ j h. put_word v w (8 + 2 * i) x.tag o j (λ (z : j ≡ 8 + 2 * i). omega arith) ∙ put_word u v (7 + 2 * i) x.start p j (λ (z : j ≡ 7 + 2 * i). omega arith);
  behind = λ j h. o.other j (inr (omega arith)) ∙ p.other j (inr (omega arith));
  took = inl (record {
    start = x.start;
    end = x.end;
    tag = x.tag;
    stands = q;
    past = k;
    one = put_word v w (8 + 2 * i) x.tag o (7 + 2 * i) (λ (z : 7 + 2 * i ≡ 8 + 2 * i). omega arith) ∙ p.says (omega arith);
    two = o.says (omega (arith, p.long));
  });
}

-- ---- the walk

-- what is left of a row that covers covers what is left of the pool
behind_rest : (from top : ℕ) (xs ys : List Tile) → Behind from top (xs ++ ys) → Behind (past ys top) top ys
unfolding Behind
behind_rest from top [] ys b = subst (λ (x : ℕ). Behind x top ys) (sym (behind_past from top ys b)) b
behind_rest from top (x ∷ xs) ys b = behind_rest (past (xs ++ ys) top) top xs ys (covers_cons from top x (xs ++ ys) b).3

past_below : (from top : ℕ) (ys : List Tile) → Behind from top ys → 0 < length ys → from < top
unfolding Behind
past_below from top [] b l = absurd (omega arith)
past_below from top (t ∷ ys) b l =
    let c = covers_cons from top t ys b in
    omega (arith, c.1, behind_top (past ys top) top ys c.3)

covers_behind : (from top : ℕ) (row : List Tile) → Covers from top row → Behind from top row
unfolding Behind Covers
covers_behind from top [] c = absurd c
covers_behind from top (t ∷ row) c = c

row_behind : (p : Pool) → Valid p → Behind p.state.base p.state.top (row_of p.state)
row_behind p v = covers_behind p.state.base p.state.top (row_of p.state) (covers_row p.state v.sound)

-- a pool has a range
pub row_some : (p : Pool) → Valid p → 0 < length (row_of p.state)
unfolding Covers
row_some p v = go (row_of p.state) (covers_row p.state v.sound)
  where
    go : (row : List Tile) → Covers p.state.base p.state.top row → 0 < length row
    go [] c = absurd c
    go (t ∷ row) c = omega arith

-- after i ranges, xs, of p the walk is at a, where ys begin
pub record Walked (p : Pool) (i a : ℕ) (bs : List ℕ) : Type 0 where
  pub xs : List Tile
  pub ys : List Tile
  pub row : row_of p.state ≡ xs ++ ys
  pub count : length xs ≡ i
  pub above : p.state.base ≤ past ys p.state.top
  pub here : a ≡ past ys p.state.top % 2 ^ 64
  pub words : Tiles (word bs) 7 xs

pub walked_start : (p : Pool) (a : ℕ) (bs : List ℕ) → Valid p → a ≡ p.state.base → Walked p 0 a bs
unfolding Tiles
walked_start p a bs v e =
    let q = behind_past p.state.base p.state.top (row_of p.state) (row_behind p v) in
    let l : p.state.base < 2 ^ 64 = omega (arith, v.below, v.sound.some) in
    record {
      xs = [];
      ys = row_of p.state;
      row = refl;
      count = refl;
      above = omega (arith, q);
      here = e ∙ sym (ap (λ (x : ℕ). x % 2 ^ 64) q ∙ mod-eq_of_lt l);
      words = _;
    }

module _ (p : Pool) (i a r : ℕ) (m bs bs' : List ℕ) (h : Holds m p) (f : Walked p i a bs) (more : i < length (row_of p.state)) (c : Carries m bs a i r bs') where
  whole : Behind p.state.base p.state.top (f.xs ++ f.ys)
  whole = subst (Behind p.state.base p.state.top) f.row (row_behind p h.valid)

  here_below : past f.ys p.state.top < p.state.top
  here_below =
      past_below (past f.ys p.state.top) p.state.top f.ys (behind_rest p.state.base p.state.top f.xs f.ys whole)
      (omega (arith, more, f.count, ap length f.row, length-append f.xs f.ys))

  here_at : a ≡ past f.ys p.state.top
  here_at = f.here ∙ mod-eq_of_lt (omega (arith, here_below, h.valid.below))

  pub walked_step : Walked p (i + 1) r bs'
  walked_step = go c.took
    where
      go : Took m a i r bs' ⊎ ((q : Pool) → Holds m q → q.state.base ≤ a → a < q.state.top → ⊥) → Walked p (i + 1) r bs'
      go (inr n) = absurd (n p h (omega (arith, here_at, f.above)) (omega (arith, here_at, here_below)))
      go (inl t) =
          let top = p.state.top in
          let stands : Has top a t.start t.end t.tag (f.xs ++ f.ys) = subst (Has top a t.start t.end t.tag) f.row (t.stands p h) in
          let n : Next top t.start t.end t.tag f.ys = walk_step p.state.base top t.start t.end t.tag f.xs f.ys whole (subst (λ (y : ℕ). Has top y t.start t.end t.tag (f.xs ++ f.ys)) here_at stands) in
          let x : Tile = record { start = past f.ys top; tag = t.tag } in
          let k = f.count in
          record {
            xs = f.xs ++ x ∷ [];
            ys = n.rest;
            row = f.row ∙ ap (λ (y : List Tile). f.xs ++ y) n.tile ∙ sym (append_assoc f.xs (x ∷ []) n.rest);
            count = length-append f.xs (x ∷ []) ∙ omega (arith, k);
            above = omega (arith, n.ends, here_at, f.above, has_in top a t.start t.end t.tag (f.xs ++ f.ys) stands);
            here = t.past ∙ ap (λ (y : ℕ). y % 2 ^ 64) n.ends;
            words =
                tiles_more (word bs') 7 (past f.ys top) t.tag f.xs
                (tiles_same (word bs') (word bs) 7 f.xs (λ j l u. c.front j (omega (arith, k))) f.words)
                (ap (λ (y : ℕ). word bs' (7 + 2 * y)) k ∙ t.one ∙ n.starts)
                (ap (λ (y : ℕ). word bs' (8 + 2 * y)) k ∙ t.two);
          }

-- a list of no length is empty
none_left : (ys : List Tile) → length ys ≡ 0 → ys ≡ []
none_left [] e = refl
none_left (y ∷ ys) e = absurd (omega arith)

pub walked_end : (p : Pool) (i a : ℕ) (bs : List ℕ) → Walked p i a bs → i ≡ length (row_of p.state) → Tiles (word bs) 7 (row_of p.state)
walked_end p i a bs f e =
    let z : f.ys ≡ [] = none_left f.ys (omega (arith, e, f.count, ap length f.row, length-append f.xs f.ys)) in
    let q : f.xs ≡ row_of p.state = sym (f.row ∙ ap (λ (y : List Tile). f.xs ++ y) z ∙ append-nil f.xs) in
    subst (Tiles (word bs) 7) q f.words

-- ---- how many ranges there are

pub numbers_none : (m : List ℕ) (n : ℕ) → Says m (λ p. length (row_of p.state)) n → (n ≡ 0) ⊎ ((n ≡ 0 → ⊥) × (4096 < n)) → Numbers m None
numbers_none m n c (inl e) p h = omega (arith, c p h, e, row_some p h.valid)
numbers_none m n c (inr l) p h = omega (arith, c p h, l.1, h.valid.room, h.valid.most)

pub not_numbered : (m bs : List ℕ) (o : Option ℕ) (r : Result ℕ SaveError) (e : SaveError) → Numbers m o → Err e ≡ ok_or o NoState → IsErrAnd r (λ y. y ≡ e) → Saves m bs r bs
unfolding Saves
not_numbered m bs o r e d q h =
    let w = missing o NoState e q in
    handed (λ x. Saves m bs x bs) r e h (subst (λ (x : SaveError). Saves m bs (Err x) bs) (sym w.1) (refl, subst (Numbers m) w.0 d))

-- ---- the whole

pub written : (m u v w : List ℕ) (base end limit n : ℕ) → 64 + 16 * n ≤ length u → Says m (λ p. length (row_of p.state)) n → Says m (λ p. p.state.base) base → Says m (λ p. p.state.top) (end + 1) → table.Says m (λ t. t.limit) limit → Rows m u base n v → Seals kind base end limit (2 * n) v w → Saves m u (Ok (64 + 16 * n)) w
unfolding Saves
written m u v w base end limit n l count first last most r s = (
  s.long ∙ r.long,
  λ p h.
      let e : n ≡ length (row_of p.state) = count p h in
      record {
        message = record {
          frame = frame_same kind base end limit (2 * n) p.state.base (p.state.top - 1) p.limit (2 * length (row_of p.state)) w (s.made (omega (arith, r.long))) (first p h) (omega (arith, last p h)) (most (table_of p) h.table) (omega arith);
          row = tiles_same (word w) (word v) 7 (row_of p.state) (λ j a b. s.words j a (omega arith)) (r.row p h (first p h) e);
        };
        taken = omega arith;
        behind = λ j a. s.behind j (omega arith) ∙ r.behind j a;
      },
)
