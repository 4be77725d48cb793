-- `spread::scatter` meets its contract.
use Prim.Native.Nat.{ℕ, ◌+◌, ◌-◌, ◌*◌, ◌≤◌, ◌<◌}
use mathlib.Core.Path.{◌≡◌, refl}
use native.Mathlib.Omega.{arith}
use native.Mathlib.Decide.{dec_le, dec_lt}
use lib.ListN.{length-set}
use Rattle.spread.proofs.Copies.{dealt_none, dealt_more, dealt_end, apart_above}
use Rattle.spread.proofs.scatter.Goals as goal

-- the blocks that are left have room for the tiles that are left
rest : (n off room b r : ℕ) → off < n → n + b * 32 ≤ off + room * 32 → (0 < r) × (r ≤ n - off) × (r ≤ 32) × (n - off ≤ 32 → r ≡ n - off) × (r < 32 → n - off ≤ r + 32) → n + (b + 1) * 32 ≤ off + r + room * 32
rest n off room b r h o s =
    elim (dec_le (n - off) 32) [
      | yes p ↦ omega (arith, s.3 p)
      | no p ↦ elim (dec_lt r 32) [ yes q ↦ omega (arith, s.4 q) | no q ↦ omega (arith, s.2) ]
    ]

pub loop-off-init : goal.loop-off-init
loop-off-init c = (omega arith, omega arith, omega arith, λ h. omega arith, refl, dealt_none c.args.mem.now c.args.room (omega arith) (omega arith))

pub copy-requires : goal.copy-requires
copy-requires c = let l = c.loop-off in let st = c in let a = st.args in let o = l.invariant.2 in let s = c.share-c.ensures in (apart_above _ _ _ (omega (arith, s.1, s.2)), omega (arith, s.1, s.2), omega (arith, s.1, s.2))

pub copy-requires-in-loop-off : goal.copy-requires-in-loop-off
copy-requires-in-loop-off c = let l = c.loop-off in let st = c in let a = st.args in let o = l.invariant.2 in let s = c.share-c.ensures in let e = c.copy.ensures.len in (apart_above _ _ _ (omega (arith, s.1, s.2)), omega (arith, s.1, s.2, e), omega (arith, s.1, s.2, e))

pub loop-off-preserved : goal.loop-off-preserved
loop-off-preserved c = let l = c.loop-off in let st = c in let a = st.args in let o = l.invariant.2 in let s = c.share-c.ensures in let e = c.copy.ensures.len in let e2 = c.copy-in-loop-off.ensures.len in
    (omega (arith, s.1), omega (arith, s.1), rest a.n l.off a.room l.b c.share-c.result (omega arith) o s, λ h. omega arith, simp length-set (omega (arith, e, e2)), dealt_more a.mem.now a.room (omega arith) (omega arith) l.mem c.copy.new.mem c.copy-in-loop-off.new.mem l.b l.off c.share-c.result (omega arith) s.0 s.2 (omega (arith, s.1)) l.invariant.5 c.copy.ensures c.copy-in-loop-off.ensures)

pub returns : goal.returns
returns c = let l = c.loop-off in let st = c in let a = st.args in
    let e : l.off ≡ a.n = omega arith in
    let d = dealt_end a.mem.now l.mem a.room l.b l.off l.invariant.0 (omega arith) (omega arith) l.invariant.5 in
    (rw e at d.0, omega (arith, d.1, l.invariant.3 (omega arith)), omega (arith, d.1))
