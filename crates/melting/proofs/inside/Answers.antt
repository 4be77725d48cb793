-- `melting::inside` meets its contract.
use Prim.Native.Nat.{ℕ, ◌+◌, ◌-◌, ◌≤◌, ◌<◌}
use native.Mathlib.Omega.{arith}
use mathlib.Core.Path.{◌≡◌, sym, ◌∙◌}
use mathlib.Core.List.{List, [], ◌∷◌}
use mathlib.Core.Bool.{Bool, true, false, cond}
use lib.ListN.{get_or}
use Rattle.ranges.specs.Align.{Decides}
use Rattle.blocks.specs.Blocks.{blocks_of, size_at, starts_at, past_at, starts_of, tags_of, index, Sound, Ready}
use Rattle.spread.specs.Spread.{Turned, Nearly, Covered}
use Rattle.splice.specs.Splice.{Spliced}
use Rattle.melting.specs.Melting.{Melted}
use Rattle.melting.proofs.Frees.{decide_map}
use Rattle.melting.proofs.Inner.{gone_ready, gone_both, inside_ready, inside_done}
use Rattle.melting.proofs.inside.Goals.{After-tag_of-behind}
use Rattle.melting.proofs.inside.Goals as goal

-- the place at which both tags are read, which all four ways pass; f and s are the starts of the range before and of the range itself
module _ (k : After-tag_of-behind) where
  abbrev m : List ℕ
  m = k.args.mem.now

  abbrev b : ℕ
  b = k.args.b

  abbrev i : ℕ
  i = k.args.i

  abbrev f : ℕ
  f = k.start_of-f.result

  abbrev s : ℕ
  s = k.start_of-s.result

  -- the range behind is given up first
  gone : (m₁ : List ℕ) → Spliced m m₁ b (i + 1) 1 [] [] → Sound m₁ × (b < blocks_of m₁) × (i < size_at b m₁)
  gone m₁ u = gone_ready m m₁ k.requires.0 k.args.nb b i k.requires.1 k.requires.2 k.requires.3 k.requires.4 u

  both : (m₁ m₂ : List ℕ) → Spliced m m₁ b (i + 1) 1 [] [] → Spliced m₁ m₂ b i 1 (s ∷ []) (0 ∷ []) → Spliced m m₂ b i 2 (s ∷ []) (0 ∷ [])
  both m₁ m₂ u v = gone_both m m₁ k.requires.0 k.args.nb b i k.requires.1 k.requires.2 k.requires.3 k.requires.4 m₂ s u v

  -- `after` and `before` say which way it is
  module _ (after before : Bool) (m₁ : List ℕ) (u : Spliced m m₁ b i (cond after 2 1) (cond before [] (s ∷ [])) (cond before [] (0 ∷ []))) where
    ready : Sound m₁ × (b < blocks_of m₁)
    ready = inside_ready m m₁ k.requires.0 k.args.nb b i k.requires.1 k.requires.2 k.requires.3 k.requires.4 after before s k.start_of-s.ensures u

    from : (r : Bool) → cond r f s ≡ get_or (starts_at b m) (cond r (i - 1) i) 0
    from true = k.start_of-f.ensures
    from false = k.start_of-s.ensures

    done : (m₂ : List ℕ) (e w : ℕ) → Decides after (k.tag_of-behind.result ≡ 0) → Decides before (k.tag_of-before.result ≡ 0) → get_or (starts_at b m) (cond after (i + 1) i + 1) (past_at b m) ≤ e + 1 → e ≤ cond before f s + w → (Nearly m₁ b b (b + 1) → Covered m₁ b w → Turned m₁ m₂ (starts_of m₁) (tags_of m₁)) → Ready m → Melted m m₂ (index b i m)
    done m₂ e w ta tb le lw =
        let ea = k.tag_of-behind.ensures in
        let eb = k.tag_of-before.ensures in
        inside_done m m₁ k.requires.0 k.args.nb b i k.requires.1 k.requires.2 k.requires.3 k.requires.4 after before s k.start_of-s.ensures u m₂ e (cond before f s) w (decide_map after (λ z. sym ea ∙ z) (λ z. ea ∙ z) ta) (decide_map before (λ z. sym eb ∙ z) (λ z. eb ∙ z) tb) le (from before) lw

pub put-requires : goal.put-requires
put-requires c =
    gone (goal.at.put-requires c).After-tag_of-behind c.shrink.new.mem c.shrink.ensures

pub raise-requires : goal.raise-requires
raise-requires c =
    let k = (goal.at.raise-requires c).After-tag_of-behind in
    ready k true false c.put.new.mem (both k c.shrink.new.mem c.put.new.mem c.shrink.ensures c.put.ensures)

pub returns-then-before-ne0 : goal.returns-then-before-ne0
returns-then-before-ne0 c =
    let k = (goal.at.returns-then-before-ne0 c).After-tag_of-behind in
    done k true false c.put.new.mem (both k c.shrink.new.mem c.put.new.mem c.shrink.ensures c.put.ensures) c.raise.new.mem c.last_of-e.result c.saturating_sub.result c.if-behind-eq0.true c.if-before-ne0.true c.last_of-e.ensures (omega (arith, c.saturating_sub.ensures)) c.raise.ensures

pub raise-requires-then-behind-eq0 : goal.raise-requires-then-behind-eq0
raise-requires-then-behind-eq0 c =
    ready (goal.at.raise-requires-then-behind-eq0 c).After-tag_of-behind true true c.shrink-then-behind-eq0.new.mem c.shrink-then-behind-eq0.ensures

pub returns-then-behind-eq0 : goal.returns-then-behind-eq0
returns-then-behind-eq0 c =
    done (goal.at.returns-then-behind-eq0 c).After-tag_of-behind true true c.shrink-then-behind-eq0.new.mem c.shrink-then-behind-eq0.ensures c.raise-then-behind-eq0.new.mem c.last_of-e.result c.saturating_sub-then-behind-eq0.result c.if-behind-eq0.true c.if-before-ne0.false c.last_of-e.ensures (omega (arith, c.saturating_sub-then-behind-eq0.ensures)) c.raise-then-behind-eq0.ensures

pub raise-requires-then-before-ne0-2 : goal.raise-requires-then-before-ne0-2
raise-requires-then-before-ne0-2 c =
    ready (goal.at.raise-requires-then-before-ne0-2 c).After-tag_of-behind false false c.put-then-before-ne0-2.new.mem c.put-then-before-ne0-2.ensures

pub returns-then-before-ne0-2 : goal.returns-then-before-ne0-2
returns-then-before-ne0-2 c =
    done (goal.at.returns-then-before-ne0-2 c).After-tag_of-behind false false c.put-then-before-ne0-2.new.mem c.put-then-before-ne0-2.ensures c.raise-then-before-ne0-2.new.mem c.last_of-e-2.result c.saturating_sub-then-before-ne0-2.result c.if-behind-eq0.false c.if-before-ne0-2.true c.last_of-e-2.ensures (omega (arith, c.saturating_sub-then-before-ne0-2.ensures)) c.raise-then-before-ne0-2.ensures

pub raise-requires-2 : goal.raise-requires-2
raise-requires-2 c =
    ready (goal.at.raise-requires-2 c).After-tag_of-behind false true c.shrink-2.new.mem c.shrink-2.ensures

pub returns : goal.returns
returns c =
    done (goal.at.returns c).After-tag_of-behind false true c.shrink-2.new.mem c.shrink-2.ensures c.raise-2.new.mem c.last_of-e-2.result c.saturating_sub-2.result c.if-behind-eq0.false c.if-before-ne0-2.false c.last_of-e-2.ensures (omega (arith, c.saturating_sub-2.ensures)) c.raise-2.ensures
