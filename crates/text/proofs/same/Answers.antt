-- `text::same` meets its contract.
use mathlib.Core.Path.{◌∙◌}
use Rattle.text.proofs.Sames.{same_is}
use Rattle.text.proofs.same.Goals as goal

pub returns : goal.returns
returns c = c.eq.ensures ∙ same_is c.args.s.now c.args.t.now
