-- `loaded_ids::load` meets its contract: the frame, then the tests, then the allocator.
use Rattle.frame.proofs.Passed.{handed}
use Rattle.frame.specs.Frame.{Opens}
use Rattle.loaded_ids.specs.Contract.{Loads}
use Rattle.loaded_ids.proofs.LoadLaws.{tests_fine, wrong_frame, wrong_words}
use Rattle.loaded_ids.proofs.load.Goals as goal

pub returns-in_err-opened : goal.returns-in_err-opened
returns-in_err-opened c = let m = c.args.mem.now in handed (λ r. Loads c.args.bs.now m r m) _ _ c.from_residual.ensures.1 (wrong_frame _ _ _ c.in_err-opened.ensures)

pub examine-requires : goal.examine-requires
unfolding Opens
examine-requires c = c.in_ok-opened.ensures

pub returns-in_err-examine : goal.returns-in_err-examine
unfolding Opens
returns-in_err-examine c =
    let m = c.args.mem.now in
    handed (λ r. Loads c.args.bs.now m r m) _ _ c.from_residual-in_err-examine.ensures.1 (wrong_words _ _ _ _ _ _ _ c.in_ok-opened.ensures c.in_err-examine.ensures)

pub remake-requires : goal.remake-requires
unfolding Opens
remake-requires c = record { frame = c.in_ok-opened.ensures; sensible = tests_fine _ _ c.in_ok-examine.ensures }
