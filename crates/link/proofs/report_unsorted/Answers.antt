-- Each list's front in the order of receipt.
use mathlib.Core.Path.{◌∙◌}
use Rattle.questions.proofs.Laws.{was-yes}
use Rattle.link.specs.Laws.{report-ordered}
use Rattle.link.proofs.Laws.{gathered}
use Rattle.link.proofs.report_unsorted.Goals as goal

pub returns : goal.returns
returns c =
    let by = rw c.keys.ensures at c.order_by_receive_time-order.ensures in
    let y4 = was-yes c.lists_in.ensures c.if-not-lists_in.false in
    c.report_in_order.ensures
    ∙ report-ordered _ _ c.requires y4 (gathered _ _ _ _ _ y4 _ _ c.gather-sizes.ensures by) (gathered _ _ _ _ _ y4 _ _ c.gather-sends.ensures by)
    (gathered _ _ _ _ _ y4 _ _ c.gather-remotes.ensures by) (gathered _ _ _ _ _ y4 _ _ c.gather-receives.ensures by)
