-- By the judgement: refused, or acknowledged and updated.
use mathlib.Core.Path.{sym, ◌∙◌}
use Rattle.questions.specs.Laws.{number-above}
use Rattle.link.specs.Laws.{in-order-refused, in-order-taken}
use Rattle.link.proofs.Laws.{judged-acked, judged-no, judged-none}
use Rattle.link.proofs.report_in_order.Goals as goal

pub returns-in-Err : goal.returns-in-Err
returns-in-Err c =
    c.refused.ensures ∙ sym (in-order-refused _ _ (judged-no _ _ c.in-Err.refusal c.in-Err.ensures) (number-above c.in-Err.refusal))

pub returns-in-Ok : goal.returns-in-Ok
returns-in-Ok c =
    c.accepted.ensures
    ∙ sym (in-order-taken _ _ (judged-none _ _ c.in-Ok.ensures) (judged-acked _ _ c.in-Ok.ensures) c.current_estimate.ensures c.update-control.ensures)
