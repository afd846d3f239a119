-- By the judgement: refused, or updated, stored and told.
use mathlib.Core.Path.{ap, ◌∙◌}
use Rattle.questions.specs.Laws.{number-above}
use Rattle.link_state.specs.declared.Link.{Link}
use Rattle.link.specs.Link.{Outcome}
use Rattle.link.specs.Laws.{in-order-refused, in-order-taken}
use Rattle.link.proofs.Laws.{judged-acked, judged-no, judged-none}
use Rattle.c_api.proofs.Laws.{bitrate-no, bitrate-yes, code-no, code-yes, hypothesis-no, hypothesis-yes, next-timeout-no, next-timeout-yes, shown-is, words-no, words-taken}
use Rattle.c_api.proofs.report_in_order.Goals as goal

pub returns-in-Err : goal.returns-in-Err
returns-in-Err c =
    let q = c.in-Err.refusal in
    let first = judged-no _ _ q c.in-Err.ensures in
    let no = ap (λ (o : Outcome). o.reply) (in-order-refused _ _ first (number-above q)) in
    record {
      value = code-no q no c.code.type_inv c.code.ensures;
      link_after = words-no q no _ _;
      bitrate_after = bitrate-no q no _;
      hypothesis_after = hypothesis-no q no _;
      next_timeout_after = next-timeout-no q no _;
    }

pub returns : goal.returns
returns c =
    let tell = c.tell.ensures in
    let after : Link = record { acked = c.in-Ok.acked; control = c.update-control.result } in
    let taken = in-order-taken _ _ (judged-none _ _ c.in-Ok.ensures) (judged-acked _ _ c.in-Ok.ensures) c.current_estimate.ensures c.update-control.ensures in
    let yes = shown-is after taken in
    record {
      value = code-yes after yes;
      link_after = c.store.ensures ∙ words-taken after taken _;
      bitrate_after = tell.bitrate_after ∙ bitrate-yes after yes _;
      hypothesis_after = tell.hypothesis_after ∙ hypothesis-yes after yes _;
      next_timeout_after = tell.next_timeout_after ∙ next-timeout-yes after yes _;
    }
