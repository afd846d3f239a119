-- Question 1, then question 7; else what the delay controller gives is stored and told.
use mathlib.Core.Path.{refl, sym, ◌∙◌}
use Rattle.bool_laws.specs.Bools.{both}
use Rattle.questions.proofs.Laws.{was-no, was-yes}
use Rattle.questions.specs.declared.Refusal.TheVariants.{OutOfRange}
use Rattle.link_state.specs.declared.Link.{Link}
use Rattle.link.specs.Laws.{timeout-from-7}
use Rattle.link.proofs.Laws.{timed-refused, timed-taken}
use Rattle.c_api.proofs.Laws.{bitrate-no, bitrate-yes, call-out, code-no, code-yes, hypothesis-no, hypothesis-yes, next-timeout-no, next-timeout-yes, reply-is, shown-is, timeout-taken, words-is, words-kept}
use Rattle.c_api.proofs.hornetpewter_timeout.Goals as goal

pub returns-then-not-in_range : goal.returns-then-not-in_range
returns-then-not-in_range c =
    let no = call-out _ c.load-lent.ensures _ (was-no c.in_range.ensures c.if-not-in_range.true) in
    record {
      value = code-no OutOfRange no c.code.type_inv c.code.ensures;
      link_after = words-kept _ _ OutOfRange no;
      bitrate_after = bitrate-no OutOfRange no _;
      hypothesis_after = hypothesis-no OutOfRange no _;
      next_timeout_after = next-timeout-no OutOfRange no _;
    }

pub returns-in-Err : goal.returns-in-Err
returns-in-Err c =
    let q = c.in-Err.refusal in
    let good = both _ _ (was-yes c.in_range.ensures c.if-not-in_range.false) in
    let refused = timed-refused _ _ q c.in-Err.ensures ∙ sym (timeout-from-7 _ _ good.1) in
    let no = sym (reply-is _ c.load-lent.ensures _ good.0 refused) in
    record {
      value = code-no q no c.code-in-Err.type_inv c.code-in-Err.ensures;
      link_after = words-kept _ _ q no;
      bitrate_after = bitrate-no q no _;
      hypothesis_after = hypothesis-no q no _;
      next_timeout_after = next-timeout-no q no _;
    }

pub returns : goal.returns
returns c =
    let tell = c.tell.ensures in
    let load = c.load-lent in
    let good = both _ _ (was-yes c.in_range.ensures c.if-not-in_range.false) in
    let after : Link = record { acked = load.result.acked; control = c.handle_timeout-control.result } in
    let taken = timeout-from-7 _ _ good.1 ∙ sym (timed-taken _ _ c.in_default.ensures c.current_estimate.ensures c.handle_timeout-control.ensures) in
    let yes = shown-is after taken ∙ reply-is _ load.ensures _ good.0 refl in
    record {
      value = code-yes after yes;
      link_after = c.store_timeout.ensures ∙ timeout-taken after taken _ ∙ words-is _ load.ensures _ good.0 refl;
      bitrate_after = tell.bitrate_after ∙ bitrate-yes after yes _;
      hypothesis_after = tell.hypothesis_after ∙ hypothesis-yes after yes _;
      next_timeout_after = tell.next_timeout_after ∙ next-timeout-yes after yes _;
    }
