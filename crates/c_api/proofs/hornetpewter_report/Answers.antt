-- Question 1; then a report in the order of receipt, or in any order.
use Rattle.std.specs.Prelude.{Option}
use Rattle.bandwidth.specs.declared.Bitrate.{Bitrate}
use mathlib.Core.Path.{◌≡◌, sym, ap, ◌∙◌}
use Rattle.bool_laws.specs.Bools.{both}
use Rattle.questions.proofs.Laws.{was-no, was-yes}
use Rattle.questions.specs.Questions.{Report, report-of}
use Rattle.questions.specs.declared.Refusal.TheVariants.{OutOfRange}
use Rattle.link_state.specs.declared.Link.{Link}
use Rattle.link.specs.Link.{report}
use Rattle.link.specs.Laws.{report-sorted}
use Rattle.c_api.proofs.Laws.{bitrate-is, bitrate-no, call-out, code_is, code-no, hypothesis-is, hypothesis-no, next-timeout-is, next-timeout-no, words-is, words-kept}
use Rattle.c_api.proofs.hornetpewter_report.Goals as goal

-- the probe's result, as the contract says it
probed : (l : Link) (r : Report) {q : Option Bitrate} → r.probe ≡ q → report l r ≡ report l (report-of r.sequences r.sizes r.sends r.remotes r.receives q r.now)
probed l r e = ap (λ q. report l (report-of r.sequences r.sizes r.sends r.remotes r.receives q r.now)) e

pub returns-then-not-in_range : goal.returns-then-not-in_range
returns-then-not-in_range c =
    let no = call-out _ c.load-lent.ensures _ (was-no c.in_range.ensures c.if-not-in_range.true) in
    record {
      value = code-no OutOfRange no c.code.type_inv c.code.ensures;
      link_after = words-kept _ _ OutOfRange no;
      bitrate_after = bitrate-no OutOfRange no _;
      hypothesis_after = hypothesis-no OutOfRange no _;
      next_timeout_after = next-timeout-no OutOfRange no _;
    }

pub returns-then-is_sorted : goal.returns-then-is_sorted
returns-then-is_sorted c =
    let stored = c.report_in_order.ensures in
    let good = both _ _ (was-yes c.in_range.ensures c.if-not-in_range.false) in
    let loaded = c.load-lent.ensures in
    let told = report-sorted _ _ good.1 (sym (rw c.keys.ensures at c.is_sorted.ensures) ∙ c.if-is_sorted.true) ∙ probed _ _ c.probe_result.ensures in
    record {
      value = code_is _ loaded _ good.0 told c.report_in_order.type_inv stored.value;
      link_after = stored.link_after ∙ words-is _ loaded _ good.0 told;
      bitrate_after = stored.bitrate_after ∙ bitrate-is _ loaded _ good.0 told _;
      hypothesis_after = stored.hypothesis_after ∙ hypothesis-is _ loaded _ good.0 told _;
      next_timeout_after = stored.next_timeout_after ∙ next-timeout-is _ loaded _ good.0 told _;
    }

pub returns : goal.returns
returns c =
    let stored = c.store.ensures in
    let good = both _ _ (was-yes c.in_range.ensures c.if-not-in_range.false) in
    let loaded = c.load-lent.ensures in
    let told = c.report-called.ensures ∙ probed _ _ c.probe_result.ensures in
    record {
      value = code_is _ loaded _ good.0 told c.store.type_inv stored.value;
      link_after = stored.link_after ∙ words-is _ loaded _ good.0 told;
      bitrate_after = stored.bitrate_after ∙ bitrate-is _ loaded _ good.0 told _;
      hypothesis_after = stored.hypothesis_after ∙ hypothesis-is _ loaded _ good.0 told _;
      next_timeout_after = stored.next_timeout_after ∙ next-timeout-is _ loaded _ good.0 told _;
    }
