-- `twcc::judge_with_deltas` meets its contract: a law a case, by what the chunks say.
use Rattle.std.proofs.Common.{◌≡◌, sym, ◌∙◌}
use Rattle.std.specs.Prelude.{Result}
use Rattle.std.proofs.lemmas.Result.{err_from_is_err_and}
use Rattle.twcc.specs.Judging.{judge_with_deltas, judgement_by, judged-by}
use Rattle.twcc.specs.declared.Deltas.{Deltas}
use Rattle.twcc.specs.declared.Refusal.{Refusal}
use Rattle.twcc.proofs.judge_with_deltas.Goals as goal
use Rattle.twcc.proofs.judge_with_deltas.Goals.{After-judge_chunks}

-- by what the chunks say
chunks-told :
    (c : After-judge_chunks) (t : Result Deltas Refusal) → c.judge_chunks.result ≡ t →
    judgement_by c.args.message.now c.read_header-header.result t ≡ judge_with_deltas c.args.message.now
chunks-told c t = judged-by _ _ _ t c.read_header-header.ensures c.if-message-lt-HEADER_BYTES.false c.if-header-eq0.false c.judge_chunks.ensures

pub returns-in_err-deltas : goal.returns-in_err-deltas
returns-in_err-deltas c =
    let p = err_from_is_err_and c.from_residual.result c.from_residual.ensures.1 in
    rw (p.1, p.2) (chunks-told (goal.at.returns-in_err-deltas c).After-judge_chunks _ c.in_err-deltas.was)

pub returns-then-cut_short : goal.returns-then-cut_short
returns-then-cut_short c = rw (sym c.cut_short.ensures ∙ c.if-cut_short.true) at (chunks-told (goal.at.returns-then-cut_short c).After-judge_chunks _ c.in_ok-deltas.was)

pub returns : goal.returns
returns c = rw (sym c.cut_short.ensures ∙ c.if-cut_short.false) at (chunks-told (goal.at.returns c).After-judge_chunks _ c.in_ok-deltas.was)
