-- The judgement chooses the definition's case.
use Rattle.std.proofs.Common.{◌≡◌, ◌≤◌, ◌∙◌, sym, ap, length, arith}
use Rattle.std.specs.Prelude.{Ok}
use Rattle.pass_records.specs.PassRecords.{judge, most_records}
use Rattle.pass_records.specs.Laws.{linked-file}
use Rattle.pass_file.specs.Laws.{listing-fits}
use Rattle.pass_file.specs.PassFile.{list, output}
use Rattle.pass_file.proofs.Chain.{at-start}
use Rattle.pass_file.proofs.list.Goals as goal

pub list_linked-requires : goal.list_linked-requires
list_linked-requires c =
    let linked : judge c.args.most c.args.file.now (length c.args.out.now) ≡ Ok tt = sym c.judge.ensures ∙ c.in_ok-judge.was in
    let few : c.args.most ≤ most_records = omega arith in
    record { on_chain = (linked-file _ _ _ linked).first; room = listing-fits _ few _ _ linked }

pub returns : goal.returns
unfolding list output
returns c =
    let linked : judge c.args.most c.args.file.now (length c.args.out.now) ≡ Ok tt = sym c.judge.ensures ∙ c.in_ok-judge.was in
    let few : c.args.most ≤ most_records = omega arith in
    let w = at-start (listing-fits _ few _ _ linked) c.list_linked.ensures in
    rw linked (record { result_value = ap Ok w.0; out_after = w.1 })
