-- The first no along the chain from record 1 is that along the chain from record k.
use Rattle.std.proofs.Common.{◌-◌, ◌≤◌, ◌<◌, ◌≡◌}
use Rattle.pass_records.specs.PassRecords.{chain_from, judge_along}
use Rattle.pass_records.proofs.judge_chain.Given as goal

abbrev pub invariant-loop-next : goal.invariant-loop-next
invariant-loop-next l = record {
  some : 0 < l.k;
  within : l.k ≤ l.last;
  same : judge_along l.file l.last (chain_from l.file l.last l.k) ≡ judge_along l.file l.last (chain_from l.file l.last 1);
}

abbrev pub decreases-loop-next : goal.decreases-loop-next
decreases-loop-next l = l.last - l.k
