-- Record k is on the linked chain, the lines from it on are left to write, the packets that wait are kept, and the link is good, so that it is in range for the next call.
use Rattle.std.proofs.Common.{◌-◌}
use Rattle.pass_records.specs.PassRecords.{chain_from, record_count}
use Rattle.pass_records.specs.Laws.{OnChain}
use Rattle.pass_file.specs.Judged.{link_of}
use Rattle.pass_file.proofs.Chain.{Progress}
use Rattle.pass_file.proofs.list_chain.Given as goal

abbrev pub invariant-loop-waiting : goal.invariant-loop-waiting
invariant-loop-waiting l = record {
  on_chain : OnChain l.file (record_count l.file) l.k;
  progress : Progress l.file l.initial.out (chain_from l.file (record_count l.file) l.k) l.out l.waiting (link_of l.acked l.control) l.at;
}

abbrev pub decreases-loop-waiting : goal.decreases-loop-waiting
decreases-loop-waiting l = record_count l.file - l.k
