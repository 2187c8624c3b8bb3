use Rattle.segment_merge.proofs.Unique.{one_merged}
use Rattle.segment_merge.proofs.OneRefusal.{one_refusal, merged_or_refused}
use Rattle.segment_merge.proofs.theorems.rows_have_one_answer.Goals as goal

pub returns-clause-list : goal.returns-clause-list
returns-clause-list c = one_merged

pub returns-clause-fault : goal.returns-clause-fault
returns-clause-fault c = one_refusal

pub returns-clause-not_both : goal.returns-clause-not_both
returns-clause-not_both c = merged_or_refused
