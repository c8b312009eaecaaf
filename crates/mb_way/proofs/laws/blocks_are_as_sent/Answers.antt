use Rattle.mb_way.proofs.Keeping.{kept_more, nothing_kept, heard_kept}
use Rattle.mb_way.proofs.Counting.{complete_count}
use Rattle.mb_way.proofs.Hearing.{complete_heard}
use Rattle.mb_way.proofs.Sent.{sources_sent}
use Rattle.mb_way.proofs.laws.blocks_are_as_sent.Goals as goal

pub returns-clause-more : goal.returns-clause-more
returns-clause-more c = kept_more

pub returns-clause-nothing : goal.returns-clause-nothing
returns-clause-nothing c = nothing_kept

pub returns-clause-kept : goal.returns-clause-kept
returns-clause-kept c = heard_kept

pub returns-clause-count : goal.returns-clause-count
returns-clause-count c = complete_count

pub returns-clause-heard : goal.returns-clause-heard
returns-clause-heard c = complete_heard

pub returns-clause-sent : goal.returns-clause-sent
returns-clause-sent c = sources_sent
