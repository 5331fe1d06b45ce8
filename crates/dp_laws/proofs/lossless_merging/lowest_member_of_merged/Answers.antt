use Rattle.dp_laws.proofs.MergedMembers.{lowest_of_merged}
use Rattle.dp_laws.proofs.lossless_merging.lowest_member_of_merged.Goals as goal

pub returns : goal.returns
returns c = lowest_of_merged
