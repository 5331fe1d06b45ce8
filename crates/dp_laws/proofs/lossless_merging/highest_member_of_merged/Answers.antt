use Rattle.dp_laws.proofs.MergedMembers.{highest_of_merged}
use Rattle.dp_laws.proofs.lossless_merging.highest_member_of_merged.Goals as goal

pub returns : goal.returns
returns c = highest_of_merged
