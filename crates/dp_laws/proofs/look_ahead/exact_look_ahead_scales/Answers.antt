use Rattle.dp_laws.proofs.ScaledWeights.{scaled_spans_look_ahead}
use Rattle.dp_laws.proofs.look_ahead.exact_look_ahead_scales.Goals as goal

pub returns : goal.returns
returns c = scaled_spans_look_ahead
