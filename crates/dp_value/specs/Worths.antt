-- What the worth of a joint policy says of its value.
use Rattle.std.specs.Prelude.{ℕ, Bool, List}
use Rattle.dp_spec.specs.declared.span.Span.{Span}
use Rattle.dp_spec.specs.Enclosure.{enclosure}
use Rattle.dp_spec.specs.Model.{Model, value_scale}
use Rattle.dp_spec.specs.PolicyTree.{PolicyTree}
use Rattle.dp_spec.specs.Value.{policy_value}
use Rattle.dp_value.specs.declared.room.Worth.{Worth}

-- its two ends
abbrev pub ends_of : Worth → Span
ends_of w = record { low = w.low; high = w.high }

-- a worth of the joint policy qs over h steps: in exact mode both ends are the value, and in outward mode the value
-- over its scale lies between them over the unit 10^9
abbrev pub IsWorthOf : Bool → Model → ℕ → List PolicyTree → Worth → Type 0
IsWorthOf e m h qs w = (enclosure e).Earns (value_scale m h) (policy_value m h qs) (ends_of w)
