-- What the code's reasons name, and how a walk ends. (Own.)
use Rattle.std.specs.Prelude.{ℕ, ◌==◌, Bool, ℤ, Option, Some, None}
use Rattle.std.specs.Option.{option_or}
use Rattle.std.specs.Ordering.{int_eq}
use Rattle.dp_spec.specs.Certificate.{Certificate}
use Rattle.dp_spec.specs.Reasons.{unless}
use Rattle.dp_spec.specs.Reasons as reasons
use Rattle.dp_check.specs.declared.tally.Tally.{Tally}
use Rattle.dp_check.specs.declared.verdict.Reason.{Reason}
use Rattle.dp_check.specs.declared.verdict.Reason.TheVariants as variants
use Rattle.dp_check.specs.declared.verdict.Verdict.{Verdict}
use Rattle.dp_check.specs.declared.verdict.Verdict.TheVariants.{Accepted, Rejected}
use Rattle.dp_check.specs.Walks.{Walked, passed, stopped}

-- the reason of the definitions
abbrev pub reason_of : Reason → reasons.Reason
reason_of (variants.Mode e) = reasons.mode_is e
reason_of (variants.Unit u) = reasons.unit_is u
reason_of (variants.Lower x) = reasons.lower_is x
reason_of (variants.Place k) = reasons.no_place k
reason_of (variants.Kids k count) = reasons.children_are k count
reason_of (variants.NotEqual k p) = reasons.unequal_at k p
reason_of (variants.LeafBound k x) = reasons.bound_is k x
reason_of (variants.Inner count) = reasons.inner_is count
reason_of (variants.Upper x) = reasons.upper_is x

-- how a walk ends that found this reason, or none and then keeps a tally
abbrev pub outcome : Option Reason → Tally → Walked
outcome None t = passed t
outcome (Some r) t = stopped (reason_of r)

-- ---- verdicts

-- the certificate is accepted
abbrev pub IsAccepted : Verdict → Type 0
IsAccepted (Accepted closed lean merged) = Unit {0}
IsAccepted (Rejected r) = ⊥

-- a fact of the words of an accepted one: closed, lean, merged
abbrev pub IfAccepted : Verdict → (Bool → Bool → Bool → Type 0) → Type 0
IfAccepted (Accepted closed lean merged) P = P closed lean merged
IfAccepted (Rejected r) P = Unit {0}

-- a fact of the reason against a rejected one
abbrev pub IfRejected : Verdict → (Reason → Type 0) → Type 0
IfRejected (Accepted closed lean merged) P = Unit {0}
IfRejected (Rejected r) P = P r

-- nothing is counted yet
abbrev pub nothing_counted : Bool → Tally
nothing_counted exact = record {
  nodes = 0;
  inner = 0;
  greatest = None;
  not_full = None;
  narrow = None;
  least = None;
  merged = exact;
}

-- the first reason of the definitions, if there is one
abbrev pub names : Option Reason → Option reasons.Reason
names None = None
names (Some r) = Some (reason_of r)

-- the reason against a certificate whose tree has so many branches and merges and this greatest bound of a leaf
abbrev pub last_of : Certificate → ℕ → ℤ → Option reasons.Reason
last_of c inner upper =
    option_or (unless (c.inner == inner) (reasons.inner_is inner))
    (unless (int_eq c.upper upper) (reasons.upper_is upper))
