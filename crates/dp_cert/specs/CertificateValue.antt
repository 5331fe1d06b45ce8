-- The certificate of the definitions that a `Certificate` is. (Own.)
use Rattle.dp_spec.specs.Certificate as definitions
use Rattle.dp_tree.specs.TreeValue.{bound_tree}
use Rattle.dp_cert.specs.declared.certificate.Certificate.{Certificate}

-- its fields, the rows of its policy, and the bound tree that its tree holds
abbrev pub certificate_of : Certificate → definitions.Certificate
certificate_of c = record {
  version = c.version;
  horizon = c.horizon;
  look = c.look;
  is_exact = c.exact;
  unit = c.unit;
  lower = c.lower;
  upper = c.upper;
  inner = c.inner;
  policy = c.policy.rows;
  tree = bound_tree c.tree;
}
