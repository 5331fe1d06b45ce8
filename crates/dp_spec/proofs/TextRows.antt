-- Worked rows of the texts of policies and certificates, by computation.
use Rattle.std.specs.Prelude.{◌≡◌, ℕ, ◌-◌, ◌^◌, pos, negsuc, true, false, Some, [], ◌∷◌, codes}
use Rattle.std.proofs.Common.{refl, arith}
use Rattle.std.specs.Fmt.{digits}
use Rattle.dp_spec.specs.PolicyTree.{PolicyTree, node, no_trees, more_trees}
use Rattle.dp_spec.specs.BoundTree.{leaf, branch, merge, no_bound_trees, more_bound_trees}
use Rattle.dp_spec.specs.TextLines.{fixed, signed, any_plain, line_text, Allows}
use Rattle.dp_spec.specs.SharedPolicy.{AgentRows}
use Rattle.dp_spec.specs.SharedRows.{counts_form, first_past, row_cells, shared_row_form}
use Rattle.dp_spec.proofs.TextLemmas.{one_row}
use Rattle.dp_spec.specs.PolicyText.{policy_text, horizon_form, row_form}
use Rattle.dp_spec.specs.CertificateText.{certificate_rows, certificate_text, look_form, branch_form}

-- an action, and nothing after it
abbrev act : ℕ → PolicyTree
act a = node a no_trees

-- an action, and one action after each of two observations
abbrev act_twice : ℕ → ℕ → ℕ → PolicyTree
act_twice a b c = node a (more_trees (act b) (more_trees (act c) no_trees))

-- ---- lines

-- items are divided by one space, a negative number has a sign
numbers : line_text (fixed (codes "M") ∷ any_plain ∷ any_plain ∷ signed ∷ []) (pos 10 ∷ pos 0 ∷ negsuc 79999 ∷ [])
    ≡ codes "M 10 0 -80000"
unfolding digits
numbers = refl

-- 0 has no sign, and is one digit
zero_is : line_text (fixed (codes "lower") ∷ signed ∷ []) (pos 0 ∷ []) ≡ codes "lower 0"
unfolding digits
zero_is = refl

-- a number past 64 bits
wide : line_text (fixed (codes "unit") ∷ signed ∷ []) (pos (2 ^ 127 - 1) ∷ [])
    ≡ codes "unit 170141183460469231731687303715884105727"
unfolding digits
wide = refl

-- ---- policies

-- two agents that always listen, for two steps
always_listen : policy_text (3 ∷ 3 ∷ []) (2 ∷ 2 ∷ []) 2 (act_twice 0 0 0 ∷ act_twice 0 0 0 ∷ [])
    ≡ codes "decplan policy 1\nhorizon 2\nagent 0\n0\n0 0\nagent 1\n0\n0 0\nend\n"
unfolding policy_text digits
always_listen = refl

-- three steps of one agent: the first observation decides first, so that 4 stands before 5 and both before 6
first_observation_first : policy_text (7 ∷ []) (2 ∷ []) 3
    (node 0 (more_trees (act_twice 1 3 4) (more_trees (act_twice 2 5 6) no_trees)) ∷ [])
    ≡ codes "decplan policy 1\nhorizon 3\nagent 0\n0\n1 2\n3 4 5 6\nend\n"
unfolding policy_text digits
first_observation_first = refl

-- each agent has rows of its own length
own_observations : policy_text (2 ∷ 12 ∷ []) (1 ∷ 2 ∷ []) 2
    (node 1 (more_trees (act 0) no_trees) ∷ act_twice 0 11 2 ∷ [])
    ≡ codes "decplan policy 1\nhorizon 2\nagent 0\n1\n0\nagent 1\n0\n11 2\nend\n"
unfolding policy_text digits
own_observations = refl

-- ---- certificates

-- an action, and one action after each of two observations, with a row for each own history
abbrev two_rows : ℕ → ℕ → ℕ → AgentRows
two_rows a b c =
    (record { action = a; next = 0 ∷ 1 ∷ [] } ∷ [])
    ∷ (record { action = b; next = [] } ∷ record { action = c; next = [] } ∷ [])
    ∷ []

-- both agents listen once, and the tree is one leaf
listen_once : certificate_text (3 ∷ 3 ∷ []) (2 ∷ 2 ∷ [])
    (record {
      version = 1;
      horizon = 1;
      look = 1;
      is_exact = true;
      unit = pos 40000;
      lower = negsuc 79999;
      upper =
          negsuc 79999;
      inner = 0;
      policy = one_row 0 ∷ one_row 0 ∷ [];
      tree = leaf (negsuc 79999);
    })
    ≡ codes "decplan certificate 1\nhorizon 1\nlook 1\nmode exact\nunit 40000\nlower -80000\nupper -80000\ninner 0\npolicy\nagent 0\n0\nagent 1\n0\ntree\nL -80000\nend\n"
unfolding certificate_text certificate_rows digits
listen_once = refl

-- one agent with two actions: a branch, and a leaf for each action
two_leaves : certificate_text (2 ∷ []) (1 ∷ []) (record {
  version = 1;
  horizon = 1;
  look = 1;
  is_exact = true;
  unit =
      pos 1;
  lower = pos 3;
  upper = pos 3;
  inner = 1;
  policy = one_row 1 ∷ [];
  tree =
      branch 0 0 (more_bound_trees (leaf (pos 1)) (more_bound_trees (leaf (pos 3)) no_bound_trees));
})
    ≡ codes "decplan certificate 1\nhorizon 1\nlook 1\nmode exact\nunit 1\nlower 3\nupper 3\ninner 1\npolicy\nagent 0\n1\ntree\nB 0 0 2\nL 1\nL 3\nend\n"
unfolding certificate_text certificate_rows digits
two_leaves = refl

-- a merge below a branch: its child follows it at once, before the branch's second child; and outward mode
merge_below : certificate_text (2 ∷ []) (2 ∷ []) (record {
  version = 1;
  horizon = 2;
  look = 16;
  is_exact =
      false;
  unit = pos 1000000000;
  lower = negsuc 0;
  upper = pos 0;
  inner = 2;
  policy = two_rows 1 0 1 ∷ [];
  tree =
      branch 0 0 (more_bound_trees (merge 0 0 1 (leaf (pos 0))) (more_bound_trees (leaf (negsuc 1)) no_bound_trees));
})
    ≡ codes "decplan certificate 1\nhorizon 2\nlook 16\nmode outward\nunit 1000000000\nlower -1\nupper 0\ninner 2\npolicy\nagent 0\n1\n0 1\ntree\nB 0 0 2\nM 0 0 1\nL 0\nL -2\nend\n"
unfolding certificate_text certificate_rows digits
merge_below = refl

-- version 2: a line with the counts of the stages, and a line for each row
listen_once_shared : certificate_text (3 ∷ 3 ∷ []) (2 ∷ 2 ∷ [])
    (record {
      version = 2;
      horizon = 1;
      look = 1;
      is_exact = true;
      unit = pos 40000;
      lower = negsuc 79999;
      upper =
          negsuc 79999;
      inner = 0;
      policy = one_row 0 ∷ one_row 0 ∷ [];
      tree = leaf (negsuc 79999);
    })
    ≡ codes "decplan certificate 2\nhorizon 1\nlook 1\nmode exact\nunit 40000\nlower -80000\nupper -80000\ninner 0\npolicy\nagent 0\nrows 1\n0\nagent 1\nrows 1\n0\ntree\nL -80000\nend\n"
unfolding certificate_text certificate_rows digits
listen_once_shared = refl

-- the rows stand stage after stage, each with its action and then its next rows
rows_by_stage : certificate_text (2 ∷ []) (2 ∷ []) (record {
  version = 2;
  horizon = 2;
  look = 16;
  is_exact =
      false;
  unit = pos 1000000000;
  lower = negsuc 0;
  upper = pos 0;
  inner = 0;
  policy = two_rows 1 0 1 ∷ [];
  tree =
      leaf (pos 0);
})
    ≡ codes "decplan certificate 2\nhorizon 2\nlook 16\nmode outward\nunit 1000000000\nlower -1\nupper 0\ninner 0\npolicy\nagent 0\nrows 1 2\n1 0 1\n0\n1\ntree\nL 0\nend\n"
unfolding certificate_text certificate_rows digits
rows_by_stage = refl

-- ---- what a form allows

-- the first stage has one row, each other one or more
two_first_rows : Allows (counts_form 1) (pos 2 ∷ []) → ⊥
two_first_rows allowed = omega (arith, allowed.2)

no_later_row : Allows (counts_form 2) (pos 1 ∷ pos 0 ∷ []) → ⊥
no_later_row allowed = omega (arith, allowed.3.1)

many_later_rows : Allows (counts_form 2) (pos 1 ∷ pos 2097153 ∷ [])
many_later_rows = (omega arith, omega arith, omega arith, (omega arith, omega arith, omega arith, tt))

-- two states and that many rows are past the limit on joint rows
past_the_limit : first_past (2 ^ 22) (row_cells 2 2 ((1 ∷ 2097153 ∷ []) ∷ [])) ≡ Some 4194306
past_the_limit = refl

-- a next row is below the count of the next stage
next_row_too_large : Allows (shared_row_form 2 1 3) (pos 0 ∷ pos 3 ∷ []) → ⊥
next_row_too_large allowed = omega (arith, allowed.3.2)

-- a horizon of 0 is not allowed, one of 1 is
no_steps : Allows horizon_form (pos 0 ∷ []) → ⊥
no_steps allowed = omega (arith, allowed.1)

one_step : Allows horizon_form (pos 1 ∷ [])
one_step = (omega arith, omega arith, omega arith, tt)

-- a look of 17 is not allowed
look_past_16 : Allows look_form (pos 17 ∷ []) → ⊥
look_past_16 allowed = omega (arith, allowed.2)

-- an action is below the number of actions
action_too_large : Allows (row_form 3 1 0) (pos 3 ∷ []) → ⊥
action_too_large allowed = omega (arith, allowed.2)

-- a branch has from 1 to 256 children
no_children : Allows branch_form (pos 0 ∷ pos 0 ∷ pos 0 ∷ []) → ⊥
no_children allowed = omega (arith, allowed.3.3.1)

too_many_children : Allows branch_form (pos 0 ∷ pos 0 ∷ pos 257 ∷ []) → ⊥
too_many_children allowed = omega (arith, allowed.3.3.2)

-- a plain number has no sign, and each number of a form is there
no_sign : Allows branch_form (negsuc 0 ∷ pos 0 ∷ pos 1 ∷ []) → ⊥
no_sign allowed = allowed

one_missing : Allows branch_form (pos 0 ∷ pos 0 ∷ []) → ⊥
one_missing allowed = allowed.3.3
