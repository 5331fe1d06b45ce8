-- The parts of a certificate text.
use Rattle.std.proofs.Common.{◌≡◌, ℕ, ◌≤◌, Bool, true, false, cond, List, ◌∷◌, refl, arith}
use Rattle.std.specs.Prelude.{nat_lt, ◌==◌, Option, Some, None, replicate}
use Rattle.std.proofs.lemmas.Bool.Decides.{nat_tests}
use Rattle.dp_spec.specs.BoundTree.{BoundTree}
use Rattle.dp_spec.specs.Certificate.{Certificate}
use Rattle.dp_spec.specs.Mode.{IsWithinLimits}
use Rattle.dp_spec.specs.Model.{Model}
use Rattle.dp_spec.specs.SharedPolicy.{SharedPolicy}
use Rattle.dp_model.specs.declared.limit.Limit.{Limit}
use Rattle.dp_model.specs.declared.limit.Limit.TheVariants as limits
use Rattle.dp_model.specs.declared.limit.TooLarge.{TooLarge}
use Rattle.dp_model.specs.Horizons.{horizon_limits, long_horizon_passed}
use Rattle.dp_model.specs.Limits.{first_passed, greatest_allowed, passed_by}
use Rattle.dp_lines.specs.Grammar.{ends, ◌>>=◌}
use Rattle.dp_cert.specs.CertificateGrammar.{Head, certificate_from, certificate_grammar, head_grammar}
use Rattle.dp_cert.specs.CertificateGrammar.{horizon_grammar, horizon_passed, title_grammar, tree_grammar}
use Rattle.dp_cert.specs.PolicyGrammar.{plain_agents, policy_grammar, shared_agents, Text}

-- ---- limits that are kept

none_first : (o : Option TooLarge) (os : List (Option TooLarge)) → first_passed (o ∷ os) ≡ None → (o ≡ None)
    × (first_passed os ≡ None)
none_first None os e = (refl, e)
none_first (Some passed) os e = absurd cc

not_passed : (what : Limit) (n : ℕ) → passed_by what n ≡ None → n ≤ greatest_allowed what
not_passed what n e = by_test (nat_lt (greatest_allowed what) n) refl e
  where
    past : TooLarge
    past = record { what = what; count = n }

    by_test : (b : Bool) → nat_lt (greatest_allowed what) n ≡ b → cond b (Some past) None ≡ None
        → n ≤ greatest_allowed what
    by_test true is f = absurd cc
    by_test false is f = grind (arith, nat_tests)

-- a horizon that passes none of the limits of version 1 keeps them
kept_limits : (m : Model) (h : ℕ) → 1 ≤ h → first_passed (horizon_limits m h) ≡ None → IsWithinLimits m h
kept_limits m h some e =
    let a = none_first _ _ e in
    let b = none_first _ _ a.1 in
    let c = none_first _ _ b.1 in
    let d = none_first _ _ c.1 in
    record {
      some_step = omega arith;
      horizon = not_passed limits.Horizon h a.0;
      own_histories = not_passed limits.OwnHistories _ b.0;
      stage_cells = not_passed limits.StageCells _ c.0;
      game_cells = not_passed limits.GameCells _ d.0;
    }

abbrev past_steps : ℕ → TooLarge
past_steps h = record { what = limits.Horizon; count = h }

pub kept_version_one : (m : Model) (version h : ℕ) → version ≡ 1 → 1 ≤ h → horizon_passed m version h ≡ None
    → IsWithinLimits m h
unfolding horizon_passed
kept_version_one m version h one some e = kept_limits m h some (rw one at e)

-- in either version there are at most 24 steps
pub kept_steps : (m : Model) (version h : ℕ) → horizon_passed m version h ≡ None → h ≤ 24
unfolding horizon_passed
kept_steps m version h e = by_version (version == 1) e
  where
    by_test : (b : Bool) → nat_lt 24 h ≡ b → cond b (Some (past_steps h)) None ≡ None → h ≤ 24
    by_test true is f = absurd cc
    by_test false is f = grind (arith, nat_tests)

    by_version : (b : Bool) → cond b (first_passed (horizon_limits m h)) (long_horizon_passed h) ≡ None → h ≤ 24
    by_version true f = let le = not_passed limits.Horizon h (none_first _ _ f).0 in omega (arith, le)
    by_version false f = by_test (nat_lt 24 h) refl f

-- ---- the policy of a version

pub policy_one : (m : Model) (version h : ℕ) → version ≡ 1
    → policy_grammar m version h ≡ plain_agents h 0 m.actions m.observations
unfolding policy_grammar
policy_one m version h one = rw one refl

pub policy_two : (m : Model) (version h : ℕ) → (version ≡ 1 → ⊥)
    → policy_grammar m version h ≡ shared_agents h 0 (replicate h m.states) m.actions m.observations
unfolding policy_grammar
policy_two m version h other = rw (is_other version other) refl
  where
    is_other : (v : ℕ) → (v ≡ 1 → ⊥) → (v == 1) ≡ false
    is_other v differ = grind (arith, nat_tests)

-- ---- what follows each part

abbrev pub behind_tree : ℕ → ℕ → Head → SharedPolicy → BoundTree → Text Certificate
behind_tree version h head policy tree = ends (certificate_from version h head policy tree)

abbrev pub behind_policy : ℕ → ℕ → Head → SharedPolicy → Text Certificate
behind_policy version h head policy = tree_grammar >>= behind_tree version h head policy

abbrev pub behind_head : Model → ℕ → ℕ → Head → Text Certificate
behind_head m version h head = policy_grammar m version h >>= behind_policy version h head

abbrev pub behind_horizon : Model → ℕ → ℕ → Text Certificate
behind_horizon m version h = head_grammar >>= behind_head m version h

abbrev pub behind_version : Model → ℕ → Text Certificate
behind_version m version = horizon_grammar m version >>= behind_horizon m version

pub from_version : (m : Model) → certificate_grammar m ≡ (title_grammar >>= behind_version m)
unfolding certificate_grammar
from_version m = refl
