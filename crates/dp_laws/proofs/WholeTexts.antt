-- One spelling of whole texts: a text is that of one policy, or of one certificate.
use Rattle.std.proofs.Common.{◌≡◌, ℕ, zero, suc, ◌+◌, ◌*◌, ◌^◌, ◌<◌, ◌≤◌, List, [], ◌∷◌, ◌++◌, length, get_or, refl}
use Rattle.std.proofs.Common.{sym, ap, subst, ◌∙◌, arith}
use Rattle.std.specs.Prelude.{ℤ, pos, unsigned_abs, map}
use Rattle.std.specs.List.{range_with_len}
use Rattle.std.proofs.Math.Nat.{le-mul_of_pos_right}
use Rattle.dp_spec.specs.JointNumbers.{product}
use Rattle.dp_spec.specs.Model.{Model, IsModel, joint_actions}
use Rattle.dp_spec.specs.PolicyTree.IsJointPolicy.{and_agent, no_agents}
use Rattle.dp_spec.specs.PolicyTree.{IsJointPolicy, IsPolicyOf, IsPolicyTree, PolicyTree}
use Rattle.dp_spec.specs.TextLines.{Line, fixed_line, line_text, Allows, AllAllowed}
use Rattle.dp_spec.specs.PolicyText.{horizon_form, end_form, row_line, policy_rows, agent_lines, policy_lines}
use Rattle.dp_spec.specs.PolicyText.{policy_text, IsPolicyText}
use Rattle.dp_laws.proofs.LineTexts.{decimal_item, AreLines, bytes_of, first_of_list, rest_of_list}
use Rattle.dp_laws.proofs.LineTexts.{line_text_injective, text_of_lines_injective}
use Rattle.dp_laws.proofs.PolicyTexts.{AreSmall, row_is, agent_lines_injective}
use Rattle.dp_spec.proofs.JointNumberLaws.{positive_right}

-- ---- lines

-- lines and further lines are lines
pub AreLines-append : (lines more : List Line) → AreLines lines → AreLines more → AreLines (lines ++ more)
AreLines-append [] more p q = q
AreLines-append (line ∷ lines) more p q = (p.0, AreLines-append lines more p.1 q)

-- what is allowed of lines and further lines is allowed of each part
pub AllAllowed-parts : (lines more : List Line) → AllAllowed (lines ++ more) → AllAllowed lines
    × AllAllowed more
AllAllowed-parts [] more p = (tt, p)
AllAllowed-parts (line ∷ lines) more p = let rest = AllAllowed-parts lines more p.1 in ((p.0, rest.0), rest.1)

-- lines have the numbers that their forms allow
pub allowed_of : (lines : List Line) → AreLines lines → AllAllowed lines
allowed_of [] are = tt
allowed_of (line ∷ lines) are = (are.0.1, allowed_of lines are.1)

-- what is allowed of each part is allowed of both together
pub AllAllowed-append : (lines more : List Line) → AllAllowed lines → AllAllowed more
    → AllAllowed (lines ++ more)
AllAllowed-append [] more p q = q
AllAllowed-append (line ∷ lines) more p q = (p.0, AllAllowed-append lines more p.1 q)

-- ---- the agents' lines

-- the rows of k stages from a on are lines
rows_are_lines : (b n h : ℕ) (q : PolicyTree) → b ≤ 2 ^ 32 → IsPolicyTree b n h q → (a k : ℕ) → a + k ≤ h
    → AreLines (map (row_line b n q) (range_with_len a k))
rows_are_lines b n h q small is a zero within = tt
rows_are_lines b n h q small is a (suc k) within = (
  row_is b n h a q small (omega arith) is,
  rows_are_lines b n h q small is (a + 1) k (omega arith),
)

-- the lines of the agents from one on are lines
pub agents_are_lines : (h : ℕ) (bs ns : List ℕ) (qs : List PolicyTree) → AreSmall bs → IsJointPolicy h bs ns qs
    → (agent : ℕ) → agent + length bs < 10 ^ 64 → AreLines (agent_lines agent (policy_rows bs ns h qs))
agents_are_lines h _ _ _ small no_agents agent few = tt
agents_are_lines h (b ∷ bs) (n ∷ ns) (q ∷ qs) small (and_agent is iss) agent few = (
  ((assumption, (decimal_item agent (omega arith), tt)), tt),
  AreLines-append (map (row_line b n q) (range_with_len 0 h)) (agent_lines (agent + 1) (policy_rows bs ns h qs))
      (rows_are_lines b n h q small.0 is 0 h (omega arith))
      (agents_are_lines h bs ns qs small.1 iss (agent + 1) (omega arith)),
)

-- no factor of a small product that is not 0 is large
small_factors : (bs : List ℕ) (k : ℕ) → k ≤ 2 ^ 32 → 0 < product bs → product bs ≤ k → AreSmall bs
small_factors [] k few some most = tt
small_factors (b ∷ bs) k few some most =
    let others : 0 < product bs = positive_right b (product bs) 0 some in
    let this : b ≤ b * product bs = le-mul_of_pos_right b others in
    let some' : 0 < product bs * b = omega arith in
    let own : 0 < b = positive_right (product bs) b 0 some' in
    let rest : product bs ≤ product bs * b = le-mul_of_pos_right (product bs) own in
    (omega (arith, this, most), small_factors bs k few others (omega (arith, rest, most)))

-- no agent of a model has more actions than a plain number can name
pub actions_small : (m : Model) → IsModel m → AreSmall m.actions
unfolding joint_actions
actions_small m is = small_factors m.actions 256 (omega arith) is.sizes.some_action is.sizes.joint_actions_limit

-- ---- policies

-- the lines of the text of a joint policy are lines
policy_are_lines : (m : Model) → IsModel m → (h : ℕ) (qs : List PolicyTree) → Allows horizon_form (pos h ∷ [])
    → IsPolicyOf m h qs → AreLines (policy_lines m.actions m.observations h qs)
policy_are_lines m is h qs horizon policy =
    let agents = is.sizes.agents_limit in (
      ((assumption, (assumption, (decimal_item 1 (omega arith), tt))), tt),
      (
        (assumption, horizon),
        AreLines-append (agent_lines 0 (policy_rows m.actions m.observations h qs)) (fixed_line end_form ∷ [])
            (agents_are_lines h m.actions m.observations qs (actions_small m is) policy 0
            (omega (arith, agents)))
            ((assumption, tt), tt),
      ),
    )

-- every joint policy of a horizon of 32 bits has a text
pub policy_has_text : (m : Model) → IsModel m → (h : ℕ) (qs : List PolicyTree) → 0 < h → h < 2 ^ 32
    → IsPolicyOf m h qs → IsPolicyText m (policy_text m.actions m.observations h qs) h qs
policy_has_text m is h qs some wide policy = record {
  policy = policy;
  allowed = allowed_of (policy_lines m.actions m.observations h qs)
      (policy_are_lines m is h qs (omega arith, omega arith, omega arith, tt) policy);
  text = refl;
}

-- the line of a horizon determines it
pub horizon_line_injective : (h k : ℕ) → Allows horizon_form (pos h ∷ []) → Allows horizon_form (pos k ∷ [])
    → line_text horizon_form (pos h ∷ []) ≡ line_text horizon_form (pos k ∷ []) → h ≡ k
horizon_line_injective h k p q e = ap (λ (l : List ℤ). unsigned_abs (get_or l 0 (pos 0)))
    (line_text_injective horizon_form (pos h ∷ []) (pos k ∷ []) (assumption) p q e)

-- where the horizons are equal, the lines of all agents of a model determine the policy, and what follows them
pub all_agent_lines_injective : (m : Model) → IsModel m → (h k : ℕ) (qs ps : List PolicyTree) → h ≡ k → 0 < h
    → IsPolicyOf m h qs → IsPolicyOf m k ps → (more others : List Line)
    → map bytes_of (agent_lines 0 (policy_rows m.actions m.observations h qs) ++ more)
    ≡ map bytes_of (agent_lines 0 (policy_rows m.actions m.observations k ps) ++ others)
    → (qs ≡ ps) × (map bytes_of more ≡ map bytes_of others)
all_agent_lines_injective m is h k qs ps same some mine yours more others e =
    agent_lines_injective h m.actions m.observations qs ps some (actions_small m is) mine
    (subst (λ (x : ℕ). IsPolicyOf m x ps) (sym same) yours) 0 more others
    (subst (λ (x : ℕ). map bytes_of (agent_lines 0 (policy_rows m.actions m.observations h qs) ++ more)
    ≡ map bytes_of (agent_lines 0 (policy_rows m.actions m.observations x ps) ++ others)) (sym same) e)

-- a text is that of one joint policy of one horizon
pub policy_text_injective : (m : Model) → IsModel m → (bytes : List ℕ) (h k : ℕ) (qs ps : List PolicyTree)
    → IsPolicyText m bytes h qs → IsPolicyText m bytes k ps → (h ≡ k) × (qs ≡ ps)
unfolding policy_text bytes_of
policy_text_injective m is bytes h k qs ps mine yours =
    let lines = text_of_lines_injective (policy_lines m.actions m.observations h qs)
    (policy_lines m.actions m.observations k ps)
    (policy_are_lines m is h qs mine.allowed.1.0 mine.policy)
    (policy_are_lines m is k ps yours.allowed.1.0 yours.policy) (sym mine.text ∙ yours.text) in
    let behind_title = rest_of_list _ _ _ _ lines in
    let horizon : h ≡ k = horizon_line_injective h k mine.allowed.1.0 yours.allowed.1.0
    (first_of_list _ _ _ _ behind_title) in
    let policies = all_agent_lines_injective m is h k qs ps horizon mine.allowed.1.0.1 mine.policy yours.policy
    (fixed_line end_form ∷ []) (fixed_line end_form ∷ []) (rest_of_list _ _ _ _ behind_title) in
    (horizon, policies.0)
