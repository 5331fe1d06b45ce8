-- What a policy text says: the joint policy that does the actions of its rows.
use Rattle.std.proofs.Common.{◌≡◌, ℕ, ◌^◌, ◌<◌, List, [], ◌∷◌, get_or, Result, Ok, Err, refl, sym, ap, subst, ◌∙◌}
use Rattle.std.proofs.Common.{arith}
use Rattle.std.specs.Prelude.{ℤ, pos, negsuc, Option, Some, None, codes}
use Rattle.std.proofs.lemmas.List.FromFn.{fill_by_all}
use Rattle.dp_laws.proofs.TreeActions.{tree_of_actions, does-tree_doing}
use Rattle.dp_laws.proofs.WholeTexts.{policy_has_text, policy_text_injective}
use Rattle.dp_spec.specs.Keeping.{tree_at}
use Rattle.dp_spec.specs.Model.{Model, IsModel}
use Rattle.dp_spec.specs.PolicyText.{horizon_form, row_actions}
use Rattle.dp_spec.specs.PolicyTree.{IsJointPolicy, IsPolicyOf, root_action}
use Rattle.dp_spec.specs.PolicyTree.IsJointPolicy.{and_agent, no_agents}
use Rattle.dp_spec.specs.TextLines.{Allows}
use Rattle.dp_model.specs.declared.limit.TooLarge.{TooLarge}
use Rattle.dp_model.specs.Horizons.{horizon_limits}
use Rattle.dp_model.specs.Limits.{first_passed}
use Rattle.dp_lines.specs.Grammar.{ends, Fault, IsAnswer, bad, limit}
use Rattle.dp_lines.specs.Scanning.{Rest, front_of, text_from}
use Rattle.dp_lines.proofs.OneAnswer.{one_answer, read_answer}
use Rattle.dp_policy.specs.declared.fault.PolicyFault.{PolicyFault}
use Rattle.dp_policy.specs.declared.fault.PolicyFault.TheVariants as faults
use Rattle.dp_policy.specs.ActionRows.{AreActionRows, AreAgentsRows, action_in, policy_actions, tree_of_rows}
use Rattle.dp_policy.specs.ActionRows.{tree_rows, trees_of_rows}
use Rattle.dp_policy.specs.PolicyAnswers.{EachPolicyTextHasOneAnswer, HasPolicyFault, IsPolicyAnswer, PassesNone}
use Rattle.dp_policy.specs.PolicyAnswers.{SaidPolicy}
use Rattle.dp_policy.specs.PolicyBytes.{policy_bytes}
use Rattle.dp_policy.specs.PolicyGrammar.{PolicyActions, agent_rows, title_words, end_words, policy_grammar}
use Rattle.dp_policy.specs.Reading.{Fails}
use Rattle.dp_lines.specs.Reading.{rest_at}
use Rattle.dp_lines.specs.Steps.{the_words, the_numbers, unless_passed, first_plain}
use Rattle.dp_policy.proofs.AgentParts.{action_some}
use Rattle.dp_policy.proofs.PolicyAnswers.{policy_proper}
use Rattle.dp_policy.proofs.PolicyParts.{behind_title, behind_horizon, behind_limits, behind_agents}
use Rattle.dp_policy.proofs.ReadBytes.{line_is, read_bytes, same_rest, split, whole_is}
use Rattle.dp_policy.proofs.ReadRows.{agents_fit}
use Rattle.dp_policy.proofs.WrittenBytes.{written_bytes}
use Rattle.dp_policy.proofs.WrittenPolicies.{policy_text_says}

-- ---- what is read

pub record IsRead (m : Model) (p : PolicyActions) : Type 0 where
  pub rows : AreAgentsRows p.horizon m.actions m.observations p.agents
  pub passes : PassesNone m p.horizon
  pub some : 0 < p.horizon
  pub wide : p.horizon < 2 ^ 32

horizon_fits : (zs : List ℤ) → Allows horizon_form zs → (0 < first_plain zs) × (first_plain zs < 2 ^ 32)
horizon_fits [] a = absurd a
horizon_fits (negsuc n ∷ zs) a = absurd a
horizon_fits (pos n ∷ zs) a = (omega (arith, a.1), a.0)

none_passed : (o : Option TooLarge) (line : ℕ) (bytes : List ℕ) (rest : Rest (Unit {0}))
    → front_of (unless_passed o) line bytes ≡ Ok rest → o ≡ None
none_passed None line bytes rest e = refl
none_passed (Some passed) line bytes rest e = absurd cc

policy_fits : (m : Model) → IsModel m → (bytes : List ℕ) (rest : Rest PolicyActions)
    → front_of (policy_grammar m) 1 bytes ≡ Ok rest → IsRead m rest.value
unfolding policy_grammar
policy_fits m is bytes rest e =
    let s = split (the_words (title_words (codes "policy"))) (λ title. behind_title m) 1 bytes rest e in
    let t = split (the_numbers horizon_form) (behind_horizon m) s.mid.line s.mid.bytes rest s.behind in
    let horizon = line_is horizon_form s.mid.line s.mid.bytes t.mid (assumption, tt) t.front in
    let u = split (unless_passed (first_passed (horizon_limits m (first_plain t.mid.value))))
    (λ kept. behind_limits m (first_plain t.mid.value)) t.mid.line t.mid.bytes rest t.behind in
    let v = split (agent_rows (first_plain t.mid.value) 0 m.actions m.observations)
    (behind_agents (first_plain t.mid.value)) u.mid.line u.mid.bytes rest u.behind in
    let w = split (the_words end_words) (λ end. ends (record
    { horizon = first_plain t.mid.value; agents = v.mid.value })) v.mid.line v.mid.bytes rest v.behind in
    let one : Rest PolicyActions = rest_at (record { horizon = first_plain t.mid.value; agents = v.mid.value })
    w.mid.line w.mid.bytes in
    let h = horizon_fits t.mid.value horizon.allowed in
    subst (λ (r : Rest PolicyActions). IsRead m r.value) (same_rest one rest w.behind) (record {
      rows = agents_fit (first_plain t.mid.value) 0 m.actions m.observations u.mid.line u.mid.bytes v.mid
          (sym is.sizes.alike) (λ i lt. action_some m i is lt) v.front;
      passes = none_passed (first_passed (horizon_limits m (first_plain t.mid.value)))
          t.mid.line t.mid.bytes u.mid u.front;
      some = h.0;
      wide = h.1;
    })

pub read_fits : (m : Model) → IsModel m → (bytes : List ℕ) (p : PolicyActions)
    → text_from (policy_grammar m) 1 bytes ≡ Ok p → IsRead m p
read_fits m is bytes p e = let w = whole_is (policy_grammar m) bytes p e in
    policy_fits m is bytes (rest_at p w.line []) w.front

-- ---- the trees of rows

pub trees_fit : (h : ℕ) (bs ns : List ℕ) (agents : List (List (List ℕ))) → AreAgentsRows h bs ns agents
    → IsJointPolicy h bs ns (trees_of_rows h ns agents)
trees_fit h [] [] [] are = no_agents
trees_fit h [] [] (rows ∷ agents) are = absurd are
trees_fit h [] (n ∷ ns) agents are = absurd are
trees_fit h (b ∷ bs) [] agents are = absurd are
trees_fit h (b ∷ bs) (n ∷ ns) [] are = absurd are
trees_fit h (b ∷ bs) (n ∷ ns) (rows ∷ agents) are =
    and_agent (tree_of_actions b n h (action_in rows) are.0.actions).0 (trees_fit h bs ns agents are.1)

-- the tree of rows has these rows
own_rows : (b n h : ℕ) (rows : List (List ℕ)) → AreActionRows b n h rows
    → tree_rows n (tree_of_rows n h rows) 0 h ≡ rows
own_rows b n h rows are =
    sym (fill_by_all (row_actions n (tree_of_rows n h rows)) rows h [] are.stages
    (λ t lt. fill_by_all (λ x. root_action (tree_at n (tree_of_rows n h rows) t x)) (get_or rows t []) (n ^ t) 0
    (are.histories t lt)
    (λ x in_row. sym (does-tree_doing n (action_in rows) h t x lt in_row))))

all_rows : (h : ℕ) (bs ns : List ℕ) (agents : List (List (List ℕ))) → AreAgentsRows h bs ns agents
    → policy_actions h ns (trees_of_rows h ns agents) ≡ agents
all_rows h [] [] [] are = refl
all_rows h [] [] (rows ∷ agents) are = absurd are
all_rows h [] (n ∷ ns) agents are = absurd are
all_rows h (b ∷ bs) [] agents are = absurd are
all_rows h (b ∷ bs) (n ∷ ns) [] are = absurd are
all_rows h (b ∷ bs) (n ∷ ns) (rows ∷ agents) are =
    λ i. own_rows b n h rows are.0 i ∷ all_rows h bs ns agents are.1 i

-- ---- answers

-- the joint policy that does the actions
abbrev pub said : Model → PolicyActions → SaidPolicy
said m p = record { horizon = p.horizon; trees = trees_of_rows p.horizon m.observations p.agents }

pub read_says : (m : Model) → IsModel m → (bytes : List ℕ) (p : PolicyActions)
    → text_from (policy_grammar m) 1 bytes ≡ Ok p
    → IsPolicyAnswer m bytes (Ok (said m p))
read_says m is bytes p e =
    let fits = read_fits m is bytes p e in
    let text = subst (IsAnswer (policy_grammar m) 1 bytes) e
    (read_answer (policy_grammar m) (policy_proper m is) 1 bytes) in
    let qs = trees_of_rows p.horizon m.observations p.agents in
    let policy : IsPolicyOf m p.horizon (trees_of_rows p.horizon m.observations p.agents) =
    trees_fit p.horizon m.actions m.observations p.agents fits.rows in
    let whole = policy_has_text m is p.horizon qs fits.some fits.wide policy in (
      record {
        policy = policy;
        allowed = whole.allowed;
        text =
            read_bytes m is bytes p text
            ∙ ap (policy_bytes p.horizon) (sym (all_rows p.horizon m.actions m.observations p.agents fits.rows))
            ∙ written_bytes m p.horizon qs policy;
      },
      fits.passes,
    )

fault_says : (m : Model) → IsModel m → (bytes : List ℕ) (fault : Fault TooLarge)
    → text_from (policy_grammar m) 1 bytes ≡ Err fault
    → IsPolicyAnswer m bytes (Err fault)
fault_says m is bytes (bad line why) e = subst (IsAnswer (policy_grammar m) 1 bytes) e
    (read_answer (policy_grammar m) (policy_proper m is) 1 bytes)
fault_says m is bytes (limit passed) e = subst (IsAnswer (policy_grammar m) 1 bytes) e
    (read_answer (policy_grammar m) (policy_proper m is) 1 bytes)

pub fails_says : (m : Model) → IsModel m → (bytes : List ℕ) (fault : PolicyFault)
    → Fails fault (text_from (policy_grammar m) 1 bytes)
    → HasPolicyFault m bytes fault
fails_says m is bytes (faults.At line why) e = fault_says m is bytes (bad line why) e
fails_says m is bytes (faults.TooLarge passed) e = fault_says m is bytes (limit passed) e
fails_says m is bytes faults.Memory e = tt

-- an answer is what is computed
pub said_is_computed : (m : Model) → IsModel m → (bytes : List ℕ) (p : SaidPolicy)
    → IsPolicyAnswer m bytes (Ok p)
    → text_from (policy_grammar m) 1 bytes ≡ Ok (record {
      horizon = p.horizon;
      agents = policy_actions p.horizon m.observations p.trees;
    })
said_is_computed m is bytes p answer =
    one_answer (policy_grammar m) (policy_proper m is) 1 bytes _
    (Ok (record { horizon = p.horizon; agents = policy_actions p.horizon m.observations p.trees }))
    (read_answer (policy_grammar m) (policy_proper m is) 1 bytes)
    (policy_text_says m is bytes p.horizon p.trees answer.0 answer.1)

pub fault_is_computed : (m : Model) → IsModel m → (bytes : List ℕ) (fault : Fault TooLarge)
    → IsPolicyAnswer m bytes (Err fault)
    → text_from (policy_grammar m) 1 bytes ≡ Err fault
fault_is_computed m is bytes (bad line why) answer =
    one_answer (policy_grammar m) (policy_proper m is) 1 bytes _ (Err (bad line why))
    (read_answer (policy_grammar m) (policy_proper m is) 1 bytes) answer
fault_is_computed m is bytes (limit passed) answer =
    one_answer (policy_grammar m) (policy_proper m is) 1 bytes _ (Err (limit passed))
    (read_answer (policy_grammar m) (policy_proper m is) 1 bytes) answer

-- ---- one answer

-- what is computed, as an answer
abbrev as_answer : Model → Result PolicyActions (Fault TooLarge) → Result SaidPolicy (Fault TooLarge)
as_answer m (Ok p) = Ok (said m p)
as_answer m (Err fault) = Err fault

answers : (m : Model) → IsModel m → (bytes : List ℕ) (r : Result PolicyActions (Fault TooLarge))
    → text_from (policy_grammar m) 1 bytes ≡ r
    → IsPolicyAnswer m bytes (as_answer m r)
answers m is bytes (Ok p) e = read_says m is bytes p e
answers m is bytes (Err fault) e = fault_says m is bytes fault e

no_other : (m : Model) → IsModel m → (bytes : List ℕ) (r : Result PolicyActions (Fault TooLarge))
    → text_from (policy_grammar m) 1 bytes ≡ r
    → (s : Result SaidPolicy (Fault TooLarge)) → IsPolicyAnswer m bytes s → as_answer m r ≡ s
no_other m is bytes (Ok p) e (Ok q) answer =
    let same = policy_text_injective m is bytes p.horizon q.horizon _ q.trees
    (read_says m is bytes p e).0 answer.0 in
    λ i. Ok (record { horizon = same.0 i; trees = same.1 i })
no_other m is bytes (Ok p) e (Err fault) answer =
    let other : Ok p ≡ Err fault = sym e ∙ fault_is_computed m is bytes fault answer in absurd cc
no_other m is bytes (Err fault) e (Ok q) answer =
    let other = sym e ∙ said_is_computed m is bytes q answer in absurd cc
no_other m is bytes (Err fault) e (Err other) answer =
    let same : Err fault ≡ Err other = sym e ∙ fault_is_computed m is bytes other answer in cc

pub each_policy_text : EachPolicyTextHasOneAnswer
each_policy_text m is bytes =
    let r = text_from (policy_grammar m) 1 bytes in
    (as_answer m r, answers m is bytes r refl, λ s answer. no_other m is bytes r refl s answer)
