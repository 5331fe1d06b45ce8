-- Certificates that were read: they are certificates of the model, and their lines.
use Rattle.std.proofs.Common.{◌≡◌, ℕ, zero, suc, ◌*◌, ◌-◌, ◌^◌, ◌<◌, ◌≤◌, Bool, true, false, cond, List, [], ◌∷◌}
use Rattle.std.proofs.Common.{◌++◌, length, get_or, Result, Ok, Err, refl, sym, ap, subst, ◌∙◌, arith}
use Rattle.std.specs.Prelude.{◌⊎◌, ◌==◌, replicate, IfOk, None, codes}
use Rattle.std.specs.List.{AllByRecursion}
use Rattle.std.proofs.Math.Nat.{mul-le-mul_left, pow-le-pow_right}
use Rattle.std.proofs.lemmas.Bool.Decides.{nat_tests}
use Rattle.std.proofs.lemmas.List.{length-append}
use Rattle.dp_spec.specs.BoundTree.{BoundTree, HasSmallBranches, depth_of, node_count}
use Rattle.dp_spec.specs.Certificate.{Certificate, HasPolicyOfVersion, IsCertificateOf}
use Rattle.dp_spec.specs.CertificateText.{head_lines, node_lines}
use Rattle.dp_spec.specs.JointNumbers.{product}
use Rattle.dp_spec.specs.Mode.{IsWithinLimits, IsWithinVersion}
use Rattle.dp_spec.specs.Model.{IsModel, Model, joint_actions, joint_observations}
use Rattle.dp_spec.specs.PlainForm.{IsPlain}
use Rattle.dp_spec.specs.PolicyText.{agent_lines, end_form, horizon_form, title_form}
use Rattle.dp_spec.specs.SharedPolicy.{IsSharedOf, SharedPolicy, row_counts}
use Rattle.dp_spec.specs.SharedRows.{shared_policy_rows}
use Rattle.dp_spec.specs.TextLines.{Line, fixed, fixed_line}
use Rattle.dp_spec.proofs.JointNumberLaws.{positive_left, positive_right}
use Rattle.dp_spec.proofs.ModelLaws.{some_joint_observation}
use Rattle.dp_model.specs.declared.limit.TooLarge.{TooLarge}
use Rattle.dp_laws.proofs.PlainForms.{plain_joint_rows}
use Rattle.dp_lines.specs.Grammar.{Fault, IsText, ends, ◌>>=◌}
use Rattle.dp_lines.specs.Scanning.{Rest, front_of, text_from, whole}
use Rattle.dp_lines.proofs.OneAnswer.{one_answer, read_answer}
use Rattle.dp_policy.proofs.ReadBytes.{same_rest, split}
use Rattle.dp_cert.specs.declared.fault.CertFault.{CertFault}
use Rattle.dp_cert.specs.CertificateGrammar.{certificate_from, certificate_grammar, head_grammar, horizon_grammar}
use Rattle.dp_cert.specs.CertificateGrammar.{horizon_passed, title_grammar, tree_grammar, tree_lines}
use Rattle.dp_cert.specs.PolicyGrammar.{plain_agents, policy_grammar, shared_agents}
use Rattle.dp_cert.specs.Reading.{Gives}
use Rattle.dp_lines.specs.Reading.{rest_at}
use Rattle.dp_lines.specs.Steps.{the_words}
use Rattle.dp_cert.proofs.CertificateAnswers.{certificate_proper}
use Rattle.dp_cert.proofs.CertificateParts.{behind_head, behind_horizon, behind_policy, behind_tree, behind_version}
use Rattle.dp_cert.proofs.CertificateParts.{from_version, kept_steps, kept_version_one, policy_one, policy_two}
use Rattle.dp_cert.proofs.ReadHeads.{head_read, horizon_read, lines_of_head, title_read}
use Rattle.dp_cert.proofs.ReadLines.{AreLines, few_lines, line_then, lines_then, no_lines, words_read}
use Rattle.dp_cert.proofs.ReadPlainRows.{plain_lines, plain_read}
use Rattle.dp_cert.proofs.ReadSharedRows.{shared_read}
use Rattle.dp_cert.proofs.ReadTrees.{node_line_count, tree_read}

-- ---- the policy

-- for each agent the lines of its rows
abbrev pub rows_lines : Model → ℕ → SharedPolicy → List (List Line)
rows_lines m version p =
    cond (version == 1) (plain_lines m.actions m.observations p) (shared_policy_rows m.actions m.observations p)

-- a policy of a version, and its lines
pub record IsPolicyRead (m : Model) (version h : ℕ) (p : SharedPolicy) (bytes more : List ℕ) : Type 0 where
  pub shared : IsSharedOf m h p
  pub plain : version ≡ 1 → IsPlain m h p
  pub lines : AreLines (agent_lines 0 (rows_lines m version p)) bytes more

all_some : (ns : List ℕ) → 0 < product ns → AllByRecursion (λ (n : ℕ). 0 < n) ns
all_some [] some = tt
all_some (n ∷ ns) some = (
  positive_left n (product ns) 0 some,
  all_some ns (positive_right n (product ns) 0 some),
)

some_actions : (m : Model) → IsModel m → AllByRecursion (λ (n : ℕ). 0 < n) m.actions
unfolding joint_actions
some_actions m is = all_some m.actions is.sizes.some_action

some_observations : (m : Model) → IsModel m → AllByRecursion (λ (n : ℕ). 0 < n) m.observations
unfolding joint_observations
some_observations m is = all_some m.observations (some_joint_observation m is)

version_one : (m : Model) → IsModel m → (version h line : ℕ) (bytes : List ℕ) (rest : Rest SharedPolicy)
    → version ≡ 1
    → IsWithinLimits m h → front_of (plain_agents h 0 m.actions m.observations) line bytes ≡ Ok rest
    → IsPolicyRead m version h rest.value bytes rest.bytes
unfolding joint_observations
version_one m is version h line bytes rest one within e =
    let few = is.sizes.agents_limit in
    let read = plain_read h 0 m.actions m.observations line bytes rest within.some_step (omega (arith, few))
    is.sizes.alike
    (some_actions m is) (some_observations m is) e in
    let O = product m.observations in
    let seen : 0 < O = some_joint_observation m is in
    let limit : m.states * O ^ (h - 1) ≤ 2 ^ 22 = within.stage_cells in
    record {
      shared = record {
        agents = read.agents;
        cells = λ t lt.
            let count = plain_joint_rows read.plain t lt in
            let fewer : O ^ t ≤ O ^ (h - 1) = pow-le-pow_right seen (omega arith) in
            let cells : m.states * O ^ t ≤ m.states * O ^ (h - 1) = mul-le-mul_left m.states fewer in
            subst (λ (k : ℕ). m.states * k ≤ 2 ^ 22) (sym count) (omega arith);
      };
      plain = λ v. read.plain;
      lines = subst (λ (b : Bool). AreLines (agent_lines 0 (cond b
          (plain_lines m.actions m.observations rest.value)
          (shared_policy_rows m.actions m.observations rest.value))) bytes rest.bytes)
          (sym (is_one version one))
          read.lines;
    }
  where
    is_one : (v : ℕ) → v ≡ 1 → (v == 1) ≡ true
    is_one v same = rw same refl

state_few : (s h : ℕ) → s ≤ 2 ^ 22 → AllByRecursion (λ (k : ℕ). k ≤ 2 ^ 22) (replicate h s)
state_few s zero le = tt
state_few s (suc h) le = (le, state_few s h le)

state_at : (s h t : ℕ) → t < h → get_or (replicate h s) t 0 ≡ s
state_at s zero t lt = absurd (omega arith)
state_at s (suc h) zero lt = refl
state_at s (suc h) (suc t) lt = state_at s h t (omega arith)

version_two : (m : Model) → IsModel m → (version h line : ℕ) (bytes : List ℕ) (rest : Rest SharedPolicy)
    → (version ≡ 1 → ⊥) → 0 < h → front_of (shared_agents h 0 (replicate h m.states) m.actions m.observations)
    line bytes ≡ Ok rest
    → IsPolicyRead m version h rest.value bytes rest.bytes
version_two m is version h line bytes rest other some e =
    let few = is.sizes.agents_limit in
    let states = is.sizes.states_limit in
    let read = shared_read h 0 (replicate h m.states) m.actions m.observations line bytes rest some
    (omega (arith, few))
    is.sizes.alike (some_actions m is) (state_few m.states h (omega (arith, states))) e in
    record {
      shared = record {
        agents = read.agents;
        cells = λ t lt. subst (λ (s : ℕ). s * product (row_counts rest.value t) ≤ 2 ^ 22)
            (state_at m.states h t lt)
            (read.within t lt);
      };
      plain = λ one. absurd (other one);
      lines = subst (λ (b : Bool). AreLines (agent_lines 0 (cond b
          (plain_lines m.actions m.observations rest.value)
          (shared_policy_rows m.actions m.observations rest.value))) bytes rest.bytes)
          (sym (not_one version other)) read.lines;
    }
  where
    not_one : (v : ℕ) → (v ≡ 1 → ⊥) → (v == 1) ≡ false
    not_one v differ = grind (arith, nat_tests)

pub policy_read : (m : Model) → IsModel m → (version h line : ℕ) (bytes : List ℕ) (rest : Rest SharedPolicy)
    → 1 ≤ h
    → horizon_passed m version h ≡ None → front_of (policy_grammar m version h) line bytes ≡ Ok rest
    → IsPolicyRead m version h rest.value bytes rest.bytes
policy_read m is version h line bytes rest some kept e = by_version (version == 1) refl
  where
    by_version : (b : Bool) → (version == 1) ≡ b → IsPolicyRead m version h rest.value bytes rest.bytes
    by_version true first =
        let one : version ≡ 1 = grind (arith, nat_tests) in
        version_one m is version h line bytes rest one (kept_version_one m version h one some kept)
        (sym (ap (λ g. front_of g line bytes) (policy_one m version h one)) ∙ e)
    by_version false later =
        let other : version ≡ 1 → ⊥ = λ one. differ version one later in
        version_two m is version h line bytes rest other (omega (arith, some))
        (sym (ap (λ g. front_of g line bytes) (policy_two m version h other)) ∙ e)
      where
        differ : (v : ℕ) → v ≡ 1 → (v == 1) ≡ false → ⊥
        differ v one none = grind (arith, nat_tests)

-- ---- the tree

-- the lines behind the policy
abbrev pub tree_part_lines : BoundTree → List Line
tree_part_lines T = fixed_line (fixed (codes "tree") ∷ []) ∷ (node_lines T ++ fixed_line end_form ∷ [])

record IsTreeRead (T : BoundTree) (bytes more : List ℕ) : Type 0 where
  depth : depth_of T ≤ 2048
  children : HasSmallBranches T
  lines : AreLines (tree_part_lines T) bytes more

tree_part_read : (line : ℕ) (bytes : List ℕ) (rest : Rest BoundTree)
    → front_of tree_grammar line bytes ≡ Ok rest
    → IsTreeRead rest.value bytes rest.bytes
tree_part_read line bytes rest e =
    let s = split (the_words (codes "tree" ∷ [])) (λ title. tree_lines 2048 >>= λ tree. the_words
    (codes "end" ∷ [])
    >>= λ end. ends tree) line bytes rest e in
    let title = words_read (codes "tree" ∷ []) line bytes s.mid (assumption, tt) s.front in
    let t = split (tree_lines 2048) (λ tree. the_words (codes "end" ∷ []) >>= λ end. ends tree)
    s.mid.line s.mid.bytes rest
    s.behind in
    let tree = tree_read 2048 s.mid.line s.mid.bytes t.mid t.front in
    let u = split (the_words (codes "end" ∷ [])) (λ end. ends t.mid.value)
    t.mid.line t.mid.bytes rest t.behind in
    let end = words_read (codes "end" ∷ []) t.mid.line t.mid.bytes u.mid (assumption, tt) u.front in
    let one : Rest BoundTree = rest_at t.mid.value u.mid.line u.mid.bytes in
    let lines = line_then (fixed (codes "tree") ∷ []) [] (node_lines t.mid.value ++ fixed_line end_form ∷ [])
    bytes
    s.mid.bytes u.mid.bytes title
    (lines_then (node_lines t.mid.value) (fixed_line end_form ∷ [])
    s.mid.bytes t.mid.bytes u.mid.bytes tree.lines
    (line_then end_form [] [] t.mid.bytes u.mid.bytes u.mid.bytes end (no_lines u.mid.bytes))) in
    subst (λ (r : Rest BoundTree). IsTreeRead r.value bytes r.bytes) (same_rest one rest u.behind)
    (record {
      depth = tree.depth;
      children = tree.children;
      lines = lines;
    })

-- ---- the whole text

-- the lines of a certificate
abbrev pub lines_read : Model → Certificate → List Line
lines_read m c =
    head_lines c
    ++ fixed_line (fixed (codes "policy") ∷ [])
    ∷ (agent_lines 0 (rows_lines m c.version c.policy) ++ tree_part_lines c.tree)

-- a certificate of the model, but that its nodes are at most as many as the bytes, and its lines
pub record IsRead (m : Model) (c : Certificate) (bytes more : List ℕ) : Type 0 where
  pub within : IsWithinVersion m c.horizon c.version
  pub look : (1 ≤ c.look) × (c.look ≤ 16)
  pub policy : HasPolicyOfVersion m c
  pub nodes : node_count c.tree ≤ length bytes
  pub depth : depth_of c.tree ≤ 2048
  pub children : HasSmallBranches c.tree
  pub lines : AreLines (lines_read m c) bytes more

all_nodes : (m : Model) (c : Certificate) (bytes more : List ℕ) → AreLines (lines_read m c) bytes more
    → node_count c.tree ≤ length bytes
all_nodes m c bytes more are =
    let all = few_lines (lines_read m c) bytes more are in
    let rows = agent_lines 0 (rows_lines m c.version c.policy) in
    let d = length-append (head_lines c) (fixed_line (fixed (codes "policy") ∷ []) ∷ (rows
    ++ tree_part_lines c.tree)) in
    let e = length-append rows (tree_part_lines c.tree) in
    let f = length-append (node_lines c.tree) (fixed_line end_form ∷ []) in
    let k = node_line_count c.tree in
    omega (arith, all, d, e, f, k)

within_version : (m : Model) (version h : ℕ) → (version ≡ 1) ⊎ (version ≡ 2) → 1 ≤ h
    → horizon_passed m version h ≡ None
    → IsWithinVersion m h version
within_version m version h known some kept = record {
  known = known;
  first = λ one. kept_version_one m version h one some kept;
  second = λ two. (omega (arith, some), kept_steps m version h kept);
}

pub certificate_read : (m : Model) → IsModel m → (line : ℕ) (bytes : List ℕ) (rest : Rest Certificate)
    → front_of (certificate_grammar m) line bytes ≡ Ok rest → IsRead m rest.value bytes rest.bytes
certificate_read m is line bytes rest e =
    let whole_text : front_of (title_grammar >>= behind_version m) line bytes ≡ Ok rest =
    sym (ap (λ g. front_of g line bytes) (from_version m)) ∙ e in
    let s = split title_grammar (behind_version m) line bytes rest whole_text in
    let version = s.mid.value in
    let title = title_read line bytes s.mid s.front in
    let t = split (horizon_grammar m version) (behind_horizon m version) s.mid.line s.mid.bytes rest s.behind in
    let h = t.mid.value in
    let horizon = horizon_read m version s.mid.line s.mid.bytes t.mid t.front in
    let u = split head_grammar (behind_head m version h) t.mid.line t.mid.bytes rest t.behind in
    let head = head_read t.mid.line t.mid.bytes u.mid u.front in
    let v = split (policy_grammar m version h) (behind_policy version h u.mid.value)
    u.mid.line u.mid.bytes rest u.behind in
    let policy = policy_read m is version h u.mid.line u.mid.bytes v.mid horizon.some horizon.kept v.front in
    let w = split tree_grammar (behind_tree version h u.mid.value v.mid.value)
    v.mid.line v.mid.bytes rest v.behind in
    let tree = tree_part_read v.mid.line v.mid.bytes w.mid w.front in
    let c = certificate_from version h u.mid.value v.mid.value w.mid.value in
    let one : Rest Certificate = rest_at c w.mid.line w.mid.bytes in
    let behind = lines_then (agent_lines 0 (rows_lines m version v.mid.value)) (tree_part_lines w.mid.value)
    u.mid.bytes
    v.mid.bytes w.mid.bytes policy.lines tree.lines in
    let lines : AreLines (lines_read m c) bytes w.mid.bytes =
    line_then (title_form (codes "certificate") version) [] _ bytes s.mid.bytes w.mid.bytes title.line
    (line_then horizon_form _ _ s.mid.bytes t.mid.bytes w.mid.bytes horizon.line
    (lines_then (lines_of_head u.mid.value) _ t.mid.bytes u.mid.bytes w.mid.bytes head.lines behind)) in
    subst (λ (r : Rest Certificate). IsRead m r.value bytes r.bytes) (same_rest one rest w.behind)
    (record {
      within = within_version m version h title.known horizon.some horizon.kept;
      look = (head.look_least, head.look_most);
      policy = record { version = title.known; shared = policy.shared; plain = policy.plain };
      nodes = all_nodes m c bytes w.mid.bytes lines;
      depth = tree.depth;
      children = tree.children;
      lines = lines;
    })

-- ---- what a text says

whole_read : (rest : Rest Certificate) (c : Certificate) → (let one : Result Certificate (Fault TooLarge) =
    whole rest in one ≡ Ok c)
    → (rest.value ≡ c) × (rest.bytes ≡ [])
whole_read rest c e = by_bytes rest.bytes refl e
  where
    by_bytes : (bytes : List ℕ) → rest.bytes ≡ bytes
        → (let one : Result Certificate (Fault TooLarge) = whole (record rest { bytes = bytes }) in one ≡ Ok c)
        → (rest.value ≡ c) × (rest.bytes ≡ [])
    by_bytes [] is f = ((let g : rest.value ≡ c = cc in g), is)
    by_bytes (b ∷ bytes) is f = absurd cc

-- what is read of a whole text
pub text_read : (m : Model) → IsModel m → (bytes : List ℕ) (c : Certificate)
    → text_from (certificate_grammar m) 1 bytes ≡ Ok c → IsRead m c bytes []
text_read m is bytes c e = by_front (front_of (certificate_grammar m) 1 bytes) refl e
  where
    by_front : (r : Result (Rest Certificate) (Fault TooLarge)) → front_of (certificate_grammar m) 1 bytes ≡ r
        → (elim r as (λ r. Result Certificate (Fault TooLarge))
        [ Ok rest ↦ whole rest | Err fault ↦ Err fault ])
        ≡ Ok c
        → IsRead m c bytes []
    by_front (Ok rest) at f =
        let w = whole_read rest c f in
        subst (λ (more : List ℕ). IsRead m c bytes more) w.1
        (subst (λ (v : Certificate). IsRead m v bytes rest.bytes) w.0 (certificate_read m is 1 bytes rest at))
    by_front (Err fault) at f = absurd cc

-- what a text says is what is read of it
text_is_read : (m : Model) → IsModel m → (bytes : List ℕ) (c : Certificate)
    → IsText (certificate_grammar m) bytes c
    → text_from (certificate_grammar m) 1 bytes ≡ Ok c
text_is_read m is bytes c says =
    let few = is.sizes.agents_limit in
    let proper = certificate_proper m (omega (arith, few)) in
    one_answer (certificate_grammar m) proper 1 bytes (text_from (certificate_grammar m) 1 bytes) (Ok c)
    (read_answer (certificate_grammar m) proper 1 bytes) says

-- what is read of at most 2^28 bytes is a certificate of the model
read_fits : (m : Model) → IsModel m → (bytes : List ℕ) (c : Certificate) → length bytes ≤ 2 ^ 28
    → text_from (certificate_grammar m) 1 bytes ≡ Ok c → IsCertificateOf m c
read_fits m is bytes c few e =
    let read = text_read m is bytes c e in
    let nodes = read.nodes in
    record {
      within = read.within;
      look = read.look;
      policy = read.policy;
      nodes = omega (arith, nodes, few);
      depth = read.depth;
      children = read.children;
    }

-- a text of at most 2^28 bytes says a certificate of the model
pub texts_fit : (m : Model) → IsModel m → (bytes : List ℕ) (c : Certificate) → length bytes ≤ 2 ^ 28
    → IsText (certificate_grammar m) bytes c → IsCertificateOf m c
texts_fit m is bytes c few says = read_fits m is bytes c few (text_is_read m is bytes c says)

-- as the code tells it
pub given_fits : {X : Type 0} (view : X → Certificate) (r : Result X CertFault) (m : Model) → IsModel m
    → (bytes : List ℕ)
    → length bytes ≤ 2 ^ 28 → Gives view r (text_from (certificate_grammar m) 1 bytes)
    → IfOk r (λ x. IsCertificateOf m (view x))
given_fits view (Ok x) m is bytes few gives = read_fits m is bytes (view x) few gives
given_fits view (Err fault) m is bytes few gives = tt
