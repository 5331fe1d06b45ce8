-- A limit that a certificate text passes is none on the bytes of a file.
use Rattle.std.proofs.Common.{◌≡◌, ℕ, zero, suc, ◌+◌, ◌^◌, Bool, true, false, cond, List, [], ◌∷◌, map, Option, Some}
use Rattle.std.proofs.Common.{None, Err, refl}
use Rattle.std.specs.Prelude.{ℤ, unsigned_abs, replicate, nat_lt, option_map, codes, ◌==◌}
use Rattle.dp_spec.specs.BoundTree.{BoundTree, branch, merge, more_bound_trees}
use Rattle.dp_spec.specs.Model.{Model}
use Rattle.dp_spec.specs.SharedRows.{first_past, products, shared_row_form}
use Rattle.dp_model.specs.declared.limit.Limit.TheVariants.{Horizon, PolicyCells}
use Rattle.dp_model.specs.declared.limit.TooLarge.{TooLarge}
use Rattle.dp_model.specs.Horizons.{horizon_limits, long_horizon_passed}
use Rattle.dp_model.specs.Limits.{first_passed}
use Rattle.dp_lines.specs.Grammar.{ends, limit, ◌>>=◌}
use Rattle.dp_lines.specs.Scanning.{text_from}
use Rattle.dp_cert.specs.CertificateGrammar.{branch_below, certificate_grammar, head_grammar, horizon_grammar}
use Rattle.dp_cert.specs.CertificateGrammar.{horizon_passed, leaf_only, merge_below, node_below, repeated}
use Rattle.dp_cert.specs.CertificateGrammar.{title_grammar, tree_grammar, tree_lines}
use Rattle.dp_cert.specs.PolicyGrammar.{cells_passed, counts_grammar, first_of_counts, nexts_before, plain_agent}
use Rattle.dp_cert.specs.PolicyGrammar.{plain_agents, plain_stage, plain_stages, policy_grammar, row_line}
use Rattle.dp_cert.specs.PolicyGrammar.{rows_of_form, shared_agents, shared_stages}
use Rattle.dp_lines.specs.Steps.{and_then, first_plain, the_words, unless_passed}
use Rattle.dp_cert.specs.PolicyGrammar.{Text}
use Rattle.dp_cert.proofs.CertificateParts.{behind_head, behind_horizon, behind_policy, behind_tree, behind_version}
use Rattle.dp_cli.proofs.FileLimits.{IsOther, horizon_is_other, is_of_file}
use Rattle.dp_cli.proofs.PolicyLimits.{AreOther, AreOther-bind, text_limit}

-- ---- the horizon and the policy

unless_other : (o : Option TooLarge) → IsOther o → AreOther (unless_passed o)
unless_other None is = tt
unless_other (Some passed) is = is

long_is_other : (h : ℕ) → IsOther (long_horizon_passed h)
long_is_other h = by (nat_lt 24 h)
  where
    by : (b : Bool) → IsOther (cond b (Some (record { what = Horizon; count = h })) None)
    by true = refl
    by false = tt

pub passed_is_other : (m : Model) (version h : ℕ) → IsOther (horizon_passed m version h)
unfolding horizon_passed
passed_is_other m version h = by (version == 1)
  where
    by : (b : Bool) → IsOther (cond b (first_passed (horizon_limits m h)) (long_horizon_passed h))
    by true = horizon_is_other m h
    by false = long_is_other h

cells_are_other : (cells : List ℕ) → IsOther (cells_passed cells)
unfolding cells_passed
cells_are_other cells = by (first_past (2 ^ 22) cells)
  where
    by : (o : Option ℕ) → IsOther (option_map (λ count. record { what = PolicyCells; count = count }) o)
    by (Some count) = refl
    by None = tt

and_other : {A : Type 0} (g : Text A) (G : Text (List A)) → AreOther g → AreOther G → AreOther (and_then g G)
and_other g G p q =
    AreOther-bind g (λ x. G >>= λ xs. ends (x ∷ xs)) p (λ x. AreOther-bind G (λ xs. ends (x ∷ xs)) q (λ xs. tt))

stages_other : (b n h t left : ℕ) → AreOther (plain_stages b n h t left)
stages_other b n h t zero = tt
stages_other b n h t (suc left) =
    and_other (plain_stage b n h t) (plain_stages b n h (t + 1) left) (λ k zs. tt)
    (stages_other b n h (t + 1) left)

plain_other : (h agent : ℕ) (bs ns : List ℕ) → AreOther (plain_agents h agent bs ns)
plain_other h agent [] ns = tt
plain_other h agent (b ∷ bs) [] = tt
plain_other h agent (b ∷ bs) (n ∷ ns) =
    and_other (plain_agent h agent b n) (plain_agents h (agent + 1) bs ns) (λ k zs. stages_other b n h 0 h)
    (plain_other h (agent + 1) bs ns)

rows_other : (form : _) (count : ℕ) → AreOther (rows_of_form form count)
rows_other form zero = tt
rows_other form (suc left) = and_other (row_line form) (rows_of_form form left) (λ k zs. tt)
    (rows_other form left)

shared_other : (b n : ℕ) (counts : List ℕ) → AreOther (shared_stages b n counts)
shared_other b n [] = tt
shared_other b n (count ∷ counts) =
    and_other (rows_of_form (shared_row_form b (nexts_before n counts) (first_of_counts counts)) count)
    (shared_stages b n counts)
    (rows_other _ count) (shared_other b n counts)

counts_other : (h agent : ℕ) (cells : List ℕ) → AreOther (counts_grammar h agent cells)
counts_other h agent cells = λ k zs j ys.
    AreOther-bind (unless_passed (cells_passed (products cells (map unsigned_abs ys))))
    (λ kept. ends (map unsigned_abs ys))
    (unless_other (cells_passed (products cells (map unsigned_abs ys)))
    (cells_are_other (products cells (map unsigned_abs ys)))) (λ kept. tt)

agents_other : (h agent : ℕ) (cells bs ns : List ℕ) → AreOther (shared_agents h agent cells bs ns)
agents_other h agent cells [] ns = tt
agents_other h agent cells (b ∷ bs) [] = tt
agents_other h agent cells (b ∷ bs) (n ∷ ns) =
    AreOther-bind (counts_grammar h agent cells)
    (λ counts. and_then (shared_stages b n counts) (shared_agents h (agent + 1) (products cells counts) bs ns))
    (counts_other h agent cells)
    (λ counts. and_other (shared_stages b n counts) (shared_agents h (agent + 1) (products cells counts) bs ns)
    (shared_other b n counts)
    (agents_other h (agent + 1) (products cells counts) bs ns))

policy_other : (m : Model) (version h : ℕ) → AreOther (policy_grammar m version h)
unfolding policy_grammar
policy_other m version h = by (version == 1)
  where
    by : (v : Bool) → AreOther
        (cond v (plain_agents h 0 m.actions m.observations)
        (shared_agents h 0 (replicate h m.states) m.actions m.observations))
    by true = plain_other h 0 m.actions m.observations
    by false = agents_other h 0 (replicate h m.states) m.actions m.observations

-- ---- the tree

repeated_other : (tree : Text BoundTree) (count : ℕ) → AreOther tree → AreOther (repeated tree count)
repeated_other tree zero p = tt
repeated_other tree (suc left) p =
    AreOther-bind tree (λ first. repeated tree left >>= λ others. ends (more_bound_trees first others)) p
    (λ first. AreOther-bind (repeated tree left) (λ others. ends (more_bound_trees first others))
    (repeated_other tree left p) (λ others. tt))

only_other : (k : ℕ) (zs : List ℤ) → AreOther (leaf_only k zs)
only_other zero zs = tt
only_other (suc k) zs = refl

branch_other : (below : Text BoundTree) (zs : List ℤ) → AreOther below → AreOther (branch_below below zs)
branch_other below [] p = tt
branch_other below (i ∷ []) p = tt
branch_other below (i ∷ c ∷ []) p = tt
branch_other below (i ∷ c ∷ k ∷ []) p =
    AreOther-bind (repeated below (unsigned_abs k)) (λ kids. ends
    (branch (unsigned_abs i) (unsigned_abs c) kids))
    (repeated_other below (unsigned_abs k) p) (λ kids. tt)
branch_other below (i ∷ c ∷ k ∷ z ∷ zs) p = tt

merge_other : (below : Text BoundTree) (zs : List ℤ) → AreOther below → AreOther (merge_below below zs)
merge_other below [] p = tt
merge_other below (i ∷ []) p = tt
merge_other below (i ∷ a ∷ []) p = tt
merge_other below (i ∷ a ∷ b ∷ []) p =
    AreOther-bind below (λ kid. ends (merge (unsigned_abs i) (unsigned_abs a) (unsigned_abs b) kid)) p
    (λ kid. tt)
merge_other below (i ∷ a ∷ b ∷ z ∷ zs) p = tt

node_other : (below : Text BoundTree) (k : ℕ) (zs : List ℤ) → AreOther below → AreOther (node_below below k zs)
node_other below zero zs p = tt
node_other below (suc zero) zs p = branch_other below zs p
node_other below (suc (suc k)) zs p = merge_other below zs p

tree_other : (left : ℕ) → AreOther (tree_lines left)
tree_other zero = only_other
tree_other (suc left) = λ k zs. node_other (tree_lines left) k zs (tree_other left)

part_other : AreOther tree_grammar
part_other = λ k zs.
    AreOther-bind (tree_lines 2048) (λ tree. the_words (codes "end" ∷ []) >>= λ end. ends tree)
    (tree_other 2048)
    (λ tree i ys. tt)

-- ---- the whole text

horizon_other : (m : Model) (version : ℕ) → AreOther (horizon_grammar m version)
horizon_other m version = λ k zs.
    AreOther-bind (unless_passed (horizon_passed m version (first_plain zs))) (λ kept. ends (first_plain zs))
    (unless_other (horizon_passed m version (first_plain zs)) (passed_is_other m version (first_plain zs)))
    (λ kept. tt)

head_other : AreOther head_grammar
head_other = λ k1 z1 k2 z2 k3 z3 k4 z4 k5 z5 k6 z6 k7 z7. tt

certificate_other : (m : Model) → AreOther (certificate_grammar m)
unfolding certificate_grammar
certificate_other m =
    AreOther-bind title_grammar (behind_version m) (λ k zs. tt)
    (λ version. AreOther-bind (horizon_grammar m version) (behind_horizon m version) (horizon_other m version)
    (λ h. AreOther-bind head_grammar (behind_head m version h) head_other
    (λ head. AreOther-bind (policy_grammar m version h) (behind_policy version h head)
    (policy_other m version h)
    (λ policy. AreOther-bind tree_grammar (behind_tree version h head policy) part_other (λ tree. tt)))))

pub limit_of_certificate : (m : Model) (bytes : List ℕ) (passed : TooLarge)
    → text_from (certificate_grammar m) 1 bytes ≡ Err (limit passed) → is_of_file passed.what ≡ false
limit_of_certificate m bytes passed e = text_limit (certificate_grammar m) bytes passed (certificate_other m) e
