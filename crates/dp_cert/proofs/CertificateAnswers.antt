-- Certificate texts have one answer.
use Rattle.std.proofs.Common.{◌≡◌, ℕ, zero, suc, ◌+◌, ◌^◌, ◌<◌, Bool, true, false, cond, List, [], ◌∷◌, length, map}
use Rattle.std.proofs.Common.{Result, Ok, Err, refl, subst, arith}
use Rattle.std.specs.Prelude.{ℤ, replicate, codes, unsigned_abs, ◌==◌}
use Rattle.std.specs.Fmt.{decimal}
use Rattle.std.proofs.lemmas.Fmt.{decimal_digit}
use Rattle.dp_spec.specs.BoundTree.{BoundTree, branch, merge, more_bound_trees}
use Rattle.dp_spec.specs.Model.{Model}
use Rattle.dp_spec.specs.PlainForm.{observations_after}
use Rattle.dp_spec.specs.PolicyText.{horizon_form, row_form, title_form}
use Rattle.dp_spec.specs.SharedRows.{counts_form, products, shared_row_form}
use Rattle.dp_spec.specs.TextLines.{Item}
use Rattle.dp_spec.specs.CertificateText.{look_form, signed_form, inner_form}
use Rattle.dp_model.specs.declared.limit.TooLarge.{TooLarge}
use Rattle.dp_lines.specs.Grammar.{ends, ◌>>=◌, IsAnswer}
use Rattle.dp_lines.specs.Scanning.{text_from}
use Rattle.dp_lines.proofs.SpelledLines.{HasItems}
use Rattle.dp_lines.proofs.LineAnswers.{words_have_items}
use Rattle.dp_lines.proofs.FirstLines.{AreProper, are_apart}
use Rattle.dp_lines.proofs.ProperTexts.{words_proper, numbers_proper, unless_proper, and_proper, replicate_items}
use Rattle.dp_lines.proofs.OneAnswer.{IsProper, IsProper-bind, read_answer, one_answer}
use Rattle.dp_cert.specs.declared.fault.CertFault.{CertFault}
use Rattle.dp_cert.specs.declared.fault.CertFault.TheVariants as faults
use Rattle.dp_cert.specs.CertificateGrammar.{branch_below, certificate_grammar, head_grammar, horizon_grammar}
use Rattle.dp_cert.specs.CertificateGrammar.{horizon_passed, leaf_only, merge_below, node_below, node_forms, repeated}
use Rattle.dp_cert.specs.CertificateGrammar.{title_grammar, tree_grammar, tree_lines}
use Rattle.dp_cert.specs.CertificateLaws.{EachCertificateTextHasOneAnswer}
use Rattle.dp_policy.specs.PolicyGrammar.{agent_words}
use Rattle.dp_cert.specs.PolicyGrammar.{cells_passed, counts_grammar, first_of_counts, nexts_before, plain_agent}
use Rattle.dp_cert.specs.PolicyGrammar.{plain_agents, plain_stage, plain_stages, policy_grammar, row_line, row_of}
use Rattle.dp_cert.specs.PolicyGrammar.{rows_from, rows_of_form, shared_agents, shared_stages, Text}
use Rattle.dp_cert.specs.Reading.{Gives, Answers}
use Rattle.dp_lines.specs.Steps.{and_then, first_plain, the_numbers, the_words, unless_passed}
use Rattle.dp_policy.proofs.AgentParts.{agent_words_are}
use Rattle.dp_cert.proofs.CertificateParts.{behind_head, behind_horizon, behind_policy, behind_tree, behind_version}
use Rattle.dp_cert.proofs.TitleLines.{one_is_word, two_is_word}

-- ---- the policy

stage_proper : (b n h t : ℕ) → IsProper (plain_stage b n h t)
stage_proper b n h t =
    IsProper-bind {L = TooLarge} (the_numbers (row_form b n t)) (λ zs. ends
    (rows_from n (observations_after n h t) 0 (map unsigned_abs zs)))
    (numbers_proper TooLarge (row_form b n t) (replicate_items (n ^ t) 0 _)) (λ zs. tt)

stages_proper : (b n h t left : ℕ) → IsProper (plain_stages b n h t left)
stages_proper b n h t zero = tt
stages_proper b n h t (suc left) =
    and_proper (plain_stage b n h t) (plain_stages b n h (t + 1) left) (stage_proper b n h t)
    (stages_proper b n h (t + 1) left)

plain_proper : (h agent : ℕ) (bs ns : List ℕ) → agent + length bs < 10 ^ 64
    → IsProper (plain_agents h agent bs ns)
plain_proper h agent [] ns few = tt
plain_proper h agent (b ∷ bs) [] few = tt
plain_proper h agent (b ∷ bs) (n ∷ ns) few =
    and_proper (plain_agent h agent b n) (plain_agents h (agent + 1) bs ns)
    (IsProper-bind (the_words (agent_words agent)) (λ t. plain_stages b n h 0 h)
    (words_proper TooLarge (agent_words agent) (agent_words_are agent (omega arith)))
    (λ t. stages_proper b n h 0 h))
    (plain_proper h (agent + 1) bs ns (omega arith))

pub counts_items : (h : ℕ) → HasItems (counts_form h)
counts_items zero = (assumption, tt)
counts_items (suc later) = (assumption, replicate_items later 1 (2 ^ 22))

rows_proper : (form : List Item) (count : ℕ) → HasItems form → IsProper (rows_of_form form count)
rows_proper form zero has = tt
rows_proper form (suc left) has =
    and_proper (row_line form) (rows_of_form form left)
    (IsProper-bind {L = TooLarge} (the_numbers form) (λ zs. ends (row_of zs)) (numbers_proper TooLarge form has)
    (λ zs. tt))
    (rows_proper form left has)

shared_proper : (b n : ℕ) (counts : List ℕ) → IsProper (shared_stages b n counts)
shared_proper b n [] = tt
shared_proper b n (count ∷ counts) =
    let form = shared_row_form b (nexts_before n counts) (first_of_counts counts) in
    and_proper (rows_of_form form count) (shared_stages b n counts)
    (rows_proper form count (replicate_items (nexts_before n counts) 0 _)) (shared_proper b n counts)

grammar_proper : (h agent : ℕ) (cells : List ℕ) → agent < 10 ^ 64 → IsProper (counts_grammar h agent cells)
grammar_proper h agent cells few =
    IsProper-bind (the_words (agent_words agent)) (λ t. the_numbers (counts_form h) >>= λ zs. unless_passed
    (cells_passed (products cells (map unsigned_abs zs))) >>= λ kept. ends (map unsigned_abs zs))
    (words_proper TooLarge (agent_words agent) (agent_words_are agent few))
    (λ t. IsProper-bind (the_numbers (counts_form h)) (λ zs. unless_passed
    (cells_passed (products cells (map unsigned_abs zs))) >>= λ kept. ends (map unsigned_abs zs))
    (numbers_proper TooLarge (counts_form h) (counts_items h))
    (λ zs. IsProper-bind (unless_passed (cells_passed (products cells (map unsigned_abs zs))))
    (λ kept. ends (map unsigned_abs zs))
    (unless_proper (cells_passed (products cells (map unsigned_abs zs)))) (λ kept. tt)))

agents_proper : (h agent : ℕ) (cells bs ns : List ℕ) → agent + length bs < 10 ^ 64
    → IsProper (shared_agents h agent cells bs ns)
agents_proper h agent cells [] ns few = tt
agents_proper h agent cells (b ∷ bs) [] few = tt
agents_proper h agent cells (b ∷ bs) (n ∷ ns) few =
    IsProper-bind (counts_grammar h agent cells) (λ counts. and_then (shared_stages b n counts)
    (shared_agents h (agent + 1) (products cells counts) bs ns))
    (grammar_proper h agent cells (omega arith))
    (λ counts. and_proper (shared_stages b n counts) (shared_agents h (agent + 1) (products cells counts) bs ns)
    (shared_proper b n counts)
    (agents_proper h (agent + 1) (products cells counts) bs ns (omega arith)))

policy_proper : (m : Model) (version h : ℕ) → length m.actions < 10 ^ 64 → IsProper (policy_grammar m version h)
unfolding policy_grammar
policy_proper m version h few = by_version (version == 1)
  where
    by_version : (v : Bool) → IsProper (cond v (plain_agents h 0 m.actions m.observations)
        (shared_agents h 0 (replicate h m.states) m.actions m.observations))
    by_version true = plain_proper h 0 m.actions m.observations (omega arith)
    by_version false = agents_proper h 0 (replicate h m.states) m.actions m.observations (omega arith)

-- ---- the tree

repeated_proper : (tree : Text BoundTree) (count : ℕ) → IsProper tree → IsProper (repeated tree count)
repeated_proper tree zero p = tt
repeated_proper tree (suc left) p =
    IsProper-bind tree (λ first. repeated tree left >>= λ others. ends (more_bound_trees first others)) p
    (λ first. IsProper-bind (repeated tree left) (λ others. ends (more_bound_trees first others))
    (repeated_proper tree left p) (λ others. tt))

pub forms_proper : AreProper node_forms
forms_proper = (
  (assumption, tt),
  (refl, (refl, tt)),
  (
    (assumption, tt),
    (refl, tt),
    ((assumption, tt), tt, tt),
  ),
)

only_proper : (k : ℕ) (zs : List ℤ) → IsProper (leaf_only k zs)
only_proper zero zs = tt
only_proper (suc k) zs = tt

branch_proper : (below : Text BoundTree) (zs : List ℤ) → IsProper below → IsProper (branch_below below zs)
branch_proper below [] p = tt
branch_proper below (i ∷ []) p = tt
branch_proper below (i ∷ c ∷ []) p = tt
branch_proper below (i ∷ c ∷ k ∷ []) p =
    IsProper-bind (repeated below (unsigned_abs k)) (λ kids. ends
    (branch (unsigned_abs i) (unsigned_abs c) kids))
    (repeated_proper below (unsigned_abs k) p) (λ kids. tt)
branch_proper below (i ∷ c ∷ k ∷ z ∷ zs) p = tt

merge_proper : (below : Text BoundTree) (zs : List ℤ) → IsProper below → IsProper (merge_below below zs)
merge_proper below [] p = tt
merge_proper below (i ∷ []) p = tt
merge_proper below (i ∷ a ∷ []) p = tt
merge_proper below (i ∷ a ∷ b ∷ []) p =
    IsProper-bind below (λ kid. ends (merge (unsigned_abs i) (unsigned_abs a) (unsigned_abs b) kid)) p
    (λ kid. tt)
merge_proper below (i ∷ a ∷ b ∷ z ∷ zs) p = tt

node_proper : (below : Text BoundTree) (k : ℕ) (zs : List ℤ) → IsProper below → IsProper (node_below below k zs)
node_proper below zero zs p = tt
node_proper below (suc zero) zs p = branch_proper below zs p
node_proper below (suc (suc k)) zs p = merge_proper below zs p

tree_proper : (left : ℕ) → IsProper (tree_lines left)
tree_proper zero = (forms_proper, only_proper)
tree_proper (suc left) = (forms_proper, λ k zs. node_proper (tree_lines left) k zs (tree_proper left))

part_proper : IsProper tree_grammar
part_proper =
    IsProper-bind (the_words (codes "tree" ∷ [])) (λ t. tree_lines 2048 >>= λ tree. the_words (codes "end" ∷ [])
    >>= λ end. ends tree)
    (words_proper TooLarge (codes "tree" ∷ []) (assumption, tt))
    (λ t. IsProper-bind (tree_lines 2048) (λ tree. the_words (codes "end" ∷ []) >>= λ end. ends tree)
    (tree_proper 2048)
    (λ tree. IsProper-bind {L = TooLarge} (the_words (codes "end" ∷ [])) (λ end. ends tree)
    (words_proper TooLarge (codes "end" ∷ []) (assumption, tt)) (λ end. tt)))

-- ---- the head

titles_apart : are_apart (title_form (codes "certificate") 1) (title_form (codes "certificate") 2) ≡ true
titles_apart =
    let one : decimal 1 ≡ 49 ∷ [] = decimal_digit 1 (omega arith) in
    let two : decimal 2 ≡ 50 ∷ [] = decimal_digit 2 (omega arith) in
    rw (one, two) refl

pub title_proper : IsProper title_grammar
title_proper = (
  (
    words_have_items (codes "decplan" ∷ codes "certificate" ∷ decimal 1 ∷ []) one_is_word,
    (titles_apart, tt),
    (
      words_have_items (codes "decplan" ∷ codes "certificate" ∷ decimal 2 ∷ []) two_is_word,
      tt,
      tt,
    ),
  ),
  λ k zs. tt,
)

horizon_proper : (m : Model) (version : ℕ) → IsProper (horizon_grammar m version)
horizon_proper m version =
    IsProper-bind (the_numbers horizon_form) (λ zs. unless_passed (horizon_passed m version (first_plain zs))
    >>= λ kept. ends (first_plain zs))
    (numbers_proper TooLarge horizon_form (assumption, tt))
    (λ zs. IsProper-bind (unless_passed (horizon_passed m version (first_plain zs)))
    (λ kept. ends (first_plain zs))
    (unless_proper (horizon_passed m version (first_plain zs))) (λ kept. tt))

head_proper : IsProper head_grammar
head_proper = (
  (numbers_proper TooLarge look_form (assumption, tt)).0,
  λ k look. (
    ((assumption, (assumption, tt)), (refl, tt), ((assumption, (assumption, tt)), tt, tt)),
    λ mode zs. (
      (numbers_proper TooLarge (signed_form (codes "unit")) (assumption, tt)).0,
      λ k unit. (
        (numbers_proper TooLarge (signed_form (codes "lower")) (assumption, tt)).0,
        λ k lower. (
          (numbers_proper TooLarge (signed_form (codes "upper")) (assumption, tt)).0,
          λ k upper. (
            (numbers_proper TooLarge inner_form (assumption, tt)).0,
            λ k inner. ((words_proper TooLarge (codes "policy" ∷ []) (assumption, tt)).0, λ k zs. tt),
          ),
        ),
      ),
    ),
  ),
)

-- ---- the whole text

pub certificate_proper : (m : Model) → length m.actions < 10 ^ 64 → IsProper (certificate_grammar m)
unfolding certificate_grammar
certificate_proper m few =
    IsProper-bind title_grammar (behind_version m) title_proper
    (λ version. IsProper-bind (horizon_grammar m version) (behind_horizon m version) (horizon_proper m version)
    (λ h. IsProper-bind head_grammar (behind_head m version h) head_proper
    (λ head. IsProper-bind (policy_grammar m version h) (behind_policy version h head)
    (policy_proper m version h few)
    (λ policy. IsProper-bind tree_grammar (behind_tree version h head policy) part_proper (λ tree. tt)))))

-- what is computed is the answer
pub computed_answers : {X V : Type 0} (view : X → V) (r : Result X CertFault) (g : Text V) (bytes : List ℕ)
    → IsProper g
    → Gives view r (text_from g 1 bytes) → Answers view r g bytes
computed_answers view (Ok x) g bytes proper gives = subst (IsAnswer g 1 bytes) gives
    (read_answer g proper 1 bytes)
computed_answers view (Err (faults.At line why)) g bytes proper gives = subst (IsAnswer g 1 bytes) gives
    (read_answer g proper 1 bytes)
computed_answers view (Err (faults.TooLarge passed)) g bytes proper gives = subst (IsAnswer g 1 bytes) gives
    (read_answer g proper 1 bytes)
computed_answers view (Err faults.Memory) g bytes proper gives = tt

pub each_certificate_text : EachCertificateTextHasOneAnswer
each_certificate_text m is bytes =
    let few = is.sizes.agents_limit in
    let proper = certificate_proper m (omega (arith, few)) in
    let answer = read_answer (certificate_grammar m) proper 1 bytes in (
      text_from (certificate_grammar m) 1 bytes,
      answer,
      λ s other. one_answer (certificate_grammar m)
          proper 1 bytes _ s answer other,
    )
