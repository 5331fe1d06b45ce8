-- whoever keeps a merged front keeps the old one
use Rattle.std.proofs.Common.{◌≡◌, ◌≢◌, ◌⊎◌, inl, inr, ℕ, zero, suc, ◌-◌, ◌<◌, List, [], ◌∷◌, get_or, Option, Some}
use Rattle.std.proofs.Common.{None, sym, ap, ◌∙◌, subst, arith}
use Rattle.dp_laws.proofs.MergedAgents.{get_or-renumbered, get_or-without_above, get_or-without_below}
use Rattle.dp_laws.proofs.MergedAgents.{renumbered_high, renumbered_low}
use Rattle.dp_spec.specs.Front.{AgentFront}
use Rattle.dp_spec.specs.Keeping.{KeepAgentFronts, KeepsAgentFront}
use Rattle.dp_spec.specs.Keeping.KeepAgentFronts.{and_agent}
use Rattle.dp_spec.specs.Merge.{merged_agent, merged_agents, renumbered, without}
use Rattle.dp_spec.specs.PolicyTree.{PolicyTree}
use Rattle.dp_spec.specs.Steps.{IsUnassigned}

-- another number is below or above
below_or_above : (c b : ℕ) → c ≢ b → (c < b) ⊎ (b < c)
below_or_above c b ne = grind arith

-- a class other than the one that was joined has the same action under its new number
get_or-without_renumbered : (a b : ℕ) (os : List (Option ℕ)) (c : ℕ) → c ≢ b
    → get_or (without b os) (renumbered a b c) None ≡ get_or os c None
get_or-without_renumbered a b os c ne =
    elim (below_or_above c b ne) [
      | inl lt ↦ ap (λ (k : ℕ). get_or (without b os) k None) (renumbered_low a b c lt)
          ∙ get_or-without_below b os c None lt
      | inr gt ↦
          ap (λ (k : ℕ). get_or (without b os) k None) (ap (renumbered a b) (omega arith)
          ∙ renumbered_high a b (c - 1) (omega arith))
          ∙ get_or-without_above b os (c - 1) None (omega arith)
          ∙ ap (λ (k : ℕ). get_or os k None) (omega arith)
    ]

-- a class with an action is not one without
has_action : (b c e : ℕ) (os : List (Option ℕ)) → get_or os b None ≡ None → get_or os c None ≡ Some e → c ≢ b
has_action b c e os none some same = let at : get_or os c None
    ≡ None = subst (λ (k : ℕ). get_or os k None ≡ None) (sym same) none in cc

-- a tree that keeps the merged front of one agent keeps the old one
merged_agent_kept : (n f : ℕ) (d : AgentFront) (q : PolicyTree) (a b : ℕ) → a < b
    → get_or d.chosen b None ≡ None
    → KeepsAgentFront n f (merged_agent a b d) q → KeepsAgentFront n f d q
merged_agent_kept n f d q a b lt none k = record {
  does_fixed = k.does_fixed;
  alike = λ x y u v same. k.alike x y u v (get_or-renumbered a b d.class_of x lt ∙ ap (renumbered a b) same
      ∙ sym (get_or-renumbered a b d.class_of y lt));
  does_chosen = λ x e u some.
      let c = get_or d.class_of x 0 in
      k.does_chosen x e u (ap (λ (z : ℕ). get_or (without b d.chosen) z None)
      (get_or-renumbered a b d.class_of x lt) ∙ get_or-without_renumbered a b d.chosen c
      (has_action b c e d.chosen none some) ∙ some);
}

-- the trees that keep the merged fronts keep the old ones
pub merged_agents_kept : {f : ℕ} {ns : List ℕ} (i a b : ℕ) (ds : List AgentFront) {qs : List PolicyTree} → a < b
    → IsUnassigned i b ds → KeepAgentFronts f ns (merged_agents i a b ds) qs → KeepAgentFronts f ns ds qs
merged_agents_kept i a b [] lt free ks = ks
merged_agents_kept zero a b (d ∷ ds) lt free (and_agent k ks) = and_agent
    (merged_agent_kept _ _ d _ a b lt free.1 k) ks
merged_agents_kept (suc i) a b (d ∷ ds) lt free (and_agent k ks) = and_agent k
    (merged_agents_kept i a b ds lt free ks)
