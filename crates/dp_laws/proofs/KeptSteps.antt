-- a policy that keeps a front keeps one of its fronts after a choice, and the advanced front of a complete one
use Rattle.std.proofs.Common.{◌≡◌, inl, inr, ℕ, zero, suc, ◌+◌, ◌-◌, ◌*◌, ◌/◌, ◌%◌, ◌^◌, ◌<◌, Bool, true, false, List}
use Rattle.std.proofs.Common.{[], ◌∷◌, map, length, get_or, set, Some, None, refl, sym, ap, ◌∙◌, subst, arith}
use Rattle.std.specs.Prelude.{unwrap_or}
use Rattle.std.specs.List.{range_with_len}
use Rattle.std.proofs.lemmas.List.{get_or-set_other, get_or-set_same, get_or_append_left, get_or_push}
use Rattle.std.proofs.lemmas.List.FromFn.{get_or-map-range_with_len}
use Rattle.std.proofs.lemmas.Nat.{mod_below}
use Rattle.std.proofs.Math.Nat.{pow-suc}
use Rattle.dp_laws.proofs.Keeping.{tree_at_fits}
use Rattle.dp_laws.proofs.CompleteFronts.{new_class, some_at}
use Rattle.dp_laws.proofs.Trees.{root_action_below}
use Rattle.dp_laws.proofs.WellFormedSteps.{chosen_is_front, no_choice}
use Rattle.dp_spec.specs.Front.{AgentFront, Front}
use Rattle.dp_spec.specs.Keeping.{KeepAgentFronts, KeepsAgentFront, KeepsFront, tree_at}
use Rattle.dp_spec.specs.Keeping.KeepAgentFronts.{and_agent as and_keeps, no_agents as none_keep}
use Rattle.dp_spec.specs.Model.{Model}
use Rattle.dp_spec.specs.PolicyTree.{IsJointPolicy, IsPolicyOf, PolicyTree, root_action, subtree}
use Rattle.dp_spec.specs.PolicyTree.IsJointPolicy.{and_agent as and_policy, no_agents as no_policies}
use Rattle.dp_spec.specs.Steps.{IsUnassigned, advanced_agent, advanced_agents, advanced_front, advanced_if}
use Rattle.dp_spec.specs.Steps.{all_chosen, chosen_front, front_after_choice, is_complete, with_choice}
use Rattle.dp_spec.specs.WellFormed.{AreAgentFronts, IsAgentFront, IsFront}
use Rattle.dp_spec.specs.WellFormed.AreAgentFronts.{and_agent as and_front, no_agents as no_fronts}
use Rattle.dp_spec.proofs.JointNumberLaws.{part_below, positive_right, same_parts}
use Rattle.std.proofs.lemmas.Bool.{and_parts, cases_eq}
use Rattle.dp_base.proofs.Order.{last_or_before}

-- ---- choosing
-- a tree that does action a after one history of class c keeps the choice of a for that class
keeps_choice : (n f : ℕ) (d : AgentFront) (q : PolicyTree) (c a x : ℕ) → KeepsAgentFront n f d q
    → c < length d.chosen
    → x < n ^ f → get_or d.class_of x 0 ≡ c → root_action (tree_at n q f x) ≡ a →
    KeepsAgentFront n f (record d { chosen = set d.chosen c (Some a) }) q
keeps_choice n f d q c a x k p u is does = record {
  does_fixed = k.does_fixed;
  alike = k.alike;
  does_chosen = λ y e v s. elim (cases_eq c (get_or d.class_of y 0)) [
    | inl same ↦
        let g : get_or (set d.chosen c (Some a)) c None ≡ Some a = get_or-set_same d.chosen c (Some a) None p in
        let s' : get_or (set d.chosen c (Some a)) c None ≡ Some e = subst
        (λ (z : ℕ). get_or (set d.chosen c (Some a)) z None ≡ Some e) (sym same) s in
        let ae : a ≡ e = cc in
        ap root_action (k.alike y x v u (sym same ∙ sym is)) ∙ does ∙ ae
    | inr ne ↦ k.does_chosen y e v (sym (get_or-set_other d.chosen c (get_or d.class_of y 0) (Some a) None
        (λ z. ne (sym z))) ∙ s)
  ];
}

choose : {f h : ℕ} {bs ns : List ℕ} {ds : List AgentFront} {qs : List PolicyTree} (r : ℕ) → f + suc r ≡ h
    → AreAgentFronts f bs ns ds → IsJointPolicy h bs ns qs → KeepAgentFronts f ns ds qs → (i c : ℕ)
    → IsUnassigned i c ds →
    (a : ℕ) × (a < get_or bs i 0) × KeepAgentFronts f ns (with_choice i c a ds) qs
choose r e no_fronts no_policies none_keep i c free = absurd free
choose {f} {h} r e (and_front {b = b} {n = n} {d = d} front fronts) (and_policy {q = q} tree trees)
    (and_keeps k ks) zero c free =
    let x = front.member c free.0 in (
      root_action (tree_at n q f x.0),
      root_action_below b n r _ (tree_at_fits b n q f (suc r) h x.0 e x.1 tree),
      and_keeps (keeps_choice n f d q c _ x.0 k free.0 x.1 x.2 refl) ks,
    )
choose r e (and_front front fronts) (and_policy tree trees) (and_keeps k ks) (suc i) c free =
    let more = choose r e fronts trees ks i c free in (more.0, more.1, and_keeps k more.2)

-- a policy that keeps a front keeps one of its fronts after a choice of any unassigned class
pub keeps_some_choice : (m : Model) (h : ℕ) (F : Front) (qs : List PolicyTree) (i c : ℕ) → IsFront m h F
    → F.stage < h
    → IsPolicyOf m h qs → KeepsFront m F qs → IsUnassigned i c F.agents →
    (a : ℕ) × (a < get_or m.actions i 0) × KeepsFront m (chosen_front F i c a) qs
keeps_some_choice m h F qs i c front lt policy keeps free = choose (h - suc F.stage) (omega arith)
    front.agents policy keeps i c free

-- ---- advancing
keeps_next : (b n f : ℕ) (d : AgentFront) (q : PolicyTree) → IsAgentFront b n f d → KeepsAgentFront n f d q
    → all_chosen d.chosen ≡ true → KeepsAgentFront n (suc f) (advanced_agent n f d) q
unfolding advanced_agent
keeps_next b n f d q front k all =
    let act : ℕ → ℕ = λ x. unwrap_or (get_or d.chosen (get_or d.class_of x 0) None) 0 in
    let acts = map act (range_with_len 0 (n ^ f)) in
    record {
      does_fixed = λ t x p u. elim (last_or_before t f p) [
        | inr lt ↦ k.does_fixed t x lt u ∙ ap (λ z. get_or z x 0)
            (sym (get_or_append_left d.fixed (acts ∷ []) [] t (omega (arith, front.of_stage))))
        | inl e ↦
            let u' : x < n ^ f = subst (λ (z : ℕ). x < n ^ z) e u in
            let some = some_at d.chosen (get_or d.class_of x 0) all (front.class_below x u') in
            ap (λ (z : ℕ). root_action (tree_at n q z x)) e ∙ k.does_chosen x some.0 u' some.1
            ∙ ap (λ z. unwrap_or z 0) (sym some.1)
            ∙ sym (get_or-map-range_with_len act 0 (n ^ f) x x 0 u' (omega arith))
            ∙ ap (λ z. get_or z x 0) (sym (get_or_push d.fixed acts [] t (front.of_stage ∙ sym e)))
      ];
      alike = λ x y u v e.
          let u' : x < n ^ f * n = rw pow-suc at u in
          let v' : y < n ^ f * n = rw pow-suc at v in
          let parts = same_parts n _ _ _ _ (mod_below x n (positive_right (n ^ f) n x u'))
          (mod_below y n (positive_right (n ^ f) n y v'))
          (sym (new_class n f x d.class_of u) ∙ e ∙ new_class n f y d.class_of v) in
          ap (λ z. subtree z (x % n)) (k.alike (x / n) (y / n) (part_below (n ^ f) n x u')
          (part_below (n ^ f) n y v') parts.0)
          ∙ ap (λ (z : ℕ). subtree (tree_at n q f (y / n)) z) parts.1;
      does_chosen = λ x a u s. let none = no_choice (length d.chosen * n)
          (get_or (map (λ x. get_or d.class_of (x / n) 0 * n + x % n) (range_with_len 0 (n ^ suc f))) x 0) in
          cc;
    }

advance : {f : ℕ} {bs ns : List ℕ} {ds : List AgentFront} {qs : List PolicyTree} → AreAgentFronts f bs ns ds
    → KeepAgentFronts f ns ds qs → is_complete ds ≡ true → KeepAgentFronts (suc f) ns
    (advanced_agents ns f ds) qs
advance no_fronts none_keep all = none_keep
advance (and_front front fronts) (and_keeps k ks) all = let both = and_parts _ _ all in
    and_keeps (keeps_next _ _ _ _ _ front k both.0) (advance fronts ks both.1)

-- a policy that keeps a complete front keeps the advanced front
pub keeps_advanced : (m : Model) (h : ℕ) (F : Front) (qs : List PolicyTree) → IsFront m h F → KeepsFront m F qs
    → is_complete F.agents ≡ true → KeepsFront m (advanced_front m F) qs
keeps_advanced m h F qs front keeps all = advance front.agents keeps all

-- ---- a choice, and the advance where it follows
keeps_advanced_if : (m : Model) (h : ℕ) (F : Front) (qs : List PolicyTree) → IsFront m h F → KeepsFront m F qs
    → (t : Bool) → is_complete F.agents ≡ t → KeepsFront m (advanced_if m F t) qs
keeps_advanced_if m h F qs front keeps true all = keeps_advanced m h F qs front keeps all
keeps_advanced_if m h F qs front keeps false some = keeps

-- a policy that keeps a front keeps one of its fronts after a choice, and after the advance where it follows
pub keeps_some_next : (m : Model) (h : ℕ) (F : Front) (qs : List PolicyTree) (i c : ℕ) → IsFront m h F
    → F.stage < h
    → IsPolicyOf m h qs → KeepsFront m F qs → IsUnassigned i c F.agents →
    (a : ℕ) × (a < get_or m.actions i 0) × KeepsFront m (front_after_choice m F i c a) qs
unfolding front_after_choice
keeps_some_next m h F qs i c front lt policy keeps free =
    let some = keeps_some_choice m h F qs i c front lt policy keeps free in (
      some.0,
      some.1,
      keeps_advanced_if m h (chosen_front F i c some.0) qs (chosen_is_front m h F i c some.0 front lt free
          some.1)
          some.2 (is_complete (with_choice i c some.0 F.agents)) refl,
    )
