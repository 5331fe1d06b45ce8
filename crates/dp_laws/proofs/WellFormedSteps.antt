-- choosing, advancing and merging keep a front well formed
use Rattle.std.proofs.Common.{◌≡◌, inl, inr, ℕ, zero, suc, ◌+◌, ◌*◌, ◌/◌, ◌%◌, ◌^◌, ◌<◌, Bool, true, false, List, []}
use Rattle.std.proofs.Common.{◌∷◌, ◌++◌, map, length, get_or, set, replicate, Option, Some, None, refl, sym, ap, ◌∙◌}
use Rattle.std.proofs.Common.{subst, arith, length-append}
use Rattle.std.specs.Prelude.{unwrap_or}
use Rattle.std.specs.List.{range_with_len}
use Rattle.std.proofs.lemmas.List.{get_or-set_other, get_or-set_same, get_or_append_left, get_or_push}
use Rattle.std.proofs.lemmas.List.{get_or-replicate, length-map, length-replicate}
use Rattle.std.proofs.lemmas.List.FromFn.{get_or-map-range_with_len, length-map-range_with_len}
use Rattle.std.proofs.lemmas.Nat.{div-mul-add, mod-mul-add, mod_below}
use Rattle.std.proofs.Math.Nat.{pow-suc}
use Rattle.std.proofs.Math.ListN.{length-set}
use Rattle.dp_laws.proofs.MergedAgents.{get_or-renumbered, get_or-without_above, get_or-without_below, length-without}
use Rattle.dp_laws.proofs.MergedAgents.{renumbered_below, renumbered_high, renumbered_low}
use Rattle.dp_laws.proofs.CompleteFronts.{new_class, some_at}
use Rattle.dp_spec.specs.Front.{AgentFront, Front}
use Rattle.dp_spec.specs.Merge.{merged_agent, merged_agents, merged_front, renumbered}
use Rattle.dp_spec.specs.Model.{Model}
use Rattle.dp_spec.specs.Steps.{IsUnassigned, advanced_agent, advanced_agents, advanced_front, advanced_if}
use Rattle.dp_spec.specs.Steps.{all_chosen, chosen_front, front_after_choice, is_complete, with_choice}
use Rattle.dp_spec.specs.WellFormed.{AreAgentFronts, IsAgentFront, IsFront, NoneChosen}
use Rattle.dp_spec.specs.WellFormed.AreAgentFronts.{and_agent, no_agents}
use Rattle.dp_spec.proofs.JointNumberLaws.{part_below, positive_right, row_below}
use Rattle.std.proofs.lemmas.Bool.{and_parts, cases_eq, cases_lt}
use Rattle.dp_base.proofs.Order.{last_or_before}

-- ---- choosing
chosen_agent : (b n f : ℕ) (d : AgentFront) (c a : ℕ) → IsAgentFront b n f d → c < length d.chosen → a < b
    → IsAgentFront b n f (record d { chosen = set d.chosen c (Some a) })
chosen_agent b n f d c a k p a_in =
    let len : length (set d.chosen c (Some a)) ≡ length d.chosen = simp length-set in
    record {
      of_stage = k.of_stage;
      of_length = k.of_length;
      fixed_below = k.fixed_below;
      of_histories = k.of_histories;
      class_below = λ x u. let i = k.class_below x u in omega arith;
      member = λ e u. k.member e (omega arith);
      chosen_below = λ e a' u s. elim (cases_eq c e) [
        | inl same ↦
            let g : get_or (set d.chosen c (Some a)) c None ≡ Some a = get_or-set_same d.chosen c (Some a)
            None p in
            let s' : get_or (set d.chosen c (Some a)) c None
            ≡ Some a' = subst (λ (z : ℕ). get_or (set d.chosen c (Some a)) z None ≡ Some a') (sym same) s in
            let aa : a ≡ a' = cc in omega arith
        | inr ne ↦ k.chosen_below e a' (omega arith) (sym (get_or-set_other d.chosen c e (Some a) None
            (λ z. ne (sym z))) ∙ s)
      ];
    }

chosen_agents : {f : ℕ} {bs ns : List ℕ} {ds : List AgentFront} → AreAgentFronts f bs ns ds → (i c a : ℕ)
    → IsUnassigned i c ds → a < get_or bs i 0 → AreAgentFronts f bs ns (with_choice i c a ds)
chosen_agents no_agents i c a free p = absurd free
chosen_agents (and_agent k ks) zero c a free p = and_agent (chosen_agent _ _ _ _ c a k free.0 p) ks
chosen_agents (and_agent k ks) (suc i) c a free p = and_agent k (chosen_agents ks i c a free p)

-- an unassigned class is given an action of its agent
pub chosen_is_front : (m : Model) (h : ℕ) (F : Front) (i c a : ℕ) → IsFront m h F → F.stage < h
    → IsUnassigned i c F.agents → a < get_or m.actions i 0 → IsFront m h (chosen_front F i c a)
chosen_is_front m h F i c a front lt free p = record {
  stage_limit = front.stage_limit;
  agents = chosen_agents front.agents i c a free p;
  none_at_end = λ e. absurd (omega arith);
}

-- ---- advancing
next_agent : (b n f : ℕ) (d : AgentFront) → IsAgentFront b n f d → all_chosen d.chosen ≡ true
    → IsAgentFront b n (suc f) (advanced_agent n f d)
unfolding advanced_agent
next_agent b n f d k all =
    let act : ℕ → ℕ = λ x. unwrap_or (get_or d.chosen (get_or d.class_of x 0) None) 0 in
    let acts = map act (range_with_len 0 (n ^ f)) in
    let nothing : Option ℕ = None in
    let len : length (replicate (length d.chosen * n) nothing)
    ≡ length d.chosen * n = length-replicate (length d.chosen * n) nothing in
    let old : (t : ℕ) → t < f → get_or (d.fixed ++ acts ∷ []) t []
    ≡ get_or d.fixed t [] = λ t p. get_or_append_left d.fixed (acts ∷ []) [] t (omega (arith, k.of_stage)) in
    let new : (t : ℕ) → t ≡ f → get_or (d.fixed ++ acts ∷ []) t []
    ≡ acts = λ t e. get_or_push d.fixed acts [] t (k.of_stage ∙ sym e) in
    record {
      of_stage = omega (arith, k.of_stage, length-append d.fixed (acts ∷ []));
      of_length = λ t p. elim (last_or_before t f p) [
        | inr lt ↦ ap length (old t lt) ∙ k.of_length t lt
        | inl e ↦ ap length (new t e) ∙ length-map-range_with_len act 0 (n ^ f) ∙ ap (λ (z : ℕ). n ^ z) (sym e)
      ];
      fixed_below = λ t x p u. elim (last_or_before t f p) [
        | inr lt ↦ subst (λ (z : List ℕ). get_or z x 0 < b) (sym (old t lt)) (k.fixed_below t x lt u)
        | inl e ↦
            let u' : x < n ^ f = subst (λ (z : ℕ). x < n ^ z) e u in
            let c_in = k.class_below x u' in
            let some = some_at d.chosen (get_or d.class_of x 0) all c_in in
            let is : some.0 ≡ get_or (get_or (d.fixed ++ acts ∷ []) t []) x 0 =
            ap (λ z. unwrap_or z 0) (sym some.1) ∙ sym (get_or-map-range_with_len act 0 (n ^ f) x x 0 u'
            (omega arith)) ∙ ap (λ z. get_or z x 0) (sym (new t e)) in
            subst (λ (z : ℕ). z < b) is (k.chosen_below _ some.0 c_in some.1)
      ];
      of_histories = length-map-range_with_len (λ x. get_or d.class_of (x / n) 0 * n + x % n) 0 (n ^ suc f);
      class_below = λ x u.
          let u' : x < n ^ f * n = rw pow-suc at u in
          rw (new_class n f x d.class_of u, len) (row_below _ _ n _
          (k.class_below (x / n) (part_below (n ^ f) n x u')) (mod_below x n (positive_right (n ^ f) n x u')));
      member = λ c u.
          let u' : c < length d.chosen * n = omega arith in
          let old_member = k.member (c / n) (part_below (length d.chosen) n c u') in
          let lt : c % n < n = mod_below c n (positive_right (length d.chosen) n c u') in
          let x = old_member.0 * n + c % n in
          let x_in : x < n ^ suc f = rw pow-suc (row_below old_member.0 (n ^ f) n (c % n) old_member.1 lt) in
          let first : x / n ≡ old_member.0 = div-mul-add old_member.0 n (c % n) lt in
          let last : x % n ≡ c % n = mod-mul-add old_member.0 n (c % n) lt in (
            x,
            x_in,
            new_class n f x d.class_of x_in ∙ put_together n c x old_member.0 (λ z. get_or d.class_of z 0)
                first last old_member.2,
          );
      chosen_below = λ c a u s. let none = get_or-replicate (length d.chosen * n) c nothing None
          (omega arith) in cc;
    }
  where
    put_together : (n c x y : ℕ) (class : ℕ → ℕ) → x / n ≡ y → x % n ≡ c % n → class y ≡ c / n
        → class (x / n) * n + x % n ≡ c
    put_together n c x y class e f g = rw (e, f, g) (omega arith)

next_agents : {f : ℕ} {bs ns : List ℕ} {ds : List AgentFront} → AreAgentFronts f bs ns ds
    → is_complete ds ≡ true
    → AreAgentFronts (suc f) bs ns (advanced_agents ns f ds)
next_agents no_agents all = no_agents
next_agents (and_agent k ks) all = let both = and_parts _ _ all in
    and_agent (next_agent _ _ _ _ k both.0) (next_agents ks both.1)

-- a new class has no action
pub no_choice : (n c : ℕ) → get_or {A = Option ℕ} (replicate n None) c None ≡ None
no_choice zero c = refl
no_choice (suc n) zero = refl
no_choice (suc n) (suc c) = no_choice n c

none_chosen : (ns : List ℕ) (f : ℕ) (ds : List AgentFront) → NoneChosen (advanced_agents ns f ds)
unfolding advanced_agent
none_chosen [] f ds = tt
none_chosen (n ∷ ns) f [] = tt
none_chosen (n ∷ ns) f (d ∷ ds) = (no_choice (length d.chosen * n), none_chosen ns f ds)

-- a complete front goes on to the next stage
pub advanced_is_front : (m : Model) (h : ℕ) (F : Front) → IsFront m h F → F.stage < h
    → is_complete F.agents ≡ true
    → IsFront m h (advanced_front m F)
advanced_is_front m h F front lt all = record {
  stage_limit = lt;
  agents = next_agents front.agents all;
  none_at_end = λ e. none_chosen m.observations F.stage F.agents;
}

-- ---- a choice, and the advance where it follows
next_is_front : (m : Model) (h : ℕ) (F : Front) → IsFront m h F → F.stage < h → (t : Bool)
    → is_complete F.agents ≡ t
    → IsFront m h (advanced_if m F t)
next_is_front m h F front lt true all = advanced_is_front m h F front lt all
next_is_front m h F front lt false some = front

pub after_choice_is_front : (m : Model) (h : ℕ) (F : Front) (i c a : ℕ) → IsFront m h F → F.stage < h
    → IsUnassigned i c F.agents → a < get_or m.actions i 0 → IsFront m h (front_after_choice m F i c a)
unfolding front_after_choice
after_choice_is_front m h F i c a front lt free p = next_is_front m h (chosen_front F i c a)
    (chosen_is_front m h F i c a front lt free p) lt (is_complete (with_choice i c a F.agents)) refl

-- ---- merging
joined_agent : (b n f : ℕ) (d : AgentFront) (first second : ℕ) → IsAgentFront b n f d → first < second
    → second < length d.chosen → IsAgentFront b n f (merged_agent first second d)
joined_agent b n f d first second k lt p =
    let len = length-without second d.chosen p in
    let new : (x c c' : ℕ) → get_or d.class_of x 0 ≡ c → renumbered first second c ≡ c'
    → get_or (map (renumbered first second) d.class_of) x 0 ≡ c' =
    λ x c c' e r. get_or-renumbered first second d.class_of x lt ∙ ap (renumbered first second) e ∙ r in
    record {
      of_stage = k.of_stage;
      of_length = k.of_length;
      fixed_below = k.fixed_below;
      of_histories = length-map d.class_of (renumbered first second) ∙ k.of_histories;
      class_below = λ x u. rw (get_or-renumbered first second d.class_of x lt)
          (renumbered_below first second _ _ lt (omega arith) (let c_in = k.class_below x u in omega arith));
      member = λ c u. elim (cases_lt c second) [
        | inl low ↦ let old = k.member c (omega arith) in (
          old.0,
          old.1,
          new old.0 c c old.2 (renumbered_low first second c low),
        )
        | inr high ↦ let old = k.member (suc c) (omega arith) in
            (old.0, old.1, new old.0 (suc c) c old.2 (renumbered_high first second c high))
      ];
      chosen_below = λ c a u s. elim (cases_lt c second) [
        | inl low ↦ k.chosen_below c a (omega arith) (sym (get_or-without_below second d.chosen c None low) ∙ s)
        | inr high ↦ k.chosen_below (suc c) a (omega arith) (sym
            (get_or-without_above second d.chosen c None high)
            ∙ s)
      ];
    }

joined_agents : {f : ℕ} {bs ns : List ℕ} {ds : List AgentFront} → AreAgentFronts f bs ns ds → (i a b : ℕ)
    → a < b
    → IsUnassigned i b ds → AreAgentFronts f bs ns (merged_agents i a b ds)
joined_agents no_agents i a b lt free = absurd free
joined_agents (and_agent k ks) zero a b lt free = and_agent (joined_agent _ _ _ _ a b k lt free.0) ks
joined_agents (and_agent k ks) (suc i) a b lt free = and_agent k (joined_agents ks i a b lt free)

-- two unassigned classes are merged
pub merged_is_front : (m : Model) (h : ℕ) (F : Front) (i a b : ℕ) → IsFront m h F → F.stage < h → a < b
    → IsUnassigned i a F.agents → IsUnassigned i b F.agents → IsFront m h (merged_front F i a b)
merged_is_front m h F i a b front lt ab free free' = record {
  stage_limit = front.stage_limit;
  agents = joined_agents front.agents i a b ab free';
  none_at_end = λ e. absurd (omega arith);
}
