-- The parts of agents as they are kept: their lists, and what each step makes of them.
use Rattle.std.proofs.Common.{◌≡◌, inl, inr, ℕ, zero, suc, ◌+◌, ◌-◌, ◌*◌, ◌/◌, ◌%◌, ◌^◌, ◌<◌, Bool, true, false, cond}
use Rattle.std.proofs.Common.{eqb, List, [], ◌∷◌, ◌++◌, map, length, get_or, set, replicate, Option, Some, None, take}
use Rattle.std.proofs.Common.{append_assoc, add-one, refl, sym, ap, ◌∙◌, subst, arith}
use Rattle.std.specs.Prelude.{unwrap_or, is_some, ◌&&◌}
use Rattle.std.specs.List.{range_with_len}
use Rattle.std.proofs.Math.ListN.{length-set}
use Rattle.std.proofs.Math.Nat.{pow-suc, pow-zero}
use Rattle.std.proofs.lemmas.Bool.{and_from, cases_eq, cases_lt}
use Rattle.std.proofs.lemmas.Bool.Decides.{nat_tests}
use Rattle.std.proofs.lemmas.List.{get_or-map, get_or-replicate, get_or-set_other, get_or-set_same, length-append}
use Rattle.std.proofs.lemmas.List.{length-map, length-replicate, map_push}
use Rattle.std.proofs.lemmas.List.FromFn.{fill_by_all, get_or-map-range_with_len, length-map-range_with_len}
use Rattle.std.proofs.lemmas.List.FromFn.{map-range_with_len_more}
use Rattle.std.proofs.lemmas.Nat.{mod_below}
use Rattle.dp_spec.specs.Front.{AgentFront}
use Rattle.dp_spec.specs.Merge.{merged_agent, renumbered, without, kept_class}
use Rattle.dp_spec.specs.Steps.{advanced_agent, all_chosen, root_agent}
use Rattle.dp_spec.proofs.JointNumberLaws.{part_below, positive_right, row_below}
use Rattle.dp_laws.proofs.MergedAgents.{get_or-without_above, get_or-without_below, length-without}
use Rattle.dp_laws.proofs.MergedFronts.{kept_high, kept_low}
use Rattle.dp_cluster.specs.declared.part.PastStage.{PastStage}
use Rattle.dp_cluster.specs.AgentParts.{AreMergedStages, ArePastStages, HasMembers, LeadTogether, OwnPart}
use Rattle.dp_cluster.specs.AgentParts.{actions_after, class_after}
use Rattle.dp_cluster.specs.AgentParts.{class_led_to, part_of, past_classes}
use Rattle.dp_cluster.specs.PastClasses.{classes_of}

-- ---- lists made from functions

-- equal functions make equal lists
pub same_map : {X : Type 0} (n : ℕ) (d : X) (f g : ℕ → X) → ((i : ℕ) → i < n → f i ≡ g i)
    → map f (range_with_len 0 n) ≡ map g (range_with_len 0 n)
same_map n d f g h =
    fill_by_all g (map f (range_with_len 0 n)) n d (length-map-range_with_len f 0 n)
    (λ i lt. get_or-map-range_with_len f 0 n i i d lt (omega arith) ∙ h i lt)

-- a made list, read
pub made_at : {X : Type 0} (n i : ℕ) (d : X) (f : ℕ → X) → i < n → get_or (map f (range_with_len 0 n)) i d ≡ f i
made_at n i d f lt = get_or-map-range_with_len f 0 n i i d lt (omega arith)

-- a list of actions that is read again
read_again : (k : ℕ) (f : ℕ → Option ℕ)
    → map (λ c. get_or (map f (range_with_len 0 k)) c None) (range_with_len 0 k) ≡ map f (range_with_len 0 k)
read_again k f = same_map k None _ f (λ i lt. made_at k i None f lt)

-- ---- a part, list by list

-- what contracts see of a part
abbrev pub own_part : ℕ → List PastStage → ℕ → List (Option ℕ) → OwnPart
own_part n ss k cs = record { observations = n; front = part_of n ss k cs; past = past_classes n ss }

module _ (n : ℕ) (ss : List PastStage) (k : ℕ) (cs : List (Option ℕ)) where
  -- how many classes it has
  pub part_classes : k ≡ length (part_of n ss k cs).chosen
  unfolding part_of
  part_classes = sym (length-map-range_with_len (λ c. get_or cs c None) 0 k)

  -- the action of a class
  pub part_action : (c : ℕ) → c < k → get_or cs c None ≡ get_or (part_of n ss k cs).chosen c None
  unfolding part_of
  part_action c lt = sym (made_at k c None (λ c. get_or cs c None) lt)

  pub part_stages : (ss : List PastStage) → length (actions_after n ss) ≡ length ss
  part_stages [] = refl
  part_stages (s ∷ ss) = omega (
    arith,
    length-append (actions_after n ss)
        (map (λ x. get_or s.actions.items (class_after n ss x) 0) (range_with_len 0 (n ^ length ss)) ∷ []),
    part_stages ss,
  )

  -- its stage
  pub part_stage : length (part_of n ss k cs).fixed ≡ length ss
  unfolding part_of
  part_stage = part_stages ss

  -- the class of an own history
  pub part_class : (x : ℕ) → x < n ^ length ss → class_after n ss x ≡ get_or (part_of n ss k cs).class_of x 0
  unfolding part_of
  part_class x lt = sym (made_at (n ^ length ss) x 0 (class_after n ss) lt)

  -- the classes of the stage that is left
  pub part_classes_of : (s : PastStage) → length s.actions.items ≡ k
      → record {
        count = length s.actions.items;
        class_of = map (class_after n ss) (range_with_len 0 (n ^ length ss));
      } ≡ classes_of (part_of n ss k cs)
  unfolding part_of
  part_classes_of s as_many = λ j. record {
    count = (as_many ∙ part_classes) j;
    class_of = map (class_after n ss) (range_with_len 0 (n ^ length ss));
  }

-- ---- the root

pub part_of_root : (n : ℕ) → part_of n [] 1 [] ≡ root_agent
unfolding part_of
part_of_root n =
    let one : n ^ 0 ≡ 1 = pow-zero n in
    λ j. record { fixed = []; class_of = map (class_after n []) (range_with_len 0 (one j)); chosen = None ∷ [] }

-- ---- an action for a class

abbrev pub with_action : List (Option ℕ) → ℕ → ℕ → ℕ → Option ℕ
with_action cs c a i = cond (eqb i c) (Some a) (get_or cs i None)

with_action_same : (cs : List (Option ℕ)) (c a : ℕ) → with_action cs c a c ≡ Some a
with_action_same cs c a = let e : eqb c c ≡ true = grind (arith, nat_tests) in
    ap (λ b. cond b (Some a) (get_or cs c None)) e

with_action_other : (cs : List (Option ℕ)) (c a i : ℕ) → (i ≡ c → ⊥) → with_action cs c a i ≡ get_or cs i None
with_action_other cs c a i ne = let e : eqb i c ≡ false = grind (arith, nat_tests) in
    ap (λ b. cond b (Some a) (get_or cs i None)) e

pub with_same : (cs : List (Option ℕ)) (c a i : ℕ) (new : Option ℕ) → i ≡ c → new ≡ Some a
    → new ≡ with_action cs c a i
with_same cs c a i new e is = is ∙ sym (with_action_same cs c a) ∙ ap (with_action cs c a) (sym e)

pub with_other : (cs : List (Option ℕ)) (c a i : ℕ) (new : Option ℕ) → (i ≡ c → ⊥) → new ≡ get_or cs i None
    → new ≡ with_action cs c a i
with_other cs c a i new ne is = is ∙ sym (with_action_other cs c a i ne)

chosen_with : (k : ℕ) (cs : List (Option ℕ)) (c a : ℕ) → c < k
    → map (with_action cs c a) (range_with_len 0 k) ≡ set (map (λ i. get_or cs i None) (range_with_len 0 k)) c
    (Some a)
chosen_with k cs c a lt =
    let old = map (λ i. get_or cs i None) (range_with_len 0 k) in
    let long : length old ≡ k = length-map-range_with_len (λ i. get_or cs i None) 0 k in
    sym (fill_by_all (with_action cs c a) (set old c (Some a)) k None (length-set old c (Some a) ∙ long)
    (λ i p. elim (cases_eq i c) [
      | inl e ↦ ap (λ (z : ℕ). get_or (set old c (Some a)) z None) e
          ∙ get_or-set_same old c (Some a) None (omega arith) ∙ sym (with_action_same cs c a)
          ∙ ap (with_action cs c a) (sym e)
      | inr ne ↦ get_or-set_other old c i (Some a) None (λ e. ne e) ∙ made_at k i None (λ i. get_or cs i None) p
          ∙ sym (with_action_other cs c a i ne)
    ]))

pub part_with_choice : (n : ℕ) (ss : List PastStage) (k : ℕ) (cs : List (Option ℕ)) (c a : ℕ) → c < k
    → part_of n ss k (map (with_action cs c a) (range_with_len 0 k))
    ≡ record (part_of n ss k cs) { chosen = set (part_of n ss k cs).chosen c (Some a) }
unfolding part_of
part_with_choice n ss k cs c a lt =
    let chosen = read_again k (with_action cs c a) ∙ chosen_with k cs c a lt in
    λ j. record {
      fixed = actions_after n ss;
      class_of = map (class_after n ss) (range_with_len 0 (n ^ length ss));
      chosen = chosen j;
    }

-- ---- the next stage

-- the class of each own history has an action's place
abbrev pub HasClasses : ℕ → AgentFront → Type 0
HasClasses n d = (x : ℕ) → x < n ^ length d.fixed → get_or d.class_of x 0 < length d.chosen

module _ (n : ℕ) (ss : List PastStage) (k : ℕ) (cs : List (Option ℕ))
    (classes : HasClasses n (part_of n ss k cs))
  where
    pub class_in : (x : ℕ) → x < n ^ length ss → class_after n ss x < k
    class_in x lt =
        let there : x < n ^ length (part_of n ss k cs).fixed = subst (λ (t : ℕ). x < n ^ t)
        (sym (part_stage n ss k cs)) lt in
        let below = classes x there in
        let is = part_class n ss k cs x lt in
        let count = part_classes n ss k cs in omega arith

    pub part_advanced : (s : PastStage) → s.links.items ≡ []
        → s.actions.items ≡ map (λ c. unwrap_or (get_or cs c None) 0) (range_with_len 0 k)
        → part_of n (s ∷ ss) (k * n) [] ≡ advanced_agent n (length (part_of n ss k cs).fixed)
        (part_of n ss k cs)
    unfolding part_of advanced_agent
    part_advanced s no_links actions =
        let P = part_of n ss k cs in
        let t = length ss in
        let stage : length P.fixed ≡ t = part_stage n ss k cs in
        let act : ℕ → ℕ = λ x. unwrap_or (get_or P.chosen (get_or P.class_of x 0) None) 0 in
        let acts : map (λ x. get_or s.actions.items (class_after n ss x) 0) (range_with_len 0 (n ^ t))
        ≡ map act (range_with_len 0 (n ^ length P.fixed)) =
        same_map (n ^ t) 0 _ act (λ x lt.
        ap (λ l. get_or l (class_after n ss x) 0) actions
        ∙ made_at k (class_after n ss x) 0 (λ c. unwrap_or (get_or cs c None) 0) (class_in x lt)
        ∙ ap (λ o. unwrap_or o 0) (part_action n ss k cs (class_after n ss x) (class_in x lt))
        ∙ ap (λ (c : ℕ). unwrap_or (get_or P.chosen c None) 0) (part_class n ss k cs x lt))
        ∙ ap (λ (u : ℕ). map act (range_with_len 0 (n ^ u))) (sym stage) in
        let next : ℕ → ℕ = λ x. get_or P.class_of (x / n) 0 * n + x % n in
        let led : (p : ℕ) → class_led_to s p ≡ p = λ p. ap (λ (l : List ℕ). get_or l p p) no_links in
        let class_of : map (class_after n (s ∷ ss)) (range_with_len 0 (n ^ suc t))
        ≡ map next (range_with_len 0 (n ^ suc (length P.fixed))) =
        same_map (n ^ suc t) 0 _ next (λ x lt.
        let lt' : x < n ^ t * n = rw pow-suc at lt in
        led (class_after n ss (x / n) * n + x % n) ∙ ap (λ (c : ℕ). c * n + x % n)
        (part_class n ss k cs (x / n) (part_below (n ^ t) n x lt')))
        ∙ ap (λ (u : ℕ). map next (range_with_len 0 (n ^ suc u))) (sym stage) in
        let nothing : Option ℕ = None in
        let chosen : map (λ c. get_or {A = Option ℕ} [] c None) (range_with_len 0 (k * n))
        ≡ replicate (length P.chosen * n) nothing =
        sym (fill_by_all (λ c. get_or {A = Option ℕ} [] c None) (replicate (k * n) nothing) (k * n) None
        (length-replicate (k * n) nothing) (λ c lt. get_or-replicate (k * n) c nothing None lt ∙ none_left c))
        ∙ ap (λ (z : ℕ). replicate (z * n) nothing) (part_classes n ss k cs) in
        λ j. record { fixed = actions_after n ss ++ acts j ∷ []; class_of = class_of j; chosen = chosen j }
      where
        none_left : (c : ℕ) → None ≡ get_or {A = Option ℕ} [] c None
        none_left c = refl

-- ---- two classes joined

abbrev pub kept_action : List (Option ℕ) → ℕ → ℕ → Option ℕ
kept_action cs b c = get_or cs (kept_class b c) None

chosen_without : (k : ℕ) (cs : List (Option ℕ)) (b : ℕ) → b < k
    → map (kept_action cs b) (range_with_len 0 (k - 1)) ≡ without b
    (map (λ i. get_or cs i None) (range_with_len 0 k))
chosen_without k cs b lt =
    let old = map (λ i. get_or cs i None) (range_with_len 0 k) in
    let long : length old ≡ k = length-map-range_with_len (λ i. get_or cs i None) 0 k in
    sym (fill_by_all (kept_action cs b) (without b old) (k - 1) None
    (let e = length-without b old (omega arith) in omega arith)
    (λ i p. elim (cases_lt i b) [
      | inl low ↦ get_or-without_below b old i None low ∙ made_at k i None (λ i. get_or cs i None) (omega arith)
          ∙ ap (λ (z : ℕ). get_or cs z None) (kept_low b i low)
      | inr high ↦ get_or-without_above b old i None high ∙ made_at k (suc i) None (λ i. get_or cs i None)
          (omega arith) ∙ ap (λ (z : ℕ). get_or cs z None) (kept_high b i high)
    ]))

module _ (n k : ℕ) (cs : List (Option ℕ)) (a b : ℕ) (ab : a < b) (lt : b < k) where
  joined_chosen : map (λ c. get_or (map (kept_action cs b) (range_with_len 0 (k - 1))) c None)
      (range_with_len 0 (k - 1))
      ≡ without b (map (λ i. get_or cs i None) (range_with_len 0 k))
  joined_chosen = read_again (k - 1) (kept_action cs b) ∙ chosen_without k cs b lt

  first_class : (n : ℕ) → map (class_after n []) (range_with_len 0 (n ^ 0))
      ≡ map (renumbered a b) (map (class_after n []) (range_with_len 0 (n ^ 0)))
  first_class n =
      let zero_is : 0 ≡ renumbered a b 0 = grind (arith, nat_tests) in
      sym (fill_by_all (class_after n []) (map (renumbered a b)
      (map (class_after n []) (range_with_len 0 (n ^ 0)))) (n ^ 0) 0
      (length-map (map (class_after n []) (range_with_len 0 (n ^ 0))) (renumbered a b)
      ∙ length-map-range_with_len (class_after n []) 0 (n ^ 0))
      (λ x p. get_or-map (renumbered a b) (map (class_after n []) (range_with_len 0 (n ^ 0))) x 0 0
      (omega (arith, length-map-range_with_len (class_after n []) 0 (n ^ 0)))
      ∙ ap (renumbered a b) (made_at (n ^ 0) x 0 (class_after n []) p) ∙ sym zero_is))

  pub root_part_merged : part_of n [] (k - 1) (map (kept_action cs b) (range_with_len 0 (k - 1)))
      ≡ merged_agent a b (part_of n [] k cs)
  unfolding part_of
  root_part_merged = λ j. record { fixed = []; class_of = first_class n j; chosen = joined_chosen j }

  pub part_merged : (s s' : PastStage) (ss : List PastStage) → ArePastStages n (s ∷ ss)
      → s'.actions.items ≡ s.actions.items
      → ((p : ℕ) → p < length s.actions.items * n → class_led_to s' p ≡ renumbered a b (class_led_to s p))
      → part_of n (s' ∷ ss) (k - 1) (map (kept_action cs b) (range_with_len 0 (k - 1)))
      ≡ merged_agent a b (part_of n (s ∷ ss) k cs)
  unfolding part_of
  part_merged s s' ss past actions links =
      let N = n ^ suc (length ss) in
      let old = map (class_after n (s ∷ ss)) (range_with_len 0 N) in
      let long : length old ≡ N = length-map-range_with_len (class_after n (s ∷ ss)) 0 N in
      let class_of : map (class_after n (s' ∷ ss)) (range_with_len 0 N) ≡ map (renumbered a b) old =
      sym (fill_by_all (class_after n (s' ∷ ss)) (map (renumbered a b) old) N 0
      (length-map old (renumbered a b) ∙ long)
      (λ x p.
      let p' : x < n ^ length ss * n = rw pow-suc at p in
      let last : x % n < n = mod_below x n (positive_right (n ^ length ss) n x p') in
      let place = row_below (class_after n ss (x / n)) (length s.actions.items) n (x % n)
      (past.0 (x / n) (part_below (n ^ length ss) n x p')) last in
      get_or-map (renumbered a b) old x 0 0 (omega arith) ∙ ap (renumbered a b)
      (made_at N x 0 (class_after n (s ∷ ss)) p) ∙ sym (links (class_after n ss (x / n) * n + x % n) place))) in
      λ j. record {
        fixed = actions_after n ss ++ map (λ x. get_or (actions j) (class_after n ss x) 0)
            (range_with_len 0 (n ^ length ss)) ∷ [];
        class_of = class_of j;
        chosen = joined_chosen j;
      }

  -- whatever the stages are
  pub parts_merged : (ss ss' : List PastStage) → AreMergedStages n a b ss ss' → ArePastStages n ss
      → part_of n ss' (k - 1) (map (kept_action cs b) (range_with_len 0 (k - 1)))
      ≡ merged_agent a b (part_of n ss k cs)
  parts_merged [] ss' same past = ap (λ z. part_of n z (k - 1)
      (map (kept_action cs b) (range_with_len 0 (k - 1))))
      same ∙ root_part_merged
  parts_merged (s ∷ ss) [] same past = absurd same
  parts_merged (s ∷ ss) (s' ∷ ss') same past =
      ap (λ z. part_of n (s' ∷ z) (k - 1) (map (kept_action cs b) (range_with_len 0 (k - 1)))) same.2
      ∙ part_merged s s' ss past same.0 same.1

  -- own histories of the two classes lead together
  merged_together : (s s' : PastStage) (ss : List PastStage) → ArePastStages n (s ∷ ss)
      → ((p : ℕ) → p < length s.actions.items * n → class_led_to s' p ≡ renumbered a b (class_led_to s p))
      → HasMembers (own_part n (s ∷ ss) k cs) → LeadTogether n (s' ∷ ss)
  merged_together s s' ss past links members =
      let N = n ^ suc (length ss) in
      let count = part_classes n (s ∷ ss) k cs in
      let stage = part_stage n (s ∷ ss) k cs in
      let first = members a (omega arith) in
      let second = members b (omega arith) in
      let x_below : first.0 < N = subst (λ (t : ℕ). first.0 < n ^ t) stage first.1 in
      let y_below : second.0 < N = subst (λ (t : ℕ). second.0 < n ^ t) stage second.1 in
      let x_is : class_after n (s ∷ ss) first.0 ≡ a = part_class n (s ∷ ss) k cs first.0 x_below ∙ first.2 in
      let y_is : class_after n (s ∷ ss) second.0 ≡ b = part_class n (s ∷ ss) k cs second.0 y_below ∙ second.2 in
      let x_led : class_after n (s' ∷ ss) first.0 ≡ a =
      led first.0 x_below ∙ ap (renumbered a b) x_is ∙ first_stays in
      let y_led : class_after n (s' ∷ ss) second.0 ≡ a =
      led second.0 y_below ∙ ap (renumbered a b) y_is ∙ second_goes in
      elim (cases_lt first.0 second.0) [
        | inl lt ↦ (first.0, second.0, lt, y_below, x_led ∙ sym y_led)
        | inr le ↦ elim (cases_lt second.0 first.0) [
          | inl lt ↦ (second.0, first.0, lt, x_below, y_led ∙ sym x_led)
          | inr le' ↦
              let same : first.0 ≡ second.0 = omega arith in
              let both : a ≡ b = sym x_is ∙ ap (class_after n (s ∷ ss)) same ∙ y_is in
              absurd (omega arith)
        ]
      ]
    where
      first_stays : renumbered a b a ≡ a
      first_stays = grind (arith, nat_tests)

      second_goes : renumbered a b b ≡ a
      second_goes = grind (arith, nat_tests)

      led : (x : ℕ) → x < n ^ suc (length ss)
          → class_after n (s' ∷ ss) x ≡ renumbered a b (class_after n (s ∷ ss) x)
      led x below =
          let below' : x < n ^ length ss * n = rw pow-suc at below in
          let last : x % n < n = mod_below x n (positive_right (n ^ length ss) n x below') in
          links (class_after n ss (x / n) * n + x % n)
          (row_below (class_after n ss (x / n)) (length s.actions.items) n (x % n)
          (past.0 (x / n) (part_below (n ^ length ss) n x below')) last)

  pub past_merged : (ss ss' : List PastStage) → AreMergedStages n a b ss ss' → ArePastStages n ss
      → HasMembers (own_part n ss k cs) → ArePastStages n ss'
  past_merged [] ss' same past members = subst (ArePastStages n) (sym same) tt
  past_merged (s ∷ ss) [] same past members = absurd same
  past_merged (s ∷ ss) (s' ∷ ss') same past members =
      let as_many : length s'.actions.items ≡ length s.actions.items = ap length same.0 in
      let together = merged_together s s' ss past same.1 members in
      subst (λ z. ArePastStages n (s' ∷ z)) (sym same.2) (
        λ x lt. let old = past.0 x lt in
            omega arith,
        rw as_many past.1,
        past.2,
        λ c lt. past.3 c (omega arith),
        λ linked. together,
      )

-- the classes of the stages are as before
pub past_as_before : (n a b : ℕ) (ss ss' : List PastStage) → AreMergedStages n a b ss ss'
    → past_classes n ss' ≡ past_classes n ss
past_as_before n a b [] ss' same = ap (past_classes n) same
past_as_before n a b (s ∷ ss) [] same = absurd same
past_as_before n a b (s ∷ ss) (s' ∷ ss') same = λ j.
    past_classes n (same.2 j)
    ++ record {
      count = length (same.0 j);
      class_of = map (class_after n (same.2 j)) (range_with_len 0 (n ^ length (same.2 j)));
    } ∷ []

-- ---- what loops keep

take_next : {X Y : Type 0} (f : X → Y) (xs : List X) (i : ℕ) (x : X) → i < length xs → x ≡ get_or xs i x
    → take (suc i) (map f xs) ≡ take i (map f xs) ++ f x ∷ []
take_next f [] i x lt e = absurd (omega arith)
take_next f (y ∷ ys) zero x lt e = ap (λ z. f z ∷ []) (sym e)
take_next f (y ∷ ys) (suc i) x lt e = ap (λ l. f y ∷ l) (take_next f ys i x (omega arith) e)

-- a list of values goes on with that of one item more
pub next_value : {X Y : Type 0} (f : X → Y) (pre : List Y) (xs all all' : List X) (i : ℕ) (x new : X)
    → i < length xs
    → x ≡ get_or xs i x → f new ≡ f x → all' ≡ all ++ new ∷ [] → map f all ≡ pre ++ take i (map f xs)
    → map f all' ≡ pre ++ take (i + 1) (map f xs)
next_value f pre xs all all' i x new lt e same pushed before =
    ap (map f) pushed ∙ map_push f all new ∙ ap (λ l. l ++ f new ∷ []) before
    ∙ append_assoc pre (take i (map f xs)) (f new ∷ [])
    ∙ ap (λ l. pre ++ l) (ap (λ y. take i (map f xs) ++ y ∷ []) same ∙ sym (take_next f xs i x lt e)
    ∙ ap (λ (k : ℕ). take k (map f xs)) (sym (add-one i)))

-- a made list goes on with one item more
pub next_made : {X : Type 0} (f : ℕ → X) (all all' : List X) (i : ℕ) (new : X) → new ≡ f i
    → all' ≡ all ++ new ∷ []
    → all ≡ map f (range_with_len 0 i) → all' ≡ map f (range_with_len 0 (i + 1))
next_made f all all' i new same pushed before =
    pushed ∙ (λ j. before j ++ same j ∷ []) ∙ sym (map-range_with_len_more f 0 i i (omega arith))

-- made links are read
pub links_made : (s : PastStage) (i : ℕ) (f : ℕ → ℕ) (p : ℕ) → p < i
    → s.links.items ≡ map f (range_with_len 0 i)
    → class_led_to s p ≡ f p
links_made s i f p lt made = ap (λ l. get_or l p p) made ∙ made_at i p p f lt

-- all have an action
pub all_chosen_is : (os : List (Option ℕ)) → ((k : ℕ) → k < length os → is_some (get_or os k None) ≡ true)
    → true ≡ all_chosen os
all_chosen_is [] h = refl
all_chosen_is (o ∷ os) h = sym (and_from _ _ (h 0 (omega arith))
    (sym (all_chosen_is os (λ k lt. h (suc k) (omega arith)))))

-- one has none
pub not_all_chosen : (os : List (Option ℕ)) (k : ℕ) → k < length os → is_some (get_or os k None) ≡ false
    → false ≡ all_chosen os
not_all_chosen [] k lt e = absurd (omega arith)
not_all_chosen (o ∷ os) zero lt e = ap (λ b. b && all_chosen os) (sym e)
not_all_chosen (o ∷ os) (suc k) lt e = right_false (is_some o) (all_chosen os)
    (not_all_chosen os k (omega arith) e)
  where
    right_false : (x y : Bool) → false ≡ y → false ≡ x && y
    right_false true y h = h
    right_false false y h = refl

-- ---- of the functions

abbrev pub chosen_in : OwnPart → ℕ → ℕ → OwnPart
chosen_in v c a = record v { front = record v.front { chosen = set v.front.chosen c (Some a) } }

abbrev pub advanced_in : OwnPart → OwnPart
advanced_in v = record v {
  front = advanced_agent v.observations (length v.front.fixed) v.front;
  past = v.past ++ classes_of v.front ∷ [];
}

abbrev pub merged_in : OwnPart → ℕ → ℕ → OwnPart
merged_in v a b = record v { front = merged_agent a b v.front }

-- a class is below the count
pub below_count : (n : ℕ) (ss : List PastStage) (k : ℕ) (cs : List (Option ℕ)) (v : OwnPart) (c : ℕ)
    → own_part n ss k cs ≡ v → c < length v.front.chosen → c < k
below_count n ss k cs v c is lt =
    let count = part_classes n ss k cs ∙ ap (λ (p : OwnPart). length p.front.chosen) is in omega arith

pub after_choice : (n : ℕ) (ss ss' : List PastStage) (k i : ℕ) (cs cs' : List (Option ℕ)) (v : OwnPart)
    (c a : ℕ)
    → own_part n ss k cs ≡ v → c < length v.front.chosen → ss' ≡ ss → i ≡ k
    → cs' ≡ map (with_action cs c a) (range_with_len 0 i)
    → own_part n ss' k cs' ≡ chosen_in v c a
after_choice n ss ss' k i cs cs' v c a is lt stages all chosen =
    let list : cs' ≡ map (with_action cs c a) (range_with_len 0 k) = chosen
    ∙ ap (λ (z : ℕ). map (with_action cs c a) (range_with_len 0 z)) all in
    let part : part_of n ss' k cs' ≡ record (part_of n ss k cs)
    { chosen = set (part_of n ss k cs).chosen c (Some a) } =
    (λ j. part_of n (stages j) k (list j)) ∙ part_with_choice n ss k cs c a (below_count n ss k cs v c is lt) in
    (λ j. record { observations = n; front = part j; past = past_classes n (stages j) })
    ∙ ap (λ (w : OwnPart). chosen_in w c a) is

-- the actions of all classes
pub after_advance : (n : ℕ) (ss ss' : List PastStage) (k i : ℕ) (cs cs' : List (Option ℕ)) (s : PastStage)
    (v : OwnPart)
    → own_part n ss k cs ≡ v
    → ((x : ℕ) → x < v.observations ^ length v.front.fixed → get_or v.front.class_of x 0
    < length v.front.chosen)
    → ss' ≡ s ∷ ss → i ≡ k → s.actions.items ≡ map (λ c. unwrap_or (get_or cs c None) 0) (range_with_len 0 i)
    → s.links.items ≡ [] → cs' ≡ []
    → own_part n ss' (k * n) cs' ≡ advanced_in v
after_advance n ss ss' k i cs cs' s v is classes stages all actions links none =
    let classes' : HasClasses n (part_of n ss k cs) = subst (λ (w : OwnPart). HasClasses w.observations w.front)
    (sym is) classes in
    let list = actions ∙ ap (λ (z : ℕ). map (λ c. unwrap_or (get_or cs c None) 0) (range_with_len 0 z)) all in
    let part : part_of n ss' (k * n) cs' ≡ advanced_agent n (length (part_of n ss k cs).fixed)
    (part_of n ss k cs) =
    (λ j. part_of n (stages j) (k * n) (none j)) ∙ part_advanced n ss k cs classes' s links list in
    let as_many : length s.actions.items ≡ k = ap length list
    ∙ length-map-range_with_len (λ c. unwrap_or (get_or cs c None) 0) 0 k in
    let left = part_classes_of n ss k cs s as_many in
    let past : past_classes n ss' ≡ past_classes n ss ++ classes_of (part_of n ss k cs) ∷ [] =
    ap (past_classes n) stages ∙ ap (λ z. past_classes n ss ++ z ∷ []) left in
    (λ j. record { observations = n; front = part j; past = past j }) ∙ ap advanced_in is

pub past_after : (n : ℕ) (ss ss' : List PastStage) (k i : ℕ) (cs : List (Option ℕ)) (s : PastStage)
    (v : OwnPart)
    → own_part n ss k cs ≡ v
    → ((x : ℕ) → x < v.observations ^ length v.front.fixed → get_or v.front.class_of x 0
    < length v.front.chosen)
    → HasMembers v → length v.front.chosen * v.observations < 2 ^ 32
    → ss' ≡ s ∷ ss → i ≡ k → s.actions.items ≡ map (λ c. unwrap_or (get_or cs c None) 0) (range_with_len 0 i)
    → s.links.items ≡ []
    → ArePastStages n ss → ArePastStages n ss'
past_after n ss ss' k i cs s v is classes members room stages all actions links past =
    let classes' : HasClasses n (part_of n ss k cs) = subst (λ (w : OwnPart). HasClasses w.observations w.front)
    (sym is) classes in
    let members' : HasMembers (own_part n ss k cs) = subst HasMembers (sym is) members in
    let count : k ≡ length (part_of n ss k cs).chosen = part_classes n ss k cs in
    let room' : length (part_of n ss k cs).chosen * n < 2 ^ 32 = subst
    (λ (w : OwnPart). length w.front.chosen * w.observations < 2 ^ 32) (sym is) room in
    let room'' : k * n < 2 ^ 32 = subst (λ (z : ℕ). z * n < 2 ^ 32) (sym count) room' in
    let as_many : length s.actions.items ≡ k = ap length actions
    ∙ length-map-range_with_len (λ c. unwrap_or (get_or cs c None) 0) 0 i ∙ all in
    subst (ArePastStages n) (sym stages) (
      λ x lt. let old = class_in n ss k cs classes' x lt in
          omega arith,
      rw as_many room'',
      past,
      λ c lt.
          let old = members' c (omega arith) in
          let below : old.0 < n ^ length ss = subst (λ (t : ℕ). old.0 < n ^ t) (part_stage n ss k cs) old.1 in
          (old.0, below, part_class n ss k cs old.0 below ∙ old.2),
      λ linked. absurd (linked links),
    )

pub next_count : (n : ℕ) (ss : List PastStage) (k : ℕ) (cs : List (Option ℕ)) (v : OwnPart)
    → own_part n ss k cs ≡ v
    → length v.front.chosen * v.observations < 2 ^ 32
    → k * n < 2 ^ 32
next_count n ss k cs v is room =
    let count : k ≡ length (part_of n ss k cs).chosen = part_classes n ss k cs in
    let room' : length (part_of n ss k cs).chosen * n < 2 ^ 32 = subst
    (λ (w : OwnPart). length w.front.chosen * w.observations < 2 ^ 32) (sym is) room in
    subst (λ (z : ℕ). z * n < 2 ^ 32) (sym count) room'

pub after_merge : (n : ℕ) (ss ss' : List PastStage) (k i : ℕ) (cs cs' : List (Option ℕ)) (v : OwnPart) (a b : ℕ)
    → own_part n ss k cs ≡ v → a < b → b < length v.front.chosen
    → AreMergedStages n a b ss ss' → ArePastStages n ss → i ≡ k - 1
    → cs' ≡ map (kept_action cs b) (range_with_len 0 i)
    → own_part n ss' (k - 1) cs' ≡ merged_in v a b
after_merge n ss ss' k i cs cs' v a b is ab lt stages past all chosen =
    let list : cs' ≡ map (kept_action cs b) (range_with_len 0 (k - 1)) = chosen
    ∙ ap (λ (z : ℕ). map (kept_action cs b) (range_with_len 0 z)) all in
    let part : part_of n ss' (k - 1) cs' ≡ merged_agent a b (part_of n ss k cs) =
    ap (part_of n ss' (k - 1)) list ∙ parts_merged n k cs a b ab (below_count n ss k cs v b is lt)
    ss ss' stages past in
    (λ j. record { observations = n; front = part j; past = past_as_before n a b ss ss' stages j })
    ∙ ap (λ (w : OwnPart). merged_in w a b) is
