-- The trees that the stages behind a front fix.
use Rattle.std.proofs.Common.{◌≡◌, ℕ, zero, suc, ◌+◌, ◌-◌, ◌*◌, ◌^◌, ◌<◌, ◌≤◌, List, [], ◌∷◌, ◌++◌, map, length}
use Rattle.std.proofs.Common.{get_or, drop, Option, refl, sym, ap, ◌∙◌, subst, arith}
use Rattle.std.specs.List.{range_with_len}
use Rattle.dp_spec.specs.Front.{AgentFront}
use Rattle.dp_spec.specs.WellFormed.{AreAgentFronts, no_agents, and_agent}
use Rattle.std.proofs.Math.Nat.{pow-suc, pow-zero}
use Rattle.std.proofs.Math.Seq.{drop-cons}
use Rattle.std.specs.declared.alloc.Global.{Global}
use Rattle.std.specs.declared.rc.Rc.{Rc}
use Rattle.std.proofs.lemmas.List.{drop_all, get_or-map, length-append, length-drop, length-map}
use Rattle.std.proofs.lemmas.Nat.{div-mul-add, mod-mul-add}
use Rattle.dp_spec.specs.FullPolicy.{tree_doing, tree_doing_after, trees_doing_fixed, trees_from}
use Rattle.dp_spec.specs.PolicyTree.{PolicyTree, node, no_trees, more_trees}
use Rattle.dp_spec.proofs.JointNumberLaws.{row_below}
use Rattle.dp_policy.specs.declared.tree.PTree.{PTree}
use Rattle.dp_policy.specs.declared.tree.PTree.TheOpen.{PTree-F}
use Rattle.dp_policy.specs.declared.tree.PTree.TheViews.{roll-PTree}
use Rattle.dp_policy.specs.declared.tree.PTree.TheFolds.{fold-roll-PTree}
use Rattle.dp_policy.specs.TreeValue.{policy_tree, policy_tree_node, policy_trees}
use Rattle.dp_cluster.specs.declared.part.PastStage.{PastStage}
use Rattle.dp_cluster.specs.AgentParts.{ArePastStages, IsReached, OwnPart, action_after, actions_after, class_after}
use Rattle.dp_cluster.specs.AgentParts.{class_led_to, part_of}
use Rattle.dp_cluster.proofs.ClassesBehind.{earlier_read, last_read}
use Rattle.dp_cluster.proofs.OwnParts.{made_at, own_part}

-- ---- trees of a list

-- the policy tree of a tree that is made of its fields
pub tree_made : (t : PTree-F PTree) → policy_tree (roll-PTree t)
    ≡ node t.action (policy_trees (map policy_tree t.kids.items))
unfolding policy_tree
tree_made t = fold-roll-PTree PolicyTree policy_tree_node t

trees_alike : (n : ℕ) (g h : ℕ → PolicyTree) → ((o : ℕ) → g o ≡ h o) → trees_from n g ≡ trees_from n h
trees_alike zero g h same = refl
trees_alike (suc n) g h same = λ j. more_trees (same 0 j) (trees_alike n (λ o. g (suc o)) (λ o. h (suc o))
    (λ o. same (suc o)) j)

trees_listed : (n a : ℕ) (g : ℕ → PolicyTree) → policy_trees (map g (range_with_len a n))
    ≡ trees_from n (λ o. g (a + o))
trees_listed zero a g = refl
trees_listed (suc n) a g =
    let first : a ≡ a + 0 = omega arith in
    λ j. more_trees (g (first j))
    ((trees_listed n (a + 1) g ∙ trees_alike n (λ o. g (a + 1 + o)) (λ o. g (a + suc o))
    (λ o. ap g (later o))) j)
  where
    later : (o : ℕ) → a + 1 + o ≡ a + suc o
    later o = omega arith

pub trees_made : (n : ℕ) (g : ℕ → PolicyTree) → policy_trees (map g (range_with_len 0 n)) ≡ trees_from n g
trees_made n g = trees_listed n 0 g ∙ trees_alike n (λ o. g (0 + o)) g
    (λ o. ap g (let e : 0 + o ≡ o = omega arith in e))

-- ---- the stages

past_later : (n r : ℕ) (ss : List PastStage) → ArePastStages n ss → ArePastStages n (drop r ss)
past_later n zero ss past = past
past_later n (suc r) [] past = past
past_later n (suc r) (s ∷ ss) past = past_later n r ss past.2

as_many : (n : ℕ) (ss : List PastStage) → length (actions_after n ss) ≡ length ss
as_many n [] = refl
as_many n (s ∷ ss) =
    let rest = as_many n ss in
    let more = length-append (actions_after n ss) (map (λ x. get_or s.actions.items (class_after n ss x) 0)
    (range_with_len 0 (n ^ length ss)) ∷ []) in
    omega arith

-- the actions of a stage that others are behind
pub stage_actions : (n r : ℕ) (ss ss' : List PastStage) (s : PastStage) → drop r ss ≡ s ∷ ss'
    → get_or (actions_after n ss) (length ss') []
    ≡ map (λ x. get_or s.actions.items (class_after n ss' x) 0) (range_with_len 0 (n ^ length ss'))
stage_actions n zero ss ss' s e =
    let all = map (λ x. get_or s.actions.items (class_after n ss' x) 0) (range_with_len 0 (n ^ length ss')) in
    ap (λ l. get_or (actions_after n l) (length ss') []) e
    ∙ ap (λ k. get_or (actions_after n ss' ++ all ∷ []) k []) (sym (as_many n ss'))
    ∙ last_read (actions_after n ss') (length (actions_after n ss')) all [] refl
stage_actions n (suc r) [] ss' s e = absurd (let no : 0 ≡ suc (length ss') = ap (λ l. length l) e in
    omega arith)
stage_actions n (suc r) (q ∷ qs) ss' s e =
    let rest = length-drop r qs in
    let size : length (drop r qs) ≡ suc (length ss') = ap (λ l. length l) e in
    let many = as_many n qs in
    earlier_read (actions_after n qs) (map (λ x. get_or q.actions.items (class_after n qs x) 0)
    (range_with_len 0 (n ^ length qs)) ∷ []) (length ss') [] (omega arith)
    ∙ stage_actions n r qs ss' s e

-- a stage that is read of shared stages
pub stage_read : (past : List (Rc PastStage Global)) (left : ℕ) → 0 < left
    → left ≤ length (map (λ s. s.value) past)
    → (r : Rc PastStage Global) (s : PastStage) → r ≡ get_or past (left - 1) r → s ≡ r.value
    → s ≡ get_or (map (λ s. s.value) past) (left - 1) s
stage_read past left some within r s read is =
    let size = length-map past (λ (q : Rc PastStage Global). q.value) in
    let there : r.value ≡ get_or (map (λ q. q.value) past) (left - 1) r.value =
    ap (λ q. q.value) read ∙ sym (get_or-map (λ q. q.value) past (left - 1) r r.value (omega arith)) in
    is ∙ there ∙ ap (get_or (map (λ q. q.value) past) (left - 1)) (sym is)

module _ (n : ℕ) (ss : List PastStage) (past : ArePastStages n ss) (left : ℕ) (some : 0 < left)
    (within : left ≤ length ss) (s : PastStage) (read : s ≡ get_or ss (left - 1) s) where
  here : drop (left - 1) ss ≡ s ∷ drop left ss
  here =
      let next : suc (left - 1) ≡ left = omega arith in
      drop-cons ss (left - 1) s (omega arith) ∙ (λ j. sym read j ∷ drop (next j) ss)

  stage_here : ArePastStages n (s ∷ drop left ss)
  stage_here = subst (ArePastStages n) here (past_later n (left - 1) ss past)

  behind_here : (t : ℕ) → t + left ≡ length ss → length (drop left ss) ≡ t
  behind_here t e = let size = length-drop left ss in omega arith

  pub class_in : (c : ℕ) → IsReached n ss left c → c < length s.actions.items
  class_in c reached =
      let there = reached.below in
      let size = behind_here reached.time reached.within in
      let inside = stage_here.0 reached.history (subst (λ k. reached.history < n ^ k) (sym size) there) in
      subst (λ k. k < length s.actions.items) reached.leads inside

  pub place_few : (c o : ℕ) → IsReached n ss left c → o < n → c * n + o < 2 ^ 32
  place_few c o reached lt =
      let below = row_below c (length s.actions.items) n o (class_in c reached) lt in
      let few = stage_here.1 in omega arith

  -- one observation more
  pub leads_next : (x o c : ℕ) → o < n → class_after n (drop left ss) x ≡ c
      → class_after n (drop (left - 1) ss) (x * n + o) ≡ class_led_to s (c * n + o)
  leads_next x o c lt leads =
      ap (λ l. class_after n l (x * n + o)) here
      ∙ (λ j. class_led_to s (class_after n (drop left ss) (div-mul-add x n o lt j) * n + mod-mul-add x n o
      lt j))
      ∙ ap (λ k. class_led_to s (k * n + o)) leads

  pub below_next : (t x o : ℕ) → x < n ^ t → o < n → x * n + o < n ^ suc t
  below_next t x o lt seen = let more = row_below x (n ^ t) n o lt seen in rw (pow-suc n t) more

  pub reached_next : (c o next : ℕ) → IsReached n ss left c → o < n → next ≡ class_led_to s (c * n + o)
      → IsReached n ss (left - 1) next
  reached_next c o next reached lt is = record {
    time = suc reached.time;
    history = reached.history * n + o;
    within = let e = reached.within in omega arith;
    below = below_next reached.time reached.history o reached.below lt;
    leads = leads_next reached.history o c lt reached.leads ∙ sym is;
  }

  action_is : (t x c : ℕ) → t + left ≡ length ss → x < n ^ t → class_after n (drop left ss) x ≡ c
      → action_after n ss t x ≡ get_or s.actions.items c 0
  action_is t x c e lt leads =
      let size = behind_here t e in
      ap (λ k. get_or (get_or (actions_after n ss) k []) x 0) (sym size)
      ∙ ap (λ l. get_or l x 0) (stage_actions n (left - 1) ss (drop left ss) s here)
      ∙ made_at (n ^ length (drop left ss)) x 0 (λ y. get_or s.actions.items (class_after n (drop left ss) y) 0)
      (subst (λ k. x < n ^ k) (sym size) lt)
      ∙ ap (λ k. get_or s.actions.items k 0) leads

  abbrev act : ℕ → ℕ → ℕ
  act = action_after n ss

  doing_last : (t x : ℕ) → left ≡ 1 → tree_doing_after n act left t x ≡ node (act t x) no_trees
  doing_last t x e = ap (λ k. tree_doing_after n act k t x) e

  doing_more : (t x : ℕ) → 1 < left
      → tree_doing_after n act left t x ≡ node (act t x) (trees_from n
      (λ o. tree_doing_after n act (left - 1) (suc t) (x * n + o)))
  doing_more t x more =
      let two : left ≡ suc (suc (left - 2)) = omega arith in
      let one : suc (left - 2) ≡ left - 1 = omega arith in
      ap (λ k. tree_doing_after n act k t x) two
      ∙ ap (λ k. node (act t x) (trees_from n (λ o. tree_doing_after n act k (suc t) (x * n + o)))) one

  pub last_is : (t x c a : ℕ) (ks : List PolicyTree) → t + left ≡ length ss → x < n ^ t
      → class_after n (drop left ss) x ≡ c
      → left ≤ 1 → a ≡ get_or s.actions.items c 0 → ks ≡ [] → node a (policy_trees ks)
      ≡ tree_doing_after n act left t x
  last_is t x c a ks e lt leads last action none =
      let one : left ≡ 1 = omega arith in
      (λ j. node ((action ∙ sym (action_is t x c e lt leads)) j) (policy_trees (none j)))
      ∙ sym (doing_last t x one)

  pub more_is : (t x c a : ℕ) (ks : List PolicyTree) (seen : ℕ) → t + left ≡ length ss → x < n ^ t
      → class_after n (drop left ss) x ≡ c
      → 1 < left → a ≡ get_or s.actions.items c 0 → seen ≡ n
      → ks ≡ map (λ o. tree_doing_after n act (left - 1) (suc t) (x * n + o)) (range_with_len 0 seen)
      → node a (policy_trees ks) ≡ tree_doing_after n act left t x
  more_is t x c a ks seen e lt leads more action all kids =
      let g = λ (o : ℕ). tree_doing_after n act (left - 1) (suc t) (x * n + o) in
      (λ j. node ((action ∙ sym (action_is t x c e lt leads)) j)
      (policy_trees ((kids ∙ ap (λ k. map g (range_with_len 0 k)) all) j)))
      ∙ ap (node (act t x)) (trees_made n g)
      ∙ sym (doing_more t x more)

-- ---- the whole tree of a part

module _ (n : ℕ) (ss : List PastStage) (k : ℕ) (cs : List (Option ℕ)) (v : OwnPart)
    (is : own_part n ss k cs ≡ v) where
  pub stages_counted : length ss ≡ length v.front.fixed
  unfolding part_of
  stages_counted = sym (as_many n ss) ∙ ap (λ (p : OwnPart). length p.front.fixed) is

  pub whole_is : tree_doing_after n (action_after n ss) (length ss) 0 0
      ≡ tree_doing v.observations (λ t x. get_or (get_or v.front.fixed t []) x 0) (length v.front.fixed)
  unfolding part_of
  whole_is =
      ap (λ r. tree_doing_after n (action_after n ss) r 0 0) (sym (as_many n ss))
      ∙ ap (λ (p : OwnPart). tree_doing p.observations (λ t x. get_or (get_or p.front.fixed t []) x 0)
      (length p.front.fixed)) is

-- no own history is before the first stage
pub first_class : (n : ℕ) (ss : List PastStage) (left : ℕ) → left ≡ length ss
    → class_after n (drop left ss) 0 ≡ 0
first_class n ss left e = ap (λ l. class_after n (drop l ss) 0) e ∙ none ss
  where
    none : (ss : List PastStage) → class_after n (drop (length ss) ss) 0 ≡ 0
    none [] = refl
    none (s ∷ ss) = none ss

pub first_below : (n : ℕ) → 0 < n ^ 0
first_below n = let one = pow-zero n in omega arith

-- ---- the trees of all agents

-- the parts of a front have its stage
pub fixed_stages : {f : ℕ} {bs ns : List ℕ} {ds : List AgentFront} → AreAgentFronts f bs ns ds
    → (i : ℕ) (d : AgentFront)
    → i < length ds → get_or ds i d ≡ d → length d.fixed ≡ f
fixed_stages no_agents i d lt read = absurd (omega arith)
fixed_stages (and_agent is more) zero d lt read = ap (λ (z : AgentFront). length z.fixed) (sym read)
    ∙ is.of_stage
fixed_stages (and_agent is more) (suc i) d lt read = fixed_stages more i d (omega arith) read

pub doing_step : (f : ℕ) (ns : List ℕ) (ds : List AgentFront) (i n : ℕ) (d : AgentFront) → i < length ns
    → i < length ds
    → get_or ns i 0 ≡ n → get_or ds i d ≡ d
    → trees_doing_fixed f (drop i ns) (drop i ds)
    ≡ tree_doing n (λ t x. get_or (get_or d.fixed t []) x 0) f ∷ trees_doing_fixed f (drop (suc i) ns)
    (drop (suc i) ds)
doing_step f ns ds i n d ns_in ds_in seen read =
    (λ j. trees_doing_fixed f (drop-cons ns i 0 ns_in j) (drop-cons ds i d ds_in j))
    ∙ (λ j. tree_doing (seen j) (λ t x. get_or (get_or (read j).fixed t []) x 0) f ∷ trees_doing_fixed f
    (drop (suc i) ns) (drop (suc i) ds))

pub doing_end : (f : ℕ) (ns : List ℕ) (ds : List AgentFront) (i : ℕ) → length ds ≤ i
    → trees_doing_fixed f (drop i ns) (drop i ds) ≡ []
doing_end f ns ds i le = ap (trees_doing_fixed f (drop i ns)) (drop_all i ds le) ∙ no_agents_left (drop i ns)
  where
    no_agents_left : (ns : List ℕ) → trees_doing_fixed f ns [] ≡ []
    no_agents_left [] = refl
    no_agents_left (n ∷ ns) = refl
