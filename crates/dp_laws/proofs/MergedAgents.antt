-- One agent whose classes a < b were merged: its front, and the tree that follows it.
use Rattle.std.proofs.Common.{◌≡◌, ◌≢◌, ◌⊎◌, inl, inr, ℕ, zero, suc, ◌+◌, ◌*◌, ◌-◌, ◌^◌, ◌<◌, ◌≤◌, true, false, cond}
use Rattle.std.proofs.Common.{eqb, ltb, List, [], ◌∷◌, map, length, get_or, Option, Some, None, refl, sym, ap, ◌∙◌}
use Rattle.std.proofs.Common.{subst, arith}
use Rattle.std.proofs.lemmas.Bool.Decides.{nat_tests}
use Rattle.dp_laws.proofs.Graft.{graft, graft_fits, tree_at-graft}
use Rattle.dp_spec.specs.Front.{AgentFront}
use Rattle.dp_laws.specs.Following.{FollowsAgentFront}
use Rattle.dp_spec.specs.Merge.{merged_agent, renumbered, without}
use Rattle.dp_spec.specs.PolicyTree.{IsPolicyTree, PolicyTree, root_action}
use Rattle.std.proofs.lemmas.Bool.{cases_eq, cases_lt}

-- ---- lists without a place
-- a place before the one that is left out
pub get_or-without_below : {X : Type 0} (j : ℕ) (xs : List X) (k : ℕ) (d : X) → k < j
    → get_or (without j xs) k d ≡ get_or xs k d
get_or-without_below zero [] k d h = refl
get_or-without_below (suc j) [] k d h = refl
get_or-without_below zero (x ∷ xs) k d h = absurd (omega arith)
get_or-without_below (suc j) (x ∷ xs) zero d h = refl
get_or-without_below (suc j) (x ∷ xs) (suc k) d h = get_or-without_below j xs k d (omega arith)

-- a place from there on
pub get_or-without_above : {X : Type 0} (j : ℕ) (xs : List X) (k : ℕ) (d : X) → j ≤ k
    → get_or (without j xs) k d ≡ get_or xs (suc k) d
get_or-without_above zero [] k d h = refl
get_or-without_above (suc j) [] k d h = refl
get_or-without_above zero (x ∷ xs) k d h = refl
get_or-without_above (suc j) (x ∷ xs) zero d h = absurd (omega arith)
get_or-without_above (suc j) (x ∷ xs) (suc k) d h = get_or-without_above j xs k d (omega arith)

-- one place less
pub length-without : {X : Type 0} (j : ℕ) (xs : List X) → j < length xs
    → suc (length (without j xs)) ≡ length xs
length-without zero [] h = absurd (omega arith)
length-without (suc j) [] h = absurd (omega arith)
length-without zero (x ∷ xs) h = refl
length-without (suc j) (x ∷ xs) h = ap suc (length-without j xs (omega arith))

-- the class of a history after a merge
pub get_or-renumbered : (a b : ℕ) (xs : List ℕ) (k : ℕ) → a < b
    → get_or (map (renumbered a b) xs) k 0 ≡ renumbered a b (get_or xs k 0)
get_or-renumbered a b [] k h = grind (arith, nat_tests)
get_or-renumbered a b (x ∷ xs) zero h = refl
get_or-renumbered a b (x ∷ xs) (suc k) h = get_or-renumbered a b xs k h

-- a lower class keeps its number
pub renumbered_low : (a b c : ℕ) → c < b → renumbered a b c ≡ c
renumbered_low a b c h = grind (arith, nat_tests)

-- a higher one is called one less
pub renumbered_high : (a b c : ℕ) → b ≤ c → renumbered a b (suc c) ≡ c
renumbered_high a b c h = grind (arith, nat_tests)

-- the trees of the merged classes, where y is that of a and b
abbrev pub joined_trees : ℕ → ℕ → PolicyTree → (ℕ → PolicyTree) → ℕ → PolicyTree
joined_trees a b y us c = cond (eqb a c) y (cond (ltb c b) (us c) (us (suc c)))

-- the same by the old classes
abbrev pub replaced_trees : ℕ → ℕ → PolicyTree → (ℕ → PolicyTree) → ℕ → PolicyTree
replaced_trees a b y us c = cond (eqb a c) y (cond (eqb b c) y (us c))

-- other classes keep their tree
pub replaced_trees_other : (a b : ℕ) (y : PolicyTree) (us : ℕ → PolicyTree) (c : ℕ) → a ≢ c → b ≢ c
    → us c ≡ replaced_trees a b y us c
replaced_trees_other a b y us c p q = grind (arith, nat_tests)

-- the first class has the new one
pub replaced_trees_first : (a b : ℕ) (y : PolicyTree) (us : ℕ → PolicyTree) → y ≡ replaced_trees a b y us a
replaced_trees_first a b y us = grind (arith, nat_tests)

-- and the second
pub replaced_trees_second : (a b : ℕ) (y : PolicyTree) (us : ℕ → PolicyTree) → y ≡ replaced_trees a b y us b
replaced_trees_second a b y us = grind (arith, nat_tests)

-- the tree of a class is that of its new number
pub joined_trees-renumbered : (a b : ℕ) (y : PolicyTree) (us : ℕ → PolicyTree) (c : ℕ) → a < b
    → joined_trees a b y us (renumbered a b c) ≡ replaced_trees a b y us c
joined_trees-renumbered a b y us c h = grind (arith, nat_tests)

-- new numbers are below the new count
pub renumbered_below : (a b k c : ℕ) → a < b → b < suc k → c < suc k → renumbered a b c < k
renumbered_below a b k c h g p = grind (arith, nat_tests)

-- the tree of an agent, with the trees of the merged classes grafted below its histories of stage f
unfoldable pub grafted_tree : ℕ → ℕ → AgentFront → ℕ → ℕ → PolicyTree → PolicyTree → (ℕ → PolicyTree)
    → PolicyTree
grafted_tree n f d a b y q us = graft n f 0 q (λ x. joined_trees a b y us
    (renumbered a b (get_or d.class_of x 0)))

-- a fact of both is one of either
fact_of_either : (P : PolicyTree → Type 0) (y x x' : PolicyTree) → (y ≡ x) ⊎ (y ≡ x') → P x → P x' → P y
fact_of_either P y x x' (inl e) p q = subst P (sym e) p
fact_of_either P y x x' (inr e) p q = subst P (sym e) q

-- a fact of each new class from those of the old ones
joined_trees_all : (a b : ℕ) (y : PolicyTree) (us : ℕ → PolicyTree) (k : ℕ) (P : PolicyTree → Type 0) → P y
    → ((c : ℕ) → c < suc k → P (us c)) → (c : ℕ) → c < k → P (joined_trees a b y us c)
joined_trees_all a b y us k P py pu c h =
    elim (eqb a c) as (λ t. P (cond t y (cond (ltb c b) (us c) (us (suc c))))) [
      | true ↦ py
      | false ↦ elim (ltb c b) as (λ t. P (cond t (us c) (us (suc c))))
          [ true ↦ pu c (omega arith) | false ↦ pu (suc c) (omega arith) ]
    ]

-- the same by an old class
replaced_trees_all : (a b : ℕ) (y : PolicyTree) (us : ℕ → PolicyTree) (P : PolicyTree → Type 0) (c : ℕ) → P y
    → P (us c) → P (replaced_trees a b y us c)
replaced_trees_all a b y us P c py pu =
    elim (eqb a c) as (λ t. P (cond t y (cond (eqb b c) y (us c))))
    [ true ↦ py | false ↦ elim (eqb b c) as (λ t. P (cond t y (us c))) [ true ↦ py | false ↦ pu ] ]

-- below b a class keeps its number
joined_trees_below : (a b : ℕ) (y : PolicyTree) (us : ℕ → PolicyTree) (c : ℕ) → a ≢ c → c < b
    → joined_trees a b y us c ≡ us c
joined_trees_below a b y us c ne h = grind (arith, nat_tests)

-- from b on the next class comes in its place
joined_trees_above : (a b : ℕ) (y : PolicyTree) (us : ℕ → PolicyTree) (c : ℕ) → a < b → b ≤ c
    → joined_trees a b y us c ≡ us (suc c)
joined_trees_above a b y us c h g = grind (arith, nat_tests)

-- the merged classes do the chosen actions
chosen_actions_kept : (a b : ℕ) (y : PolicyTree) (us : ℕ → PolicyTree) (os : List (Option ℕ)) → a < b
    → b < length os
    → get_or os a None ≡ None →
    ((c e : ℕ) → c < length os → get_or os c None ≡ Some e → root_action (us c) ≡ e) →
    (c e : ℕ) → c < length (without b os) → get_or (without b os) c None ≡ Some e
    → root_action (joined_trees a b y us c) ≡ e
chosen_actions_kept a b y us os h g na does c e p s =
    let len = length-without b os g in
    elim (cases_eq a c) [
      | inl ac ↦ let lt : c < b = omega arith in let same = get_or-without_below b os c None lt in
          let na' : get_or os c None ≡ None = subst (λ (z : ℕ). get_or os z None ≡ None) ac na in cc
      | inr ne ↦ elim (cases_lt c b) [
        | inl lt ↦ ap root_action (joined_trees_below a b y us c ne lt)
            ∙ does c e (omega arith) (sym (get_or-without_below b os c None lt) ∙ s)
        | inr le ↦ ap root_action (joined_trees_above a b y us c h le)
            ∙ does (suc c) e (omega arith) (sym (get_or-without_above b os c None le) ∙ s)
      ]
    ]

-- the grafted tree follows the merged front
pub merged_agent_follows : (bs n f r : ℕ) (d : AgentFront) (q : PolicyTree) (us : ℕ → PolicyTree)
    → FollowsAgentFront bs n f r d q us → (a b : ℕ) → a < b → b < length d.chosen →
    get_or d.chosen a None ≡ None → (y : PolicyTree) → (y ≡ us a) ⊎ (y ≡ us b) →
    FollowsAgentFront bs n f r (merged_agent a b d) (grafted_tree n f d a b y q us) (joined_trees a b y us)
unfolding grafted_tree
merged_agent_follows bs n f r d q us k a b h g na y is =
    let len = length-without b d.chosen g in
    record {
      does_fixed = λ t x p u. ap root_action (tree_at-graft n q _ t (suc (f - suc t)) f 0 x (omega arith) u)
          ∙ k.does_fixed t x p u;
      remains = λ x u.
          tree_at-graft n q _ f 0 f 0 x (omega arith) u
          ∙ ap (λ (z : ℕ). joined_trees a b y us (renumbered a b (get_or d.class_of z 0))) (omega arith)
          ∙ ap (joined_trees a b y us) (sym (get_or-renumbered a b d.class_of x h));
      does_chosen = chosen_actions_kept a b y us d.chosen h g na k.does_chosen;
      are_trees = λ c p. joined_trees_all a b y us (length (without b d.chosen)) (IsPolicyTree bs n r)
          (fact_of_either (IsPolicyTree bs n r) y (us a) (us b) is (k.are_trees a (omega arith))
          (k.are_trees b g))
          (λ c u. k.are_trees c (omega arith)) c p;
      of_stage = k.of_stage;
      in_range = λ x u. rw (get_or-renumbered a b d.class_of x h)
          (renumbered_below a b _ _ h (omega arith) (let c_in = k.in_range x u in omega arith));
    }

-- it is a tree of as many steps
pub grafted_tree_fits : (bs n f r h : ℕ) (d : AgentFront) (q : PolicyTree) (us : ℕ → PolicyTree)
    → FollowsAgentFront bs n f r d q us → (a b : ℕ) → a < b → b < length d.chosen → (y : PolicyTree)
    → (y ≡ us a) ⊎ (y ≡ us b) →
    f + r ≡ h → 0 < r → IsPolicyTree bs n h q → IsPolicyTree bs n h (grafted_tree n f d a b y q us)
unfolding grafted_tree
grafted_tree_fits bs n f zero h d q us k a b lt b_in y is e some fits = absurd (omega arith)
grafted_tree_fits bs n f (suc r) h d q us k a b lt b_in y is e some fits =
    graft_fits bs n r f h 0 q _ e fits (λ x u.
    let c = get_or d.class_of x 0 in
    let at : 0 * n ^ f + x ≡ x = omega arith in
    subst (λ (z : ℕ). IsPolicyTree bs n (suc r) (joined_trees a b y us
    (renumbered a b (get_or d.class_of z 0))))
    (sym at)
    (subst (IsPolicyTree bs n (suc r)) (sym (joined_trees-renumbered a b y us c lt))
    (replaced_trees_all a b y us (IsPolicyTree bs n (suc r)) c
    (fact_of_either (IsPolicyTree bs n (suc r)) y (us a) (us b) is (k.are_trees a (omega arith))
    (k.are_trees b b_in)) (k.are_trees c (k.in_range x u)))))
