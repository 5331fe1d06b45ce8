-- The trees of the agents, made of their rows one after the other.
use Rattle.std.proofs.Common.{◌≡◌, ℕ, zero, suc, ◌+◌, ◌-◌, ◌^◌, ◌<◌, List, [], ◌∷◌, ◌++◌, length, get_or, drop, map}
use Rattle.std.proofs.Common.{refl, sym, ap, ◌∙◌, append_assoc, arith}
use Rattle.std.proofs.Math.Seq.{drop-cons}
use Rattle.std.specs.Prelude.{Vec}
use Rattle.std.specs.declared.alloc.Global.{Global}
use Rattle.std.proofs.lemmas.List.{length-map, map-append}
use Rattle.dp_policy.proofs.Lists.{mapped_at}
use Rattle.dp_policy.specs.Reading.{agents_of, rows_of}
use Rattle.dp_spec.specs.FullPolicy.{tree_doing_after}
use Rattle.dp_spec.specs.PolicyTree.{PolicyTree}
use Rattle.dp_policy.specs.declared.tree.PTree.{PTree}
use Rattle.dp_policy.specs.ActionRows.{AreActionRows, AreAgentsRows, action_in, tree_of_rows, trees_of_rows}
use Rattle.dp_policy.specs.TreeValue.{policy_tree}

-- there are rows for each agent
pub agents_counted : (h : ℕ) (bs ns : List ℕ) (agents : List (List (List ℕ))) → AreAgentsRows h bs ns agents
    → (length agents ≡ length bs) × (length agents ≡ length ns)
agents_counted h [] [] [] are = (refl, refl)
agents_counted h [] [] (rows ∷ agents) are = absurd are
agents_counted h [] (n ∷ ns) agents are = absurd are
agents_counted h (b ∷ bs) [] agents are = absurd are
agents_counted h (b ∷ bs) (n ∷ ns) [] are = absurd are
agents_counted h (b ∷ bs) (n ∷ ns) (rows ∷ agents) are =
    let others = agents_counted h bs ns agents are.1 in (ap suc others.0, ap suc others.1)

-- and they are rows of that agent
pub rows_of_agent : (h : ℕ) (bs ns : List ℕ) (agents : List (List (List ℕ))) → AreAgentsRows h bs ns agents
    → (i : ℕ) → i < length agents → AreActionRows (get_or bs i 0) (get_or ns i 0) h (get_or agents i [])
rows_of_agent h [] [] [] are i lt = absurd (omega arith)
rows_of_agent h [] [] (rows ∷ agents) are i lt = absurd are
rows_of_agent h [] (n ∷ ns) agents are i lt = absurd are
rows_of_agent h (b ∷ bs) [] agents are i lt = absurd are
rows_of_agent h (b ∷ bs) (n ∷ ns) [] are i lt = absurd are
rows_of_agent h (b ∷ bs) (n ∷ ns) (rows ∷ agents) are zero lt = are.0
rows_of_agent h (b ∷ bs) (n ∷ ns) (rows ∷ agents) are (suc i) lt = rows_of_agent h bs ns agents are.1 i
    (omega arith)

-- a tree made from the first stage on is the tree of the rows
pub tree_made : (n h : ℕ) (rows : List (List ℕ)) (q : PolicyTree) → length rows ≡ h
    → q ≡ tree_doing_after n (action_in rows) (length rows - 0) 0 0 → q ≡ tree_of_rows n h rows
tree_made n h rows q len is =
    let steps : length rows - 0 ≡ h = omega arith in
    is ∙ ap (λ r. tree_doing_after n (action_in rows) r 0 0) steps

-- one tree more is made
pub one_tree_more : (h i : ℕ) (ns : List ℕ) (agents : List (List (List ℕ))) (before after : List PTree)
    (t : PTree)
    (all : List PolicyTree)
    → i < length ns → i < length agents → after ≡ before ++ t ∷ []
    → policy_tree t ≡ tree_of_rows (get_or ns i 0) h (get_or agents i [])
    → map policy_tree before ++ trees_of_rows h (drop i ns) (drop i agents) ≡ all
    → map policy_tree after ++ trees_of_rows h (drop (i + 1) ns) (drop (i + 1) agents) ≡ all
one_tree_more h i ns agents before after t all ln la grown is so_far =
    let next : i + 1 ≡ suc i = omega arith in
    let behind = trees_of_rows h (drop (suc i) ns) (drop (suc i) agents) in
    let parts : trees_of_rows h (drop i ns) (drop i agents) ≡ tree_of_rows (get_or ns i 0) h
    (get_or agents i []) ∷ trees_of_rows h (drop (suc i) ns) (drop (suc i) agents) =
    λ j. trees_of_rows h (drop-cons ns i 0 ln j) (drop-cons agents i [] la j) in
    (λ j. map policy_tree (grown j) ++ trees_of_rows h (drop (next j) ns) (drop (next j) agents))
    ∙ ap (λ l. l ++ behind) (map-append policy_tree before (t ∷ []))
    ∙ append_assoc (map policy_tree before) (policy_tree t ∷ []) behind
    ∙ ap (λ q. map policy_tree before ++ q ∷ behind) is
    ∙ ap (λ l. map policy_tree before ++ l) (sym parts)
    ∙ so_far

-- the rows of an agent, as code reads them
pub stages_are : (agents : Vec (Vec (Vec ℕ Global) Global) Global) (i : ℕ) (v : Vec (Vec ℕ Global) Global)
    (stages : List (Vec ℕ Global))
    → i < length agents.items → v ≡ get_or agents.items i v → stages ≡ v.items
    → get_or (agents_of agents) i [] ≡ map (λ row. row.items) stages
stages_are agents i v stages lt is same = mapped_at rows_of agents.items i [] v lt is
    ∙ ap (map (λ row. row.items)) (sym same)

-- what is known of them
pub record AreAgentStages (n h : ℕ) (stages : List (Vec ℕ Global)) : Type 0 where
  pub steps : length stages ≡ h
  pub histories : (t : ℕ) → t < length stages → length (get_or (map (λ row. row.items) stages) t []) ≡ n ^ t

pub agent_stages : (b n h : ℕ) (rows : List (List ℕ)) (stages : List (Vec ℕ Global)) → AreActionRows b n h rows
    → rows ≡ map (λ row. row.items) stages → AreAgentStages n h stages
agent_stages b n h rows stages are is =
    let len : length stages ≡ h = sym (length-map stages (λ row. row.items)) ∙ ap length (sym is)
    ∙ are.stages in
    record {
      steps = len;
      histories = λ t lt. ap (λ l. length (get_or l t [])) (sym is) ∙ are.histories t (omega (arith, len));
    }
