-- The text of a policy in names.
use Rattle.std.specs.Prelude.{ℕ, ◌^◌, Bool, true, false, List, [], ◌∷◌, ◌++◌, length, slice_get, slice_index}
use Rattle.std.specs.Prelude.{replicate, unwrap_or, codes, decimal}
use Rattle.std.specs.List.{flat_map, range_with_len}
use Rattle.dp_spec.specs.JointNumbers.{parts_of}
use Rattle.dp_spec.specs.PolicyTree.{PolicyTree, root_action}
use Rattle.dp_model.specs.Names.{NameLists, names_of}
use Rattle.dp_policy.specs.SharedRows.{remaining_after}
use Rattle.dp_policy.specs.Trees.{tree_of}

-- the name of thing i of a list, or its number where the list was given as a count
abbrev pub name_text : List (List ℕ) → ℕ → List ℕ
name_text names i = unwrap_or (slice_get names i) (decimal i)

-- such names with a space before each, but for the first
abbrev pub names_text : List (List ℕ) → Bool → List ℕ → List ℕ
names_text names first [] = []
names_text names true (i ∷ is) = name_text names i ++ names_text names false is
names_text names false (i ∷ is) = codes " " ++ (name_text names i ++ names_text names false is)

-- the line of an own history of agent i, the earliest observation first, and of the action after it
unfoldable pub history_text : NameLists → ℕ → List ℕ → ℕ → List ℕ
history_text names i seen action =
    name_text names.agents i
    ++ (codes " ["
    ++ (names_text (names_of names.observations i) true seen
    ++ (codes "] " ++ (name_text (names_of names.actions i) action ++ codes "\n"))))

-- own history x of length t, which is a number in base n
abbrev pub history_of : ℕ → ℕ → ℕ → List ℕ
history_of n t x = parts_of (replicate t n) x

-- the line of own history x of length t, for a tree of n observations
unfoldable pub numbered_text : NameLists → ℕ → ℕ → PolicyTree → ℕ → ℕ → List ℕ
numbered_text names i n q t x =
    history_text names i (history_of n t x) (root_action (remaining_after q (history_of n t x)))

-- the lines of all own histories of length t, in their order
unfoldable pub stage_text : NameLists → ℕ → ℕ → PolicyTree → ℕ → List ℕ
stage_text names i n q t = flat_map (numbered_text names i n q t) (range_with_len 0 (n ^ t))

-- the lines of agent i, stage by stage up to a horizon
unfoldable pub agent_text : NameLists → ℕ → ℕ → PolicyTree → ℕ → List ℕ
agent_text names i n q h = flat_map (stage_text names i n q) (range_with_len 0 h)

-- the lines of agent i of a joint policy, where the agents have so many observations
unfoldable pub lines_of_agent : NameLists → List ℕ → List PolicyTree → ℕ → ℕ → List ℕ
lines_of_agent names ns qs h i = agent_text names i (slice_index ns i) (tree_of qs i) h

-- the lines of all agents
unfoldable pub policy_text : NameLists → List ℕ → List PolicyTree → ℕ → List ℕ
policy_text names ns qs h = flat_map (lines_of_agent names ns qs h) (range_with_len 0 (length ns))
