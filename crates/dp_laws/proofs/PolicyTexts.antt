-- One spelling of policies: no two joint policies have the same lines.
use Rattle.std.proofs.Common.{◌≡◌, ℕ, zero, suc, ◌+◌, ◌-◌, ◌^◌, ◌<◌, ◌≤◌, List, [], ◌∷◌, ◌++◌, get_or, refl, sym, ap}
use Rattle.std.proofs.Common.{subst, ◌∙◌, append_assoc, arith, inl, inr}
use Rattle.std.specs.Prelude.{pos, unsigned_abs, map, replicate}
use Rattle.std.specs.List.{AllByRecursion, range_with_len}
use Rattle.std.proofs.lemmas.Bool.{cases_lt}
use Rattle.std.proofs.lemmas.List.FromFn.{get_or-map-range_with_len}
use Rattle.dp_spec.specs.PolicyTree.IsJointPolicy.{and_agent, no_agents}
use Rattle.dp_spec.specs.PolicyTree.{IsJointPolicy, IsPolicyTree, PolicyTree, root_action}
use Rattle.dp_spec.specs.Keeping.{tree_at}
use Rattle.dp_spec.specs.TextLines.{plain, Line, Allows}
use Rattle.dp_spec.specs.PolicyText.{row_form, row_actions, row_line, policy_rows, agent_lines}
use Rattle.dp_laws.proofs.TreeActions.{action_below, equal_by_actions}
use Rattle.dp_laws.proofs.LineTexts.{HasItems, bytes_of, first_of_list, rest_of_list, line_text_injective}

-- ---- rows

-- a row of plain numbers is allowed where each of them is
row_allowed : (f : ℕ → ℕ) (high a k : ℕ) → ((x : ℕ) → a ≤ x → x < a + k → (f x ≤ high) × (f x < 2 ^ 32))
    → Allows (replicate k (plain 0 high)) (map pos (map f (range_with_len a k)))
row_allowed f high a zero each = tt
row_allowed f high a (suc k) each =
    let here = each a (omega arith) (omega arith) in
    (here.1, omega arith, here.0, row_allowed f high (a + 1) k (λ x ge lt. each x (omega arith) (omega arith)))

-- a form of plain numbers has no fixed text
pub replicate_items : (k low high : ℕ) → HasItems (replicate k (plain low high))
replicate_items zero low high = tt
replicate_items (suc k) low high = replicate_items k low high

-- the row of a tree is a line that its form allows
pub row_is : (b n h t : ℕ) (q : PolicyTree) → b ≤ 2 ^ 32 → t < h → IsPolicyTree b n h q
    → HasItems (row_form b n t) × Allows (row_form b n t) (map pos (row_actions n q t))
row_is b n h t q small lt is = (
  replicate_items (n ^ t) 0 (b - 1),
  row_allowed (λ x. root_action (tree_at n q t x)) (b - 1) 0 (n ^ t) (λ x ge below.
      let in_range = action_below b n h q is t x lt (omega arith) in
      (omega arith, omega arith)),
)

-- the numbers of a row without a sign
pub map-unsigned_abs-pos : (xs : List ℕ) → map unsigned_abs (map pos xs) ≡ xs
map-unsigned_abs-pos [] = refl
map-unsigned_abs-pos (x ∷ xs) = ap (λ l. x ∷ l) (map-unsigned_abs-pos xs)

-- equal rows have equal actions
same_row : (n t : ℕ) (q p : PolicyTree) → map pos (row_actions n q t) ≡ map pos (row_actions n p t) → (x : ℕ)
    → x < n ^ t → root_action (tree_at n q t x) ≡ root_action (tree_at n p t x)
same_row n t q p e x lt =
    let rows : row_actions n q t ≡ row_actions n p t = sym (map-unsigned_abs-pos (row_actions n q t))
    ∙ ap (map unsigned_abs) e ∙ map-unsigned_abs-pos (row_actions n p t) in
    sym (get_or-map-range_with_len (λ y. root_action (tree_at n q t y)) 0 (n ^ t) x x 0 lt (omega arith))
    ∙ ap (λ (l : List ℕ). get_or l x 0) rows
    ∙ get_or-map-range_with_len (λ y. root_action (tree_at n p t y)) 0 (n ^ t) x x 0 lt (omega arith)

-- the rows of k stages from a on determine the actions of these stages, and what follows them
row_lines_injective : (b n h : ℕ) (q p : PolicyTree) → b ≤ 2 ^ 32 → IsPolicyTree b n h q → IsPolicyTree b n h p
    → (a k : ℕ) → a + k ≤ h → (more others : List Line)
    → map bytes_of (map (row_line b n q) (range_with_len a k) ++ more)
    ≡ map bytes_of (map (row_line b n p) (range_with_len a k) ++ others)
    → ((t x : ℕ) → a ≤ t → t < a + k → x < n ^ t → root_action (tree_at n q t x)
    ≡ root_action (tree_at n p t x))
    × (map bytes_of more ≡ map bytes_of others)
unfolding bytes_of
row_lines_injective b n h q p small is are a zero within more others e =
    (λ t x ge lt below. absurd (omega arith), e)
row_lines_injective b n h q p small is are a (suc k) within more others e =
    let mine = row_is b n h a q small (omega arith) is in
    let yours = row_is b n h a p small (omega arith) are in
    let here = line_text_injective (row_form b n a) (map pos (row_actions n q a)) (map pos (row_actions n p a))
    mine.0 mine.1 yours.1 (first_of_list _ _ _ _ e) in
    let below = row_lines_injective b n h q p small is are (a + 1) k (omega arith) more others
    (rest_of_list _ _ _ _ e) in (
      λ t x ge lt in_row.
          elim (cases_lt a t) [
            | inl later ↦ below.0 t x (omega arith) (omega arith) in_row
            | inr first ↦ let at : a ≡ t = omega arith in same_row n t q p
                (subst (λ (z : ℕ). map pos (row_actions n q z) ≡ map pos (row_actions n p z)) at here) x in_row
          ],
      below.1,
    )

-- ---- agents

-- no agent has more actions than a plain number can name
abbrev pub AreSmall : List ℕ → Type 0
AreSmall bs = AllByRecursion (λ b. b ≤ 2 ^ 32) bs

-- the lines of the agents from one on determine their trees, and what follows them
pub agent_lines_injective : (h : ℕ) (bs ns : List ℕ) (qs ps : List PolicyTree) → 0 < h → AreSmall bs
    → IsJointPolicy h bs ns qs → IsJointPolicy h bs ns ps → (agent : ℕ) (more others : List Line)
    → map bytes_of (agent_lines agent (policy_rows bs ns h qs) ++ more)
    ≡ map bytes_of (agent_lines agent (policy_rows bs ns h ps) ++ others)
    → (qs ≡ ps) × (map bytes_of more ≡ map bytes_of others)
agent_lines_injective h _ _ _ _ some small no_agents no_agents agent more others e = (refl, e)
agent_lines_injective h (_ ∷ _) (_ ∷ _) (_ ∷ _) [] some small (and_agent is iss) none agent more others e =
    elim none [ ]
agent_lines_injective h (b ∷ bs) (n ∷ ns) (q ∷ qs) (p ∷ ps) some small (and_agent is iss) (and_agent are ares)
    agent more others e =
    let mine = agent_lines (agent + 1) (policy_rows bs ns h qs) in
    let yours = agent_lines (agent + 1) (policy_rows bs ns h ps) in
    let tails = rest_of_list _ _ _ _ e in
    let grouped : map bytes_of (map (row_line b n q) (range_with_len 0 h)
    ++ (agent_lines (agent + 1) (policy_rows bs ns h qs) ++ more))
    ≡ map bytes_of (map (row_line b n p) (range_with_len 0 h)
    ++ (agent_lines (agent + 1) (policy_rows bs ns h ps) ++ others)) =
    ap (map bytes_of) (sym (append_assoc (map (row_line b n q) (range_with_len 0 h)) mine more)) ∙ tails
    ∙ ap (map bytes_of) (append_assoc (map (row_line b n p) (range_with_len 0 h)) yours others) in
    let rows = row_lines_injective b n h q p small.0 is are 0 h (omega arith) (mine ++ more) (yours ++ others)
    grouped in
    let tree : q ≡ p = equal_by_actions b n h q p some is are
    (λ t x lt below. rows.0 t x (omega arith) (omega arith) below) in
    let further = agent_lines_injective h bs ns qs ps some small.1 iss ares (agent + 1) more others rows.1 in
    (rw (tree, further.0) refl, further.1)
