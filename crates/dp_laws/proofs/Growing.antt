-- One step of a search: an open leaf of greatest bound is turned into a step.
use Rattle.std.proofs.Common.{◌≡◌, ◌≢◌, ℕ, suc, ◌+◌, ◌-◌, ◌<◌, ◌≤◌, true, false, cond, ◌⊎◌, ℤ, pos, List, length}
use Rattle.std.proofs.Common.{get_or, sym, ap, subst, ◌∙◌, arith, inl, inr}
use Rattle.std.specs.Prelude.{nat_lt}
use Rattle.std.specs.Int.{int_min}
use Rattle.std.proofs.lemmas.Bool.{cases_eq, cases_lt}
use Rattle.std.proofs.lemmas.Bool.Decides.{nat_tests}
use Rattle.dp_spec.specs.Front.{Front}
use Rattle.dp_spec.specs.declared.step.Step.{Step}
use Rattle.dp_spec.specs.declared.node.NodeKind.TheVariants.{Leaf, Inner}
use Rattle.dp_spec.specs.declared.node.ArenaNode.{ArenaNode}
use Rattle.dp_spec.specs.Arena.{kind_at, above_at, grown}
use Rattle.dp_spec.specs.Space.{Space}
use Rattle.dp_spec.specs.Exploration.{Labels, IsInnerNode, IsExploration}
use Rattle.dp_laws.proofs.ArenaNodes.{IsGrown, grown_is}

-- the labels of n nodes, and of children with these fronts and bounds
abbrev pub more_labels : Labels → ℕ → List Front → Front → List ℤ → Labels
more_labels L n Fs F xs = record {
  front = λ j. cond (nat_lt j n) (L.front j) (get_or Fs (j - n) F);
  cap = λ j. cond (nat_lt j n) (L.cap j) (get_or xs (j - n) (pos 0));
}

old_front : (L : Labels) (n : ℕ) (Fs : List Front) (F : Front) (xs : List ℤ) (j : ℕ) → j < n
    → (more_labels L n Fs F xs).front j ≡ L.front j
old_front L n Fs F xs j lt = let t : nat_lt j n ≡ true = grind (arith, nat_tests) in
    ap (λ b. cond b (L.front j) (get_or Fs (j - n) F)) t

old_cap : (L : Labels) (n : ℕ) (Fs : List Front) (F : Front) (xs : List ℤ) (j : ℕ) → j < n
    → (more_labels L n Fs F xs).cap j ≡ L.cap j
old_cap L n Fs F xs j lt = let t : nat_lt j n ≡ true = grind (arith, nat_tests) in
    ap (λ b. cond b (L.cap j) (get_or xs (j - n) (pos 0))) t

pub new_front : (L : Labels) (n : ℕ) (Fs : List Front) (F : Front) (xs : List ℤ) (j : ℕ)
    → (more_labels L n Fs F xs).front (n + j) ≡ get_or Fs j F
new_front L n Fs F xs j =
    let t : nat_lt (n + j) n ≡ false = grind (arith, nat_tests) in
    let e : (n + j) - n ≡ j = omega arith in
    ap (λ b. cond b (L.front (n + j)) (get_or Fs ((n + j) - n) F)) t ∙ ap (λ i. get_or Fs i F) e

new_cap : (L : Labels) (n : ℕ) (Fs : List Front) (F : Front) (xs : List ℤ) (j : ℕ)
    → (more_labels L n Fs F xs).cap (n + j) ≡ get_or xs j (pos 0)
new_cap L n Fs F xs j =
    let t : nat_lt (n + j) n ≡ false = grind (arith, nat_tests) in
    let e : (n + j) - n ≡ j = omega arith in
    ap (λ b. cond b (L.cap (n + j)) (get_or xs ((n + j) - n) (pos 0))) t ∙ ap (λ i. get_or xs i (pos 0)) e

-- the bound of each child: the least of the leaf's and its own
abbrev pub AreCaps : Space → ℤ → List Front → List ℤ → Type 0
AreCaps S x Fs xs = (length xs ≡ length Fs) × ((j : ℕ) → j < length xs
    → get_or xs j (pos 0) ≡ int_min x (S.bound (get_or Fs j S.root)))

-- what holds of one step's node holds of the same step at an equal number
inner_along : (S : Space) (ns : List ArenaNode) (L : Labels) (k k' : ℕ) (s s' : Step) (f f' n n' : ℕ) → k' ≡ k
    → s' ≡ s → f' ≡ f → n' ≡ n
    → IsInnerNode S ns L k s f n → IsInnerNode S ns L k' s' f' n'
inner_along S ns L k k' s s' f f' n n' ek es ef en is =
    subst (λ (z : ℕ). IsInnerNode S ns L z s' f' n') (sym ek)
    (subst (λ (z : Step). IsInnerNode S ns L k z f' n') (sym es)
    (subst (λ (z : ℕ). IsInnerNode S ns L k s z n') (sym ef)
    (subst (λ (z : ℕ). IsInnerNode S ns L k s f z) (sym en) is)))

module _ (S : Space) (ns : List ArenaNode) (L : Labels) (k : ℕ) (x : ℤ) (s : Step) (xs : List ℤ)
    (explored : IsExploration S ns L) (lt : k < length ns) (leaf : kind_at ns k ≡ Leaf x)
    (open_full : S.is_full (L.front k) ≡ false) (open_wide : S.is_wide (above_at ns k) (L.front k) ≡ false)
    (may : S.May (L.front k) s) (caps : AreCaps S x (S.next (L.front k) s) xs) where
  -- the fronts after the step
  abbrev fronts : List Front
  fronts = S.next (L.front k) s

  abbrev pub L' : Labels
  L' = more_labels L (length ns) fronts S.root xs

  abbrev pub ns' : List ArenaNode
  ns' = grown ns k s xs

  read : IsGrown ns ns' k s xs
  read = grown_is ns k s xs lt

  pub longer : length ns' ≡ length ns + length xs
  longer = read.longer

  pub front_before : (j : ℕ) → j < length ns → L'.front j ≡ L.front j
  front_before j below = old_front L (length ns) fronts S.root xs j below

  pub cap_before : (j : ℕ) → j < length ns → L'.cap j ≡ L.cap j
  cap_before j below = old_cap L (length ns) fronts S.root xs j below

  pub kind_before : (j : ℕ) → j < length ns → j ≢ k → kind_at ns' j ≡ kind_at ns j
  kind_before j below ne = ap (λ (n : ArenaNode). n.kind) (read.same j below ne)

  pub kind_here : kind_at ns' k ≡ Inner s (length ns) (length xs)
  kind_here = ap (λ (n : ArenaNode). n.kind) read.here

  kind_child : (j : ℕ) → j < length xs → kind_at ns' (length ns + j) ≡ Leaf (get_or xs j (pos 0))
  kind_child j below = ap (λ (n : ArenaNode). n.kind) (read.children j below)

  pub above_before : (j : ℕ) → j < length ns → above_at ns' j ≡ above_at ns j
  above_before j below =
      elim (cases_eq j k) [
        | inl e ↦ subst (λ (z : ℕ). above_at ns' z ≡ above_at ns z) (sym e)
            (ap (λ (n : ArenaNode). n.above) read.here)
        | inr ne ↦ ap (λ (n : ArenaNode). n.above) (read.same j below ne)
      ]

  above_child : (j : ℕ) → j < length xs → above_at ns' (length ns + j) ≡ suc (above_at ns k)
  above_child j below = ap (λ (n : ArenaNode). n.above) (read.children j below)

  pub cap_here : L'.cap k ≡ x
  cap_here = cap_before k lt ∙ sym (explored.leaves k x lt leaf)

  -- a number at or past the old ones is a child's
  child_number : (j : ℕ) → j < length ns' → length ns ≤ j → (i : ℕ) × ((i < length xs) × (j ≡ length ns + i))
  child_number j below from = let n = read.longer in (j - length ns, (omega arith, omega arith))

  -- the new step's node
  grown_inner : IsInnerNode S ns' L' k s (length ns) (length xs)
  grown_inner = record {
    later = lt;
    within = (let n = read.longer in omega arith);
    allowed = subst (λ (F : Front). S.May F s) (sym (front_before k lt)) may;
    not_full = ap S.is_full (front_before k lt) ∙ open_full;
    not_wide = ap (λ d. S.is_wide d (L'.front k)) (above_before k lt)
        ∙ ap (S.is_wide (above_at ns k)) (front_before k lt) ∙ open_wide;
    each = caps.0 ∙ ap (λ F. length (S.next F s)) (sym (front_before k lt));
    fronts = λ j below. new_front L (length ns) fronts S.root xs j
        ∙ ap (λ F. get_or (S.next F s) j S.root) (sym (front_before k lt));
    caps = λ j below.
        new_cap L (length ns) fronts S.root xs j
        ∙ caps.1 j below
        ∙ ap (λ z. int_min z (S.bound (get_or fronts j S.root))) (sym cap_here)
        ∙ ap (λ F. int_min (L'.cap k) (S.bound F)) (sym (new_front L (length ns) fronts S.root xs j));
    aboves = λ j below. above_child j below ∙ ap suc (sym (above_before k lt));
  }

  -- an old step's node
  kept_inner : (j : ℕ) (t : Step) (f n : ℕ) → j < length ns → IsInnerNode S ns L j t f n
      → IsInnerNode S ns' L' j t f n
  kept_inner j t f n below is =
      let longer = read.longer in
      let within = is.within in
      record {
        later = is.later;
        within = omega arith;
        allowed = subst (λ (F : Front). S.May F t) (sym (front_before j below)) is.allowed;
        not_full = ap S.is_full (front_before j below) ∙ is.not_full;
        not_wide = ap (λ d. S.is_wide d (L'.front j)) (above_before j below)
            ∙ ap (S.is_wide (above_at ns j)) (front_before j below) ∙ is.not_wide;
        each = is.each ∙ ap (λ F. length (S.next F t)) (sym (front_before j below));
        fronts = λ i less. front_before (f + i) (omega arith) ∙ is.fronts i less
            ∙ ap (λ F. get_or (S.next F t) i S.root) (sym (front_before j below));
        caps = λ i less.
            cap_before (f + i) (omega arith)
            ∙ is.caps i less
            ∙ ap (λ z. int_min z (S.bound (L.front (f + i)))) (sym (cap_before j below))
            ∙ ap (λ F. int_min (L'.cap j) (S.bound F)) (sym (front_before (f + i) (omega arith)));
        aboves = λ i less. above_before (f + i) (omega arith) ∙ is.aboves i less
            ∙ ap suc (sym (above_before j below));
      }

  -- the step of a node is the new one or an old one
  pub step_cases : (j : ℕ) (t : Step) (f n : ℕ) → j < length ns' → kind_at ns' j ≡ Inner t f n
      → ((j ≡ k) × ((t ≡ s) × ((f ≡ length ns) × (n ≡ length xs)))) ⊎
      ((j < length ns) × (kind_at ns j ≡ Inner t f n))
  step_cases j t f n below kind =
      elim (cases_lt j (length ns)) [
        | inl old ↦
            elim (cases_eq j k) [
              | inl e ↦
                  let same : Inner t f n ≡ Inner s (length ns) (length xs) = sym kind ∙ ap (kind_at ns') e
                  ∙ kind_here in
                  inl (e, (cc same, (cc same, cc same)))
              | inr ne ↦ inr (old, sym (kind_before j old ne) ∙ kind)
            ]
        | inr new ↦
            let child = child_number j below new in
            let at_child = sym kind ∙ ap (kind_at ns') child.1.1 ∙ kind_child child.0 child.1.0 in
            absurd (cc at_child)
      ]

  -- a leaf is an old one or a child
  pub leaf_cases : (j : ℕ) (y : ℤ) → j < length ns' → kind_at ns' j ≡ Leaf y
      → ((j < length ns) × ((j ≢ k) × (kind_at ns j ≡ Leaf y))) ⊎
      ((i : ℕ) × ((i < length xs) × ((j ≡ length ns + i) × (y ≡ get_or xs i (pos 0)))))
  leaf_cases j y below kind =
      elim (cases_lt j (length ns)) [
        | inl old ↦
            elim (cases_eq j k) [
              | inl e ↦ let same : Leaf y ≡ Inner s (length ns) (length xs) = sym kind ∙ ap (kind_at ns') e
                  ∙ kind_here in absurd (cc same)
              | inr ne ↦ inl (old, (ne, sym (kind_before j old ne) ∙ kind))
            ]
        | inr new ↦
            let child = child_number j below new in
            let same : Leaf y ≡ Leaf (get_or xs child.0 (pos 0)) = sym kind ∙ ap (kind_at ns') child.1.1
            ∙ kind_child child.0 child.1.0 in
            inr (child.0, (child.1.0, (child.1.1, cc same)))
      ]

  pub exploration_grows : IsExploration S ns' L'
  exploration_grows =
      let longer = read.longer in
      record {
        some = (let n = explored.some in omega arith);
        front = front_before 0 explored.some ∙ explored.front;
        cap = cap_before 0 explored.some ∙ explored.cap;
        above = above_before 0 explored.some ∙ explored.above;
        leaves = λ j y below kind.
            elim (leaf_cases j y below kind) [
              | inl old ↦ explored.leaves j y old.0 old.1.1 ∙ sym (cap_before j old.0)
              | inr new ↦ new.1.1.1 ∙ sym (new_cap L (length ns) fronts S.root xs new.0)
                  ∙ ap L'.cap (sym new.1.1.0)
            ];
        steps = λ j t f n below kind.
            elim (step_cases j t f n below kind) [
              | inl new ↦ inner_along S ns' L' k j s t (length ns) f (length xs)
                  n new.0 new.1.0 new.1.1.0 new.1.1.1 grown_inner
              | inr old ↦ kept_inner j t f n old.0 (explored.steps j t f n old.0 old.1)
            ];
      }
