-- The different trees of a list.
use Rattle.std.proofs.Common.{◌≡◌, ◌⊎◌, inl, inr, ℕ, zero, suc, ◌<◌, Bool, true, false, cond, eqb, not, List, [], ◌∷◌}
use Rattle.std.proofs.Common.{length, get_or, filter, refl, sym, ap, ◌∙◌, arith}
use Rattle.std.proofs.lemmas.Bool.{and_parts}
use Rattle.std.proofs.lemmas.Bool.Decides.{nat_tests}
use Rattle.dp_spec.specs.PolicyTree.{PolicyTree, PolicyTrees, more_trees, no_trees, node}
use Rattle.dp_spec.specs.SharedForm.{different_trees, place_of_tree, same_tree, same_trees}

-- ---- the test of two trees

mutual
  -- trees that pass it are equal ..
  pub same_tree_equal : (p q : PolicyTree) → same_tree p q ≡ true → p ≡ q
  same_tree_equal (node a ks) (node b ls) e =
      let both = and_parts (eqb a b) (same_trees ks ls) e in
      let first : a ≡ b = grind (arith, nat_tests) in
      rw (first, same_trees_equal ks ls both.1) refl

  same_trees_equal : (ks ls : PolicyTrees) → same_trees ks ls ≡ true → ks ≡ ls
  same_trees_equal no_trees no_trees e = refl
  same_trees_equal no_trees (more_trees l ls) e = cc
  same_trees_equal (more_trees k ks) no_trees e = cc
  same_trees_equal (more_trees k ks) (more_trees l ls) e =
      let both = and_parts (same_tree k l) (same_trees ks ls) e in
      rw (same_tree_equal k l both.0, same_trees_equal ks ls both.1) refl

mutual
  -- .. and a tree passes it with itself
  pub same_tree_itself : (q : PolicyTree) → same_tree q q ≡ true
  same_tree_itself (node a ks) = let first : eqb a a ≡ true = grind (arith, nat_tests) in
      rw (first, same_trees_itself ks) refl

  same_trees_itself : (ks : PolicyTrees) → same_trees ks ks ≡ true
  same_trees_itself no_trees = refl
  same_trees_itself (more_trees k ks) = rw (same_tree_itself k, same_trees_itself ks) refl

-- ---- members

-- a tree is one of a list
abbrev pub IsAmong : PolicyTree → List PolicyTree → Type 0
IsAmong q [] = ⊥
IsAmong q (k ∷ ks) = (q ≡ k) ⊎ IsAmong q ks

-- whether a test holds
cases_of : (t : Bool) → (t ≡ true) ⊎ (t ≡ false)
cases_of true = inl refl
cases_of false = inr refl

-- what a filter keeps
keeps_among : (test : PolicyTree → Bool) (q k : PolicyTree) (ks : List PolicyTree) (t : Bool) → IsAmong q ks
    → IsAmong q (cond t (k ∷ ks) ks)
keeps_among test q k ks true among = inr among
keeps_among test q k ks false among = among

among_filter : (test : PolicyTree → Bool) (q : PolicyTree) (ks : List PolicyTree) → IsAmong q ks → test q ≡ true
    → IsAmong q (filter test ks)
among_filter test q [] among e = absurd among
among_filter test q (k ∷ ks) (inl same) e = let pass : test k ≡ true = ap test (sym same) ∙ e in
    rw pass (inl same)
among_filter test q (k ∷ ks) (inr among) e = keeps_among test q k (filter test ks) (test k)
    (among_filter test q ks among e)

-- and what it keeps passes, and is of the list
kept_passes : (test : PolicyTree → Bool) (q k : PolicyTree) (ks : List PolicyTree) (t : Bool) → test k ≡ t
    → (IsAmong q (filter test ks) → IsAmong q ks × (test q ≡ true))
    → IsAmong q (cond t (k ∷ filter test ks) (filter test ks))
    → IsAmong q (k ∷ ks) × (test q ≡ true)
kept_passes test q k ks true e rest (inl same) = (inl same, ap test same ∙ e)
kept_passes test q k ks true e rest (inr among) = let more = rest among in (inr more.0, more.1)
kept_passes test q k ks false e rest among = let more = rest among in (inr more.0, more.1)

filter_among : (test : PolicyTree → Bool) (q : PolicyTree) (ks : List PolicyTree) → IsAmong q (filter test ks)
    → IsAmong q ks × (test q ≡ true)
filter_among test q [] among = absurd among
filter_among test q (k ∷ ks) among = kept_passes test q k ks (test k) refl (filter_among test q ks) among

-- each tree of a list is among its different trees ..
pub among_different : (q : PolicyTree) (ks : List PolicyTree) → IsAmong q ks → IsAmong q (different_trees ks)
among_different q [] among = absurd among
among_different q (k ∷ ks) (inl same) = inl same
among_different q (k ∷ ks) (inr among) =
    elim (cases_of (same_tree k q)) [
      | inl e ↦ inl (sym (same_tree_equal k q e))
      | inr e ↦ inr (among_filter (λ (other : PolicyTree). not (same_tree k other)) q (different_trees ks)
          (among_different q ks among) (rw e refl))
    ]

-- .. and these are of the list
pub different_among : (q : PolicyTree) (ks : List PolicyTree) → IsAmong q (different_trees ks) → IsAmong q ks
different_among q [] among = absurd among
different_among q (k ∷ ks) (inl same) = inl same
different_among q (k ∷ ks) (inr among) = inr (different_among q ks
    (filter_among (λ (other : PolicyTree). not (same_tree k other)) q (different_trees ks) among).0)

-- a list with a tree has a different tree
pub some_different : (q : PolicyTree) (ks : List PolicyTree) → IsAmong q ks → 0 < length (different_trees ks)
some_different q [] among = absurd among
some_different q (k ∷ ks) among = omega arith

-- ---- places

-- at its place stands the tree
pub place_among : (q d : PolicyTree) (ks : List PolicyTree) → IsAmong q ks
    → (place_of_tree q ks < length ks) × (get_or ks (place_of_tree q ks) d ≡ q)
place_among q d [] among = absurd among
place_among q d (k ∷ ks) (inl same) = let yes : same_tree q k ≡ true = ap (same_tree q) (sym same)
    ∙ same_tree_itself q in rw yes (omega arith, sym same)
place_among q d (k ∷ ks) (inr among) =
    elim (cases_of (same_tree q k)) [
      | inl e ↦ rw e (omega arith, sym (same_tree_equal q k e))
      | inr e ↦ let rest = place_among q d ks among in rw e (omega (arith, rest.0), rest.1)
    ]

-- each place of a list has one of its trees
pub at_among : (d : PolicyTree) (ks : List PolicyTree) (c : ℕ) → c < length ks → IsAmong (get_or ks c d) ks
at_among d [] c lt = absurd (omega arith)
at_among d (k ∷ ks) zero lt = inl refl
at_among d (k ∷ ks) (suc c) lt = inr (at_among d ks c (omega arith))

-- no tree stands at two places
abbrev pub AreDifferent : List PolicyTree → Type 0
AreDifferent [] = Unit {0}
AreDifferent (k ∷ ks) = ((q : PolicyTree) → IsAmong q ks → same_tree k q ≡ false) × AreDifferent ks

keeps_different : (test : PolicyTree → Bool) (k : PolicyTree) (ks : List PolicyTree) (t : Bool)
    → ((q : PolicyTree) → IsAmong q ks → same_tree k q ≡ false) → AreDifferent ks
    → AreDifferent (cond t (k ∷ ks) ks)
keeps_different test k ks true apart rest = (apart, rest)
keeps_different test k ks false apart rest = rest

filter_different : (test : PolicyTree → Bool) (ks : List PolicyTree) → AreDifferent ks
    → AreDifferent (filter test ks)
filter_different test [] are = tt
filter_different test (k ∷ ks) are =
    keeps_different test k (filter test ks) (test k) (λ q among. are.0 q (filter_among test q ks among).0)
    (filter_different test ks are.1)

not_true : (t : Bool) → not t ≡ true → t ≡ false
not_true true e = cc
not_true false e = refl

pub are_different : (ks : List PolicyTree) → AreDifferent (different_trees ks)
are_different [] = tt
are_different (k ∷ ks) = (
  λ q among. not_true (same_tree k q) (filter_among (λ (other : PolicyTree). not (same_tree k other)) q
      (different_trees ks) among).1,
  filter_different (λ (other : PolicyTree). not (same_tree k other)) (different_trees ks) (are_different ks),
)

-- so the place of the tree at a place is that place
same_tree_apart : (k q : PolicyTree) → same_tree k q ≡ false → same_tree q k ≡ false
same_tree_apart k q e =
    elim (cases_of (same_tree q k)) [
      | inl e' ↦ absurd (let same = same_tree_equal q k e' in
          let also : same_tree k q ≡ true = ap (same_tree k) same ∙ same_tree_itself k in cc)
      | inr e' ↦ e'
    ]

pub place_of_place : (d : PolicyTree) (ks : List PolicyTree) → AreDifferent ks → (c : ℕ) → c < length ks
    → place_of_tree (get_or ks c d) ks ≡ c
place_of_place d [] are c lt = absurd (omega arith)
place_of_place d (k ∷ ks) are zero lt = rw (same_tree_itself k) refl
place_of_place d (k ∷ ks) are (suc c) lt =
    let q = get_or ks c d in
    let apart = same_tree_apart k q (are.0 q (at_among d ks c (omega arith))) in
    rw apart (ap suc (place_of_place d ks are.1 c (omega arith)))
