-- Own histories, joint numbers, and what remains of trees after them.
use Rattle.std.proofs.Common.{◌≡◌, ℕ, zero, suc, ◌+◌, ◌*◌, ◌/◌, ◌%◌, ◌^◌, ◌<◌, List, [], ◌∷◌, map, refl, ap, arith}
use Rattle.std.proofs.lemmas.Nat.{mod-mul-add, div-mul-add}
use Rattle.std.proofs.Math.Nat.{pow-suc, pow-zero}
use Rattle.dp_spec.specs.Front.{AgentFront, next_own_histories, own_histories}
use Rattle.dp_spec.specs.JointHistory.{IsJointHistory}
use Rattle.dp_spec.specs.JointNumbers.{product}
use Rattle.dp_spec.specs.Keeping.{tree_at}
use Rattle.dp_laws.specs.Following.{FollowsAgentFronts}
use Rattle.dp_laws.proofs.Keeping.{keep_agents}
use Rattle.dp_spec.specs.Keeping.{KeepAgentFronts}
use Rattle.dp_spec.specs.Keeping.KeepAgentFronts.{and_agent as and_keeps, no_agents as none_keep}
use Rattle.dp_spec.specs.PolicyTree.{PolicyTree}
use Rattle.dp_spec.specs.Value.{subtrees_at}
use Rattle.dp_spec.proofs.JointNumberLaws.{AreBelow, parts_below, row_below}

-- each own history of length t is below the power
abbrev pub Within : List ℕ → ℕ → List ℕ → Type 0
Within [] t [] = Unit {0}
Within [] t (x ∷ xs) = ⊥
Within (n ∷ ns) t [] = ⊥
Within (n ∷ ns) t (x ∷ xs) = (x < n ^ t) × Within ns t xs

-- an own history one step longer is a number below the next power
pub next_history_below : (x n t p : ℕ) → x < n ^ t → p < n → x * n + p < n ^ suc t
next_history_below x n t p h g = rw pow-suc (row_below x (n ^ t) n p h g)

-- own histories one step longer
next_within : (ns : List ℕ) (t : ℕ) (xs ps : List ℕ) → Within ns t xs → AreBelow ns ps
    → Within ns (suc t) (next_own_histories ns xs ps)
next_within [] t [] ps h g = tt
next_within [] t (x ∷ xs) ps h g = absurd h
next_within (n ∷ ns) t [] ps h g = absurd h
next_within (n ∷ ns) t (x ∷ xs) [] h g = absurd g
next_within (n ∷ ns) t (x ∷ xs) (p ∷ ps) h g = (
  next_history_below x n t p h.0 g.0,
  next_within ns t xs ps h.1 g.1,
)

-- the empty own histories
none_within : (ns : List ℕ) → Within ns zero (map (λ n. 0) ns)
none_within [] = tt
none_within (n ∷ ns) = (rw pow-zero (omega arith), none_within ns)

-- the own histories of a joint history
pub own_histories_within : (ns : List ℕ) (t : ℕ) (H : List ℕ) → IsJointHistory (product ns) t H
    → Within ns t (own_histories ns H)
own_histories_within ns zero [] h = none_within ns
own_histories_within ns zero (o ∷ H) h = absurd h
own_histories_within ns (suc t) [] h = absurd h
own_histories_within ns (suc t) (o ∷ H) h = next_within ns t _ _ (own_histories_within ns t H h.1)
    (parts_below ns o h.0)

-- the trees of all agents after own histories
abbrev pub trees_at : List ℕ → List PolicyTree → ℕ → List ℕ → List PolicyTree
trees_at [] qs t xs = []
trees_at (n ∷ ns) [] t xs = []
trees_at (n ∷ ns) (q ∷ qs) t [] = []
trees_at (n ∷ ns) (q ∷ qs) t (x ∷ xs) = tree_at n q t x ∷ trees_at ns qs t xs

-- what remains one step on
pub subtrees_at_next : (ns : List ℕ) (qs : List PolicyTree) (t : ℕ) (xs ps : List ℕ) → AreBelow ns ps
    → subtrees_at (trees_at ns qs t xs) ps ≡ trees_at ns qs (suc t) (next_own_histories ns xs ps)
subtrees_at_next [] qs t xs ps h = refl
subtrees_at_next (n ∷ ns) [] t xs ps h = refl
subtrees_at_next (n ∷ ns) (q ∷ qs) t [] ps h = refl
subtrees_at_next (n ∷ ns) (q ∷ qs) t (x ∷ xs) [] h = absurd h
subtrees_at_next (n ∷ ns) (q ∷ qs) t (x ∷ xs) (p ∷ ps) h =
    let first : (x * n + p) / n ≡ x = div-mul-add x n p h.0 in
    let rest : (x * n + p) % n ≡ p = mod-mul-add x n p h.0 in
    rw (first, rest, subtrees_at_next ns qs t xs ps h.1)

-- after no observations the trees are those of the start
pub trees_at-start : {f : ℕ} {ns : List ℕ} {ds : List AgentFront} {qs : List PolicyTree}
    → KeepAgentFronts f ns ds qs
    → trees_at ns qs zero (map (λ n. 0) ns) ≡ qs
trees_at-start none_keep = refl
trees_at-start (and_keeps {q = q} k ks) = ap (λ x. q ∷ x) (trees_at-start ks)

-- the same where the trees follow a front
pub followed_from_start : {f r : ℕ} {bs ns : List ℕ} {ds : List AgentFront} {qs : List PolicyTree}
    {uss : List (ℕ → PolicyTree)} → FollowsAgentFronts f r bs ns ds qs uss
    → trees_at ns qs zero (map (λ n. 0) ns) ≡ qs
followed_from_start follows = trees_at-start (keep_agents follows)
