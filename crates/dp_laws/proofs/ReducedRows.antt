-- A shared policy whose rows differ at each stage and are reached in order is the shared form of what its rows mean.
use Rattle.std.proofs.Common.{◌≡◌, ◌⊎◌, inl, inr, ℕ, zero, suc, ◌+◌, ◌-◌, ◌*◌, ◌^◌, ◌<◌, ◌≤◌, Bool, true, false, cond}
use Rattle.std.proofs.Common.{not, ◌&&◌, ◌||◌, List, [], ◌∷◌, ◌++◌, length, get_or, filter, map, refl, sym, ap, ◌∙◌}
use Rattle.std.proofs.Common.{subst, append_assoc, arith}
use Rattle.std.specs.Prelude.{max}
use Rattle.std.specs.List.{range_with_len}
use Rattle.std.proofs.lemmas.Bool.{cases_lt}
use Rattle.std.proofs.lemmas.List.FromFn.{fill_by_all, get_or-map-range_with_len, length-map-range_with_len}
use Rattle.std.proofs.lemmas.Nat.{div-mul-add, mod-mul-add}
use Rattle.std.proofs.Math.Nat.{pow-suc, pow-zero}
use Rattle.dp_laws.proofs.DifferentTrees.{are_different, place_of_place, same_tree_equal, same_tree_itself}
use Rattle.dp_laws.proofs.PlainForms.{all_observations, no_observations, same_row}
use Rattle.dp_laws.proofs.SharedForms.{no_tree}
use Rattle.dp_laws.proofs.SharedTrees.{row_of_history_is, first_count_is, last_row_nexts, next_row_below, row_nexts}
use Rattle.dp_laws.proofs.SharedTrees.{rows_tree, rows_tree_is, subtree_of_row}
use Rattle.dp_spec.specs.Keeping.{tree_at}
use Rattle.dp_spec.specs.Model.{Model}
use Rattle.dp_spec.specs.PolicyTree.{PolicyTree, root_action, subtree}
use Rattle.dp_spec.specs.SharedForm.{AreInOrder, AreReduced, AreReducedRows, IsSharedForm, all_nexts, different_trees}
use Rattle.dp_spec.specs.SharedForm.{place_of_tree, read_after, remaining_trees, same_tree, shared_form, shared_row}
use Rattle.dp_spec.specs.SharedForm.{shared_rows, shared_rows_of}
use Rattle.dp_spec.specs.SharedPolicy.{AgentRows, AreAgentRows, AreRowsOfAgents, IsSharedOf, PolicyRow, SharedPolicy}
use Rattle.dp_spec.specs.SharedPolicy.{no_row, row_at, row_count, row_of_history, unfolded, unfolded_tree}
use Rattle.dp_spec.specs.SharedPolicy.AreRowsOfAgents.{and_agent, no_agents}
use Rattle.dp_base.proofs.Members.{filter_same}

-- ---- numbers in order

-- reading never forgets
read_more : (c : ℕ) (xs : List ℕ) → c ≤ read_after c xs
read_more c [] = omega arith
read_more c (x ∷ xs) = omega (arith, read_more (max c (suc x)) xs)

-- one list after the other
read_append : (c : ℕ) (xs ys : List ℕ) → read_after c (xs ++ ys) ≡ read_after (read_after c xs) ys
read_append c [] ys = refl
read_append c (x ∷ xs) ys = read_append (max c (suc x)) xs ys

order_append : (c : ℕ) (xs ys : List ℕ) → AreInOrder c xs → AreInOrder (read_after c xs) ys
    → AreInOrder c (xs ++ ys)
order_append c [] ys p q = q
order_append c (x ∷ xs) ys p q = (p.0, order_append (max c (suc x)) xs ys p.1 q)

order_parts : (c : ℕ) (xs ys : List ℕ) → AreInOrder c (xs ++ ys) → AreInOrder c xs
    × AreInOrder (read_after c xs) ys
order_parts c [] ys p = (tt, p)
order_parts c (x ∷ xs) ys p = let rest = order_parts (max c (suc x)) xs ys p.1 in ((p.0, rest.0), rest.1)

-- numbers that were read before change nothing
abbrev AreRead : ℕ → List ℕ → Type 0
AreRead c [] = Unit {0}
AreRead c (x ∷ xs) = (x < c) × AreRead c xs

read_same : (c : ℕ) (xs : List ℕ) → AreRead c xs → read_after c xs ≡ c
read_same c [] r = refl
read_same c (x ∷ xs) r = let same : max c (suc x) ≡ c = omega (arith, r.0) in rw same (read_same c xs r.1)

read_in_order : (c : ℕ) (xs : List ℕ) → AreRead c xs → AreInOrder c xs
read_in_order c [] r = tt
read_in_order c (x ∷ xs) r = let same : max c (suc x) ≡ c = omega (arith, r.0) in
    (omega (arith, r.0), rw same (read_in_order c xs r.1))

-- what was read stays read
read_weaker : (c k : ℕ) (xs : List ℕ) → c ≤ k → AreRead c xs → AreRead k xs
read_weaker c k [] le r = tt
read_weaker c k (x ∷ xs) le r = (omega (arith, r.0), read_weaker c k xs le r.1)

all_read : (c : ℕ) (xs : List ℕ) → AreRead (read_after c xs) xs
all_read c [] = tt
all_read c (x ∷ xs) = (omega (arith, read_more (max c (suc x)) xs), all_read (max c (suc x)) xs)

-- ---- lists of numbers, each with a list that follows it
abbrev followed : (ℕ → List ℕ) → List ℕ → List ℕ
followed next [] = []
followed next (y ∷ ys) = next y ++ followed next ys

-- how many are read after the lists of the numbers below s
abbrev read_until : (ℕ → List ℕ) → ℕ → ℕ
read_until next s = read_after 0 (followed next (range_with_len 0 s))

followed_append : (next : ℕ → List ℕ) (xs ys : List ℕ) → followed next (xs ++ ys) ≡ followed next xs
    ++ followed next ys
followed_append next [] ys = refl
followed_append next (x ∷ xs) ys = ap (λ (l : List ℕ). next x ++ l) (followed_append next xs ys)
    ∙ sym (append_assoc (next x) (followed next xs) (followed next ys))

range_more : (a s : ℕ) → range_with_len a (suc s) ≡ range_with_len a s ++ (a + s) ∷ []
range_more a zero = let e : a + 0 ≡ a = omega arith in rw e refl
range_more a (suc s) = let e : a + suc s ≡ a + 1 + s = omega arith in
    rw e (ap (λ (l : List ℕ). a ∷ l) (range_more (a + 1) s))

pub append_none : (xs : List ℕ) → xs ++ [] ≡ xs
append_none [] = refl
append_none (x ∷ xs) = ap (λ (l : List ℕ). x ∷ l) (append_none xs)

-- the lists of the numbers below s, and the one of s
followed_more : (next : ℕ → List ℕ) (s : ℕ) → followed next (range_with_len 0 (suc s))
    ≡ followed next (range_with_len 0 s) ++ next s
followed_more next s =
    ap (followed next) (range_more 0 s) ∙ followed_append next (range_with_len 0 s) ((0 + s) ∷ [])
    ∙ ap (λ (l : List ℕ). followed next (range_with_len 0 s) ++ l) (append_none (next (0 + s)))
    ∙ ap (λ (k : ℕ). followed next (range_with_len 0 s) ++ next k) (omega arith)

until_more : (next : ℕ → List ℕ) (s : ℕ) → read_until next (suc s) ≡ read_after (read_until next s) (next s)
until_more next s = ap (read_after 0) (followed_more next s)
    ∙ read_append 0 (followed next (range_with_len 0 s)) (next s)

until_grows : (next : ℕ → List ℕ) (r k : ℕ) → read_until next r ≤ read_until next (r + k)
until_grows next r zero = let e : r + 0 ≡ r = omega arith in rw e (omega arith)
until_grows next r (suc k) =
    let e : r + suc k ≡ suc (r + k) = omega arith in
    rw (e, until_more next (r + k)) (omega (
      arith,
      until_grows next r k,
      read_more (read_until next (r + k)) (next (r + k)),
    ))

-- the list of a number below s is read by then
read_before : (next : ℕ → List ℕ) (y s : ℕ) → y < s → AreRead (read_until next s) (next y)
read_before next y s lt =
    let here : AreRead (read_until next (suc y)) (next y) = rw (until_more next y)
    (all_read (read_until next y) (next y)) in
    let e : suc y + (s - suc y) ≡ s = omega arith in
    read_weaker (read_until next (suc y)) (read_until next s) (next y)
    (subst (λ (k : ℕ). read_until next (suc y) ≤ read_until next k) e (until_grows next (suc y) (s - suc y)))
    here

-- where the lists of the numbers below k are in order, so are those of numbers in order that end at k
order_until : (next : ℕ → List ℕ) (k : ℕ) → AreInOrder 0 (followed next (range_with_len 0 k)) → (s : ℕ) → s < k
    → AreInOrder (read_until next s) (next s)
order_until next zero order s lt = absurd (omega arith)
order_until next (suc k) order s lt =
    let parts = order_parts 0 (followed next (range_with_len 0 k)) (next k)
    (subst (AreInOrder 0) (followed_more next k) order) in
    elim (cases_lt s k) [
      | inl less ↦ order_until next k parts.0 s less
      | inr le ↦ let e : k ≡ s = omega arith in subst (λ (x : ℕ). AreInOrder (read_until next x) (next x))
          e parts.1
    ]

order_followed : (next : ℕ → List ℕ) (k : ℕ) → AreInOrder 0 (followed next (range_with_len 0 k))
    → (ys : List ℕ) (s : ℕ)
    → AreInOrder s ys → read_after s ys ≡ k →
    AreInOrder (read_until next s) (followed next ys) × (read_after (read_until next s) (followed next ys)
    ≡ read_until next k)
order_followed next k order [] s p e = (tt, ap (read_until next) e)
order_followed next k order (y ∷ ys) s p e =
    elim (cases_lt y s) [
      | inl old ↦
          let stays : max s (suc y) ≡ s = omega arith in
          let read = read_before next y s old in
          let rest = order_followed next k order ys s (subst (λ (c : ℕ). AreInOrder c ys) stays p.1)
          (ap (λ (c : ℕ). read_after c ys) (sym stays) ∙ e) in
          let same = read_same (read_until next s) (next y) read in (
            order_append (read_until next s) (next y) (followed next ys)
                (read_in_order (read_until next s) (next y) read)
                (subst (λ (c : ℕ). AreInOrder c (followed next ys)) (sym same) rest.0),
            read_append (read_until next s) (next y) (followed next ys)
                ∙ ap (λ (c : ℕ). read_after c (followed next ys)) same ∙ rest.1,
          )
      | inr new ↦
          let y_is : y ≡ s = omega (arith, p.0) in
          let grows : max s (suc y) ≡ suc s = omega arith in
          let inside : suc s ≤ k = omega (arith, read_more (max s (suc y)) ys, e) in
          let rest = order_followed next k order ys (suc s) (subst (λ (c : ℕ). AreInOrder c ys) grows p.1)
          (ap (λ (c : ℕ). read_after c ys) (sym grows) ∙ e) in
          let here : AreInOrder (read_until next s) (next y) = subst
          (λ (x : ℕ). AreInOrder (read_until next s) (next x)) (sym y_is) (order_until next k order s inside) in
          let then : read_after (read_until next s) (next y)
          ≡ read_until next (suc s) = ap (λ (x : ℕ). read_after (read_until next s) (next x)) y_is
          ∙ sym (until_more next s) in (
            order_append (read_until next s) (next y) (followed next ys) here
                (subst (λ (c : ℕ). AreInOrder c (followed next ys)) (sym then) rest.0),
            read_append (read_until next s) (next y) (followed next ys)
                ∙ ap (λ (c : ℕ). read_after c (followed next ys)) then ∙ rest.1,
          )
    ]

-- ---- filters of trees

filter_twice : (p r : PolicyTree → Bool) (ks : List PolicyTree)
    → filter p (filter r ks) ≡ filter (λ (k : PolicyTree). r k && p k) ks
filter_twice p r [] = refl
filter_twice p r (k ∷ ks) = go (r k) refl (filter_twice p r ks)
  where
    go : (t : Bool) → r k ≡ t → filter p (filter r ks) ≡ filter (λ (k : PolicyTree). r k && p k) ks
        → filter p (cond (r k) (k ∷ filter r ks) (filter r ks))
        ≡ cond (r k && p k) (k ∷ filter (λ (k : PolicyTree). r k && p k) ks)
        (filter (λ (k : PolicyTree). r k && p k) ks)
    go true e rest = rw (e, rest) refl
    go false e rest = rw (e, rest) refl

filter_none : (ks : List PolicyTree) → filter (λ (k : PolicyTree). true) ks ≡ ks
filter_none [] = refl
filter_none (k ∷ ks) = ap (λ (l : List PolicyTree). k ∷ l) (filter_none ks)

-- ---- the different ones of trees that are numbered in order

-- a tree is one of g 0, .., g (c - 1)
abbrev is_early : (ℕ → PolicyTree) → ℕ → PolicyTree → Bool
is_early g zero q = false
is_early g (suc c) q = same_tree (g c) q || is_early g c q

early_one : (g : ℕ → PolicyTree) (c x : ℕ) → x < c → is_early g c (g x) ≡ true
early_one g zero x lt = absurd (omega arith)
early_one g (suc c) x lt =
    elim (cases_lt x c) [
      | inl less ↦ rw (early_one g c x less) (or_true (same_tree (g c) (g x)))
      | inr le ↦ let e : x ≡ c = omega arith in let here : same_tree (g c) (g x)
          ≡ true = ap (λ (k : ℕ). same_tree (g c) (g k)) e ∙ same_tree_itself (g c) in rw here refl
    ]
  where
    or_true : (b : Bool) → (b || true) ≡ true
    or_true true = refl
    or_true false = refl

cases_of : (t : Bool) → (t ≡ true) ⊎ (t ≡ false)
cases_of true = inl refl
cases_of false = inr refl

module _ (g : ℕ → PolicyTree) (k : ℕ) (injective : (r s : ℕ) → r < k → s < k → g r ≡ g s → r ≡ s) where
  late_one : (c x : ℕ) → c ≤ x → x < k → is_early g c (g x) ≡ false
  late_one zero x le inside = refl
  late_one (suc c) x le inside =
      elim (cases_of (same_tree (g c) (g x))) [
        | inl e ↦ absurd (let same = injective c x (omega arith) inside (same_tree_equal (g c) (g x) e) in
            omega arith)
        | inr e ↦ rw (e, late_one c x (omega arith) inside) refl
      ]

  -- the trees that are not early
  abbrev is_late : ℕ → PolicyTree → Bool
  is_late c q = not (is_early g c q)

  -- an early tree need not be left out once more
  skip_early : (c x : ℕ) → x < c → (q : PolicyTree) → (not (same_tree (g x) q) && is_late c q) ≡ is_late c q
  skip_early c x lt q =
      elim (cases_of (same_tree (g x) q)) [
        | inl e ↦ let early : is_early g c q ≡ true = ap (is_early g c) (sym (same_tree_equal (g x) q e))
            ∙ early_one g c x lt in rw (e, early) refl
        | inr e ↦ rw e refl
      ]

  -- the next tree joins the early ones
  join_early : (c : ℕ) (q : PolicyTree) → (not (same_tree (g c) q) && is_late c q) ≡ is_late (suc c) q
  join_early c q = go (same_tree (g c) q) (is_early g c q)
    where
      go : (a b : Bool) → (not a && not b) ≡ not (a || b)
      go true b = refl
      go false b = refl

  -- the different ones of trees in order, but for the early ones, are the later ones
  different_later : (ys : List ℕ) (c : ℕ) → AreInOrder c ys → read_after c ys ≡ k
      → filter (is_late c) (different_trees (map g ys)) ≡ map g (range_with_len c (k - c))
  different_later [] c p e = let none : k - c ≡ 0 = omega (arith, e) in rw none refl
  different_later (x ∷ xs) c p e =
      let X = different_trees (map g xs) in
      let twice = filter_twice (is_late c) (λ (other : PolicyTree). not (same_tree (g x) other)) X in
      elim (cases_lt x c) [
        | inl old ↦
            let stays : max c (suc x) ≡ c = omega arith in
            let early : is_late c (g x) ≡ false = ap not (early_one g c x old) in
            let rest = different_later xs c (subst (λ (s : ℕ). AreInOrder s xs) stays p.1)
            (ap (λ (s : ℕ). read_after s xs) (sym stays) ∙ e) in
            rw early (twice ∙ filter_same _ (is_late c) X (skip_early c x old) ∙ rest)
        | inr new ↦
            let x_is : x ≡ c = omega (arith, p.0) in
            let grows : max c (suc x) ≡ suc c = omega arith in
            let inside : suc c ≤ k = omega (arith, read_more (max c (suc x)) xs, e) in
            let late : is_late c (g x) ≡ true = ap not (late_one c x (omega arith) (omega arith)) in
            let rest = different_later xs (suc c) (subst (λ (s : ℕ). AreInOrder s xs) grows p.1)
            (ap (λ (s : ℕ). read_after s xs) (sym grows) ∙ e) in
            let left : k - c ≡ suc (k - suc c) = omega arith in
            let from : c + 1 ≡ suc c = omega arith in
            let here : filter (is_late c) (filter (λ (other : PolicyTree). not (same_tree (g x) other)) X)
            ≡ map g (range_with_len (suc c) (k - suc c)) =
            twice ∙ filter_same _ (is_late (suc c)) X (λ q. ap
            (λ (y : ℕ). not (same_tree (g y) q) && is_late c q)
            x_is ∙ join_early c q) ∙ rest in
            rw (late, left, from) (ap (λ (l : List PolicyTree). g x ∷ l) here
            ∙ ap (λ (y : ℕ). g y ∷ map g (range_with_len (suc c) (k - suc c))) x_is)
      ]

  -- so all of them are all trees
  pub different_all : (ys : List ℕ) → AreInOrder 0 ys → read_after 0 ys ≡ k
      → different_trees (map g ys) ≡ map g (range_with_len 0 k)
  different_all ys p e = sym (filter_none (different_trees (map g ys))) ∙ different_later ys 0 p e
      ∙ ap (λ (x : ℕ). map g (range_with_len 0 x)) (omega arith)

-- ---- one agent

-- lists by blocks
range_blocks : (f : ℕ → ℕ) (n a k : ℕ) → map f (range_with_len (a * n) (k * n))
    ≡ followed (λ x. map (λ o. f (x * n + o)) (range_with_len 0 n)) (range_with_len a k)
range_blocks f n a zero = let e : zero * n ≡ 0 = omega arith in rw e refl
range_blocks f n a (suc k) =
    let e : suc k * n ≡ n + k * n = omega arith in
    let next : a * n + n ≡ (a + 1) * n = omega arith in
    rw e (split f (a * n) n (k * n) ∙ ap (λ (b : ℕ). map (λ o. f (a * n + o)) (range_with_len 0 n)
    ++ map f (range_with_len b (k * n))) next
    ∙ ap (λ (l : List ℕ). map (λ o. f (a * n + o)) (range_with_len 0 n) ++ l) (range_blocks f n (a + 1) k))
  where
    shift : (f : ℕ → ℕ) (b c i : ℕ) → map f (range_with_len (b + c) i)
        ≡ map (λ o. f (b + o)) (range_with_len c i)
    shift f b c zero = refl
    shift f b c (suc i) = let e : b + c + 1 ≡ b + (c + 1) = omega arith in
        rw e (ap (λ (l : List ℕ). f (b + c) ∷ l) (shift f b (c + 1) i))

    split_at : (f : ℕ → ℕ) (b i j : ℕ) → map f (range_with_len b (i + j)) ≡ map f (range_with_len b i)
        ++ map f (range_with_len (b + i) j)
    split_at f b zero j = let e : 0 + j ≡ j = omega arith in let e' : b + 0 ≡ b = omega arith in rw (e, e') refl
    split_at f b (suc i) j = let e : suc i + j ≡ suc (i + j) = omega arith in
        let e' : b + suc i ≡ b + 1 + i = omega arith in rw (e, e')
        (ap (λ (l : List ℕ). f b ∷ l) (split_at f (b + 1) i j))

    split : (f : ℕ → ℕ) (b i j : ℕ) → map f (range_with_len b (i + j))
        ≡ map (λ o. f (b + o)) (range_with_len 0 i)
        ++ map f (range_with_len (b + i) j)
    split f b i j =
        split_at f b i j
        ∙ ap (λ (l : List ℕ). l ++ map f (range_with_len (b + i) j))
        (ap (λ (s : ℕ). map f (range_with_len s i)) (omega arith) ∙ shift f b 0 i)

-- the next rows of the rows of a list, by their places
nexts_followed : (rows : List PolicyRow) → all_nexts rows ≡ followed (λ r. (get_or rows r no_row).next)
    (range_with_len 0 (length rows))
nexts_followed [] = refl
nexts_followed (row ∷ rows) = ap (λ (l : List ℕ). row.next ++ l)
    (nexts_followed rows ∙ later (λ r. (get_or (row ∷ rows) r no_row).next) 0 (length rows))
  where
    later : (next : ℕ → List ℕ) (a k : ℕ) → followed (λ r. next (suc r)) (range_with_len a k)
        ≡ followed next (range_with_len (a + 1) k)
    later next a zero = refl
    later next a (suc k) = let e : a + 1 ≡ suc a = omega arith in
        let e' : a + 1 + 1 ≡ suc a + 1 = omega arith in
        rw e (ap (λ (l : List ℕ). next (suc a) ++ l) (ap (λ (b : ℕ). followed (λ r. next (suc r))
        (range_with_len b k)) (omega arith) ∙ later next (suc a) k))

-- equal lists have equal lists after their numbers
followed_same : (f g : ℕ → List ℕ) (a k : ℕ) → ((x : ℕ) → a ≤ x → x < a + k → f x ≡ g x)
    → followed f (range_with_len a k) ≡ followed g (range_with_len a k)
followed_same f g a zero same = refl
followed_same f g a (suc k) same =
    rw (same a (omega arith) (omega arith)) (ap (λ (l : List ℕ). g a ++ l)
    (followed_same f g (a + 1) k (λ x from to. same x (omega arith) (omega arith))))

followed_map : (f : ℕ → ℕ) (next : ℕ → List ℕ) (xs : List ℕ)
    → followed next (map f xs) ≡ followed (λ x. next (f x)) xs
followed_map f next [] = refl
followed_map f next (x ∷ xs) = ap (λ (l : List ℕ). next (f x) ++ l) (followed_map f next xs)

map_twice : (g : ℕ → PolicyTree) (f : ℕ → ℕ) (xs : List ℕ) → map g (map f xs) ≡ map (λ x. g (f x)) xs
map_twice g f [] = refl
map_twice g f (x ∷ xs) = ap (λ (l : List PolicyTree). g (f x) ∷ l) (map_twice g f xs)

map_same : (f g : ℕ → PolicyTree) (a k : ℕ) → ((x : ℕ) → a ≤ x → x < a + k → f x ≡ g x)
    → map f (range_with_len a k) ≡ map g (range_with_len a k)
map_same f g a zero same = refl
map_same f g a (suc k) same = rw (same a (omega arith) (omega arith))
    (ap (λ (l : List PolicyTree). g a ∷ l) (map_same f g (a + 1) k
    (λ x from to. same x (omega arith) (omega arith))))

map_rows : (f : PolicyTree → PolicyRow) (g : ℕ → PolicyTree) (xs : List ℕ)
    → map f (map g xs) ≡ map (λ x. f (g x)) xs
map_rows f g [] = refl
map_rows f g (x ∷ xs) = ap (λ (l : List PolicyRow). f (g x) ∷ l) (map_rows f g xs)

module _ (b n h : ℕ) (stages : AgentRows) (are : AreAgentRows b n h stages)
    (reduced : AreReducedRows h stages) where
  -- rows with one tree do the same
  same_actions : (t r s : ℕ) → rows_tree stages t r ≡ rows_tree stages t s
      → (row_at stages t r).action ≡ (row_at stages t s).action
  same_actions t r s same = ap root_action (sym (rows_tree_is stages t r)) ∙ ap root_action same
      ∙ ap root_action (rows_tree_is stages t s)

  -- and are one row
  rows_apart : (k t : ℕ) → t + suc k ≡ h → (r s : ℕ) → r < row_count stages t → s < row_count stages t
      → rows_tree stages t r ≡ rows_tree stages t s → r ≡ s
  rows_apart zero t e r s hr hs same =
      let inside = are.of_horizon in
      reduced.different t r s (omega arith) hr hs
      (same_row _ _ (same_actions t r s same) (last_row_nexts b n stages are.rows t r (omega arith) hr
      ∙ sym (last_row_nexts b n stages are.rows t s (omega arith) hs)))
  rows_apart (suc k) t e r s hr hs same =
      let inside = are.of_horizon in
      let mine = row_nexts b n stages are.rows t r (omega arith) hr in
      let yours = row_nexts b n stages are.rows t s (omega arith) hs in
      reduced.different t r s (omega arith) hr hs
      (same_row _ _ (same_actions t r s same)
      (fill_by_all (λ o. get_or (row_at stages t s).next o 0) (row_at stages t r).next n 0 mine
      (λ o seen. rows_apart k (suc t) (omega arith) _ _ (next_row_below b n stages are.rows t r o (omega arith)
      hr seen) (next_row_below b n stages are.rows t s o (omega arith) hs seen)
      (sym (subtree_of_row stages t r o (omega arith)) ∙ ap (λ (q : PolicyTree). subtree q o) same
      ∙ subtree_of_row stages t s o (omega arith)))
      ∙ sym (fill_by_all (λ o. get_or (row_at stages t s).next o 0) (row_at stages t s).next n 0 yours
      (λ o seen. refl))))

  -- the rows after all own histories of a length are in order, and all rows of the stage
  histories_in_order : (t : ℕ) → t < h →
      AreInOrder 0 (map (row_of_history n stages t) (range_with_len 0 (n ^ t)))
      × (read_after 0 (map (row_of_history n stages t) (range_with_len 0 (n ^ t))) ≡ row_count stages t)
  histories_in_order zero lt =
      let one = are.one_first in
      let same = first_count_is stages in
      let power = pow-zero n in rw power ((omega arith, tt), omega arith)
  histories_in_order (suc t) lt =
      let inside = are.of_horizon in
      let next = λ (r : ℕ). (row_at stages t r).next in
      let R = row_of_history n stages t in
      let before = histories_in_order t (omega arith) in
      let rows = nexts_followed (get_or stages t []) in
      let order : AreInOrder 0 (followed next (range_with_len 0 (row_count stages t))) = subst (AreInOrder 0)
      rows
      (reduced.in_order t lt) in
      let ends : read_until next (row_count stages t) ≡ row_count stages (suc t) = ap (read_after 0) (sym rows)
      ∙ reduced.reached t lt in
      let all = order_followed next (row_count stages t) order (map R (range_with_len 0 (n ^ t)))
      0 before.0 before.1 in
      let lists : map (row_of_history n stages (suc t)) (range_with_len 0 (n ^ suc t))
      ≡ followed next (map R (range_with_len 0 (n ^ t))) =
      ap (λ (k : ℕ). map (row_of_history n stages (suc t)) (range_with_len 0 k)) (pow-suc n t)
      ∙ ap (λ (a : ℕ). map (row_of_history n stages (suc t)) (range_with_len a (n ^ t * n))) (omega arith)
      ∙ range_blocks (row_of_history n stages (suc t)) n 0 (n ^ t)
      ∙ followed_same _ (λ x. next (R x)) 0 (n ^ t) (λ x from to. sym (block t x lt (omega arith)))
      ∙ sym (followed_map R next (range_with_len 0 (n ^ t))) in
      (subst (AreInOrder 0) (sym lists) all.0, ap (read_after 0) lists ∙ all.1 ∙ ends)
    where
      block : (t x : ℕ) → suc t < h → x < n ^ t
          → (row_at stages t (row_of_history n stages t x)).next
          ≡ map (λ o. row_of_history n stages (suc t) (x * n + o)) (range_with_len 0 n)
      block t x lt below =
          let inside = are.of_horizon in
          let row = row_of_history_is b n h stages are t x (omega arith) below in
          fill_by_all (λ o. row_of_history n stages (suc t) (x * n + o))
          (row_at stages t (row_of_history n stages t x)).next n 0
          (row_nexts b n stages are.rows t _ (omega arith) row.0)
          (λ o seen. let first = div-mul-add x n o seen in let rest = mod-mul-add x n o seen in
          rw (first, rest) refl)

  -- so the remaining trees are those of the rows, in their order
  remaining_are_rows : (t : ℕ) → t < h → remaining_trees n (unfolded_tree stages 0) t
      ≡ map (rows_tree stages t) (range_with_len 0 (row_count stages t))
  remaining_are_rows t lt =
      let order = histories_in_order t lt in
      ap different_trees (map_same (tree_at n (unfolded_tree stages 0) t)
      (λ x. rows_tree stages t (row_of_history n stages t x)) 0 (n ^ t)
      (λ x from to. (row_of_history_is b n h stages are t x lt (omega arith)).1)
      ∙ sym (map_twice (rows_tree stages t) (row_of_history n stages t) (range_with_len 0 (n ^ t))))
      ∙ different_all (rows_tree stages t) (row_count stages t)
      (λ r s hr hs. rows_apart (h - suc t) t (omega arith) r s hr hs)
      (map (row_of_history n stages t) (range_with_len 0 (n ^ t))) order.0 order.1

  -- the place of the tree of a row is its number
  place_of_row : (t r : ℕ) → t < h → r < row_count stages t → place_of_tree (rows_tree stages t r)
      (remaining_trees n (unfolded_tree stages 0) t) ≡ r
  place_of_row t r lt below =
      let q = unfolded_tree stages 0 in
      let list = remaining_are_rows t lt in
      let size : length (remaining_trees n q t) ≡ row_count stages t = ap (λ (l : List PolicyTree). length l)
      list
      ∙ length-map-range_with_len (rows_tree stages t) 0 (row_count stages t) in
      let at : get_or (remaining_trees n q t) r no_tree ≡ rows_tree stages t r = ap
      (λ (l : List PolicyTree). get_or l r no_tree) list
      ∙ get_or-map-range_with_len (rows_tree stages t) 0 (row_count stages t) r r no_tree below (omega arith) in
      ap (λ (z : PolicyTree). place_of_tree z (remaining_trees n q t)) (sym at)
      ∙ place_of_place no_tree (remaining_trees n q t) (are_different
      (map (tree_at n q t) (range_with_len 0 (n ^ t)))) r (omega arith)

  -- the rows are those of the shared form
  row_is_shared : (t r : ℕ) → t < h → r < row_count stages t
      → row_at stages t r ≡ shared_row n h (unfolded_tree stages 0) t (rows_tree stages t r)
  row_is_shared t r lt below =
      let inside = are.of_horizon in
      let q = unfolded_tree stages 0 in
      same_row _ _ (sym (ap root_action (rows_tree_is stages t r)))
      (elim (cases_lt (suc t) h) [
        | inl step ↦
            let nexts = row_nexts b n stages are.rows t r (omega arith) below in
            fill_by_all (λ o. place_of_tree (subtree (rows_tree stages t r) o) (remaining_trees n q (suc t)))
            (row_at stages t r).next n 0 nexts
            (λ o seen. sym (ap (λ (z : PolicyTree). place_of_tree z (remaining_trees n q (suc t)))
            (subtree_of_row stages t r o (omega arith)) ∙ place_of_row (suc t) _ step
            (next_row_below b n stages are.rows t r o (omega arith) below seen)))
            ∙ ap (map (λ o. place_of_tree (subtree (rows_tree stages t r) o) (remaining_trees n q (suc t))))
            (sym (all_observations n h t step))
        | inr end ↦
            last_row_nexts b n stages are.rows t r (omega arith) below
            ∙ ap (map (λ o. place_of_tree (subtree (rows_tree stages t r) o) (remaining_trees n q (suc t))))
            (sym (no_observations n h t (omega arith)))
      ])

  pub reduced_agent_is_form : stages ≡ shared_rows n h (unfolded_tree stages 0)
  reduced_agent_is_form =
      let q = unfolded_tree stages 0 in
      fill_by_all (λ t. map (shared_row n h q t) (remaining_trees n q t)) stages h [] are.of_horizon (λ t lt.
      fill_by_all (λ r. shared_row n h q t (rows_tree stages t r)) (get_or stages t []) (row_count stages t)
      no_row refl (λ r below. row_is_shared t r lt below)
      ∙ sym (map_rows (shared_row n h q t) (rows_tree stages t) (range_with_len 0 (row_count stages t)))
      ∙ ap (map (shared_row n h q t)) (sym (remaining_are_rows t lt)))

-- ---- all agents

reduced_agents_are_forms : {h : ℕ} {bs ns : List ℕ} {p : SharedPolicy} → AreRowsOfAgents h bs ns p
    → AreReduced h p
    → p ≡ shared_rows_of ns h (unfolded p)
reduced_agents_are_forms no_agents reduced = refl
reduced_agents_are_forms {h} (and_agent {b = b} {n = n} {ns = ns} {stages = stages} {p = p} are ares) reduced =
    let first = reduced_agent_is_form b n h stages are reduced.0 in
    let others = reduced_agents_are_forms ares reduced.1 in
    ap (λ (s : AgentRows). s ∷ p) first ∙ ap (λ (others : SharedPolicy). shared_rows n h
    (unfolded_tree stages 0) ∷ others) others

-- a shared policy with reduced rows is a shared form
pub reduced_is_form : (m : Model) (h : ℕ) (p : SharedPolicy) → IsSharedOf m h p → AreReduced h p
    → IsSharedForm m h p
unfolding shared_form
reduced_is_form m h p shared reduced = reduced_agents_are_forms shared.agents reduced
