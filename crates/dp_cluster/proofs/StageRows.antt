-- The rows of the stages behind a front: they mean what is fixed, and there is one for each class.
use Rattle.std.proofs.Common.{◌≡◌, inl, inr, ℕ, zero, suc, ◌+◌, ◌*◌, ◌/◌, ◌%◌, ◌^◌, ◌<◌, ◌≤◌, List, [], ◌∷◌, ◌++◌}
use Rattle.std.proofs.Common.{map, length, get_or, drop, take, Option, append_assoc, refl, sym, ap, ◌∙◌, subst, arith}
use Rattle.std.specs.List.{range_with_len}
use Rattle.std.specs.declared.alloc.Global.{Global}
use Rattle.std.specs.declared.rc.Rc.{Rc}
use Rattle.std.proofs.Math.Nat.{pow-suc, pow-zero}
use Rattle.std.proofs.lemmas.Bool.{cases_lt}
use Rattle.std.proofs.lemmas.List.{append-nil, length-append}
use Rattle.std.proofs.lemmas.List.FromFn.{length-map-range_with_len}
use Rattle.std.proofs.lemmas.Nat.{div-mul-add, mod-mul-add, mod_below}
use Rattle.dp_spec.specs.FullPolicy.{tree_doing, tree_doing_after, trees_from}
use Rattle.dp_spec.specs.PolicyTree.{PolicyTree, node, no_trees, more_trees}
use Rattle.dp_spec.specs.SharedPolicy.{AgentRows, AreAgentRows, AreStages, IsRow, PolicyRow, first_count, next_count}
use Rattle.dp_spec.specs.SharedPolicy.{no_row, row_at, row_count, row_of_history, trees_of, unfolded_tree}
use Rattle.dp_spec.proofs.JointNumberLaws.{part_below, positive_right, row_below}
use Rattle.dp_cluster.specs.declared.part.PastStage.{PastStage}
use Rattle.dp_cluster.specs.AgentParts.{ArePastStages, OwnPart, action_after, class_after, class_led_to, part_of}
use Rattle.dp_cluster.specs.AgentParts.{past_classes}
use Rattle.dp_cluster.specs.FullRows.{class_row, rows_before, stage_rows}
use Rattle.dp_cluster.specs.PastClasses.{HasRowEachClass, PastClasses, no_classes}
use Rattle.dp_cluster.proofs.ClassesBehind.{earlier_read, last_read}
use Rattle.dp_cluster.proofs.AdvancedParts.{take_more, taken_whole}
use Rattle.dp_cluster.proofs.FrontParts.{value_read}
use Rattle.dp_cluster.proofs.OwnParts.{made_at, own_part, part_stages}
use Rattle.dp_cluster.proofs.PastTrees.{stage_actions, whole_is}

-- ---- trees

trees_alike : (n : ℕ) (g h : ℕ → PolicyTree) → ((o : ℕ) → o < n → g o ≡ h o) → trees_from n g ≡ trees_from n h
trees_alike zero g h same = refl
trees_alike (suc n) g h same =
    let first = same 0 (omega arith) in
    let rest = trees_alike n (λ o. g (suc o)) (λ o. h (suc o)) (λ o lt. same (suc o) (omega arith)) in
    λ j. more_trees (first j) (rest j)

-- the trees of numbers that are made by place
trees_of_made : (n a : ℕ) (g : ℕ → PolicyTree) (f : ℕ → ℕ)
    → trees_of g (map f (range_with_len a n)) ≡ trees_from n (λ o. g (f (a + o)))
trees_of_made zero a g f = refl
trees_of_made (suc n) a g f =
    let first : a ≡ a + 0 = omega arith in
    let rest = trees_of_made n (a + 1) g f
    ∙ trees_alike n (λ o. g (f (a + 1 + o))) (λ o. g (f (a + suc o)))
    (λ o lt. ap (λ (k : ℕ). g (f k)) (let e : a + 1 + o ≡ a + suc o = omega arith in e)) in
    λ j. more_trees (g (f (first j))) (rest j)

pub trees_of_nexts : (n : ℕ) (g : ℕ → PolicyTree) (f : ℕ → ℕ)
    → trees_of g (map f (range_with_len 0 n)) ≡ trees_from n (λ o. g (f o))
trees_of_nexts n g f = trees_of_made n 0 g f
    ∙ trees_alike n (λ o. g (f (0 + o))) (λ o. g (f o))
    (λ o lt. ap (λ (k : ℕ). g (f k)) (let e : 0 + o ≡ o = omega arith in e))

-- ---- one stage

module _ (n : ℕ) (s : PastStage) (ss : List PastStage) (past : ArePastStages n (s ∷ ss)) where
  -- a class of the next stage
  pub leads_on : (x o : ℕ) → o < n → class_after n (s ∷ ss) (x * n + o) ≡ class_led_to s (class_after n ss x * n + o)
  leads_on x o lt = λ j. class_led_to s (class_after n ss (div-mul-add x n o lt j) * n + mod-mul-add x n o lt j)

  pub history_on : (x o : ℕ) → x < n ^ length ss → o < n → x * n + o < n ^ suc (length ss)
  history_on x o lt seen = let more = row_below x (n ^ length ss) n o lt seen in rw (pow-suc n (length ss)) more

  -- the row of the class of an own history
  pub row_read : (nexts x : ℕ) → x < n ^ length ss
      → get_or (stage_rows n nexts s) (class_after n ss x) no_row ≡ class_row n nexts s (class_after n ss x)
  row_read nexts x lt = made_at (length s.actions.items) (class_after n ss x) no_row (class_row n nexts s)
      (past.0 x lt)

  pub as_many_rows : (nexts : ℕ) → length (stage_rows n nexts s) ≡ length s.actions.items
  as_many_rows nexts = length-map-range_with_len (class_row n nexts s) 0 (length s.actions.items)

-- ---- what the rows mean

-- the stages do act t x after own history x of length t
abbrev pub AreDone : ℕ → (ℕ → ℕ → ℕ) → List PastStage → Type 0
AreDone n act [] = Unit {0}
AreDone n act (s ∷ ss) =
    ((x : ℕ) → x < n ^ length ss → act (length ss) x ≡ get_or s.actions.items (class_after n ss x) 0)
    × AreDone n act ss

-- the rows after the stages mean what is done after own histories of them
abbrev pub MeansRest : ℕ → (ℕ → ℕ → ℕ) → List PastStage → AgentRows → Type 0
MeansRest n act ss after =
    (x : ℕ) → x < n ^ length ss
    → unfolded_tree after (class_after n ss x) ≡ tree_doing_after n act (length after) (length ss) x

row_means : (n : ℕ) (act : ℕ → ℕ → ℕ) (s : PastStage) (ss : List PastStage) (after : AgentRows)
    → ArePastStages n (s ∷ ss) → AreDone n act (s ∷ ss) → MeansRest n act (s ∷ ss) after
    → MeansRest n act ss (stage_rows n (next_count n after) s ∷ after)
row_means n act s ss [] past done rest x lt =
    ap (λ (r : PolicyRow). node r.action (trees_of (unfolded_tree []) r.next)) (row_read n s ss past 0 x lt)
    ∙ ap (λ (a : ℕ). node a no_trees) (sym (done.0 x lt))
row_means n act s ss (rows ∷ after) past done rest x lt =
    let g = unfolded_tree (rows ∷ after) in
    let c = class_after n ss x in
    ap (λ (r : PolicyRow). node r.action (trees_of g r.next)) (row_read n s ss past n x lt)
    ∙ ap (λ (a : ℕ). node a (trees_of g (map (λ o. class_led_to s (c * n + o)) (range_with_len 0 n))))
    (sym (done.0 x lt))
    ∙ ap (node (act (length ss) x)) (trees_of_nexts n g (λ o. class_led_to s (c * n + o))
    ∙ trees_alike n (λ o. g (class_led_to s (c * n + o))) _ (λ o seen.
    ap g (sym (leads_on n s ss past x o seen)) ∙ rest (x * n + o) (history_on n s ss past x o lt seen)))

-- so the rows of all stages mean the tree that does what they do
pub unfolded_means : (n : ℕ) (act : ℕ → ℕ → ℕ) (ss : List PastStage) (after : AgentRows) → ArePastStages n ss
    → AreDone n act ss → MeansRest n act ss after
    → unfolded_tree (rows_before n ss after) 0 ≡ tree_doing_after n act (length (rows_before n ss after)) 0 0
unfolded_means n act [] after past done rest = rest 0 (let one = pow-zero n in omega arith)
unfolded_means n act (s ∷ ss) after past done rest =
    unfolded_means n act ss (stage_rows n (next_count n after) s ∷ after) past.2 done.1
    (row_means n act s ss after past done rest)

drop_next : {X : Type 0} (r : ℕ) (xs : List X) (x : X) (ys : List X) → drop r xs ≡ x ∷ ys → drop (suc r) xs ≡ ys
drop_next zero xs x ys e = ap (drop 1) e
drop_next (suc r) [] x ys e = cc
drop_next (suc r) (z ∷ zs) x ys e = drop_next r zs x ys e

-- the stages do what is fixed
pub all_done : (n r : ℕ) (whole ss : List PastStage) → drop r whole ≡ ss → AreDone n (action_after n whole) ss
all_done n r whole [] e = tt
all_done n r whole (s ∷ ss) e = (
  λ x lt. ap (λ l. get_or l x 0) (stage_actions n r whole ss s e)
      ∙ made_at (n ^ length ss) x 0 (λ y. get_or s.actions.items (class_after n ss y) 0) lt,
  all_done n (suc r) whole ss (drop_next r whole s ss e),
)

-- ---- they are rows

pub rows_long : (n : ℕ) (ss : List PastStage) (after : AgentRows)
    → length (rows_before n ss after) ≡ length ss + length after
rows_long n [] after = omega arith
rows_long n (s ∷ ss) after = let rest = rows_long n ss (stage_rows n (next_count n after) s ∷ after) in omega arith

-- the classes that own histories of the stages lead to have rows
abbrev pub HaveRows : ℕ → List PastStage → AgentRows → Type 0
HaveRows n ss after = (x : ℕ) → x < n ^ length ss → 0 < next_count n after → class_after n ss x < first_count after

module _ (b n : ℕ) (act : ℕ → ℕ → ℕ) (s : PastStage) (ss : List PastStage) (after : AgentRows)
    (past : ArePastStages n (s ∷ ss)) (done : AreDone n act (s ∷ ss))
    (below : (x : ℕ) → x < n ^ length ss → act (length ss) x < b) (have : HaveRows n (s ∷ ss) after) where
  nexts_few : (after : AgentRows) → next_count n after ≤ n
  nexts_few [] = omega arith
  nexts_few (rows ∷ after) = omega arith

  class_row_is : (c : ℕ) → c < length s.actions.items
      → IsRow b (next_count n after) (first_count after) (class_row n (next_count n after) s c)
  class_row_is c lt =
      let some = past.3 c lt in
      let led : ℕ → ℕ = λ o. class_led_to s (c * n + o) in record {
        action =
            let act_below = below some.0 some.1 in
            subst (λ (z : ℕ). z < b)
            (done.0 some.0 some.1 ∙ ap (λ (k : ℕ). get_or s.actions.items k 0) some.2) act_below;
        one_each = length-map-range_with_len led 0 (next_count n after);
        below = λ o seen.
            let few = nexts_few after in
            let next = have (some.0 * n + o) (history_on n s ss past some.0 o some.1 (omega arith)) (omega arith) in
            subst (λ (z : ℕ). z < first_count after)
            (leads_on n s ss past some.0 o (omega arith) ∙ ap (λ (k : ℕ). class_led_to s (k * n + o)) some.2
            ∙ sym (made_at (next_count n after) o 0 led seen)) next;
      }

  pub stage_is : (r : ℕ) → r < length (stage_rows n (next_count n after) s)
      → IsRow b (next_count n after) (first_count after) (get_or (stage_rows n (next_count n after) s) r no_row)
  stage_is r lt =
      let many = as_many_rows n s ss past (next_count n after) in
      subst (IsRow b (next_count n after) (first_count after))
      (sym (made_at (length s.actions.items) r no_row (class_row n (next_count n after) s) (omega arith)))
      (class_row_is r (omega arith))

-- some class is at a stage
some_class : (n : ℕ) (s : PastStage) (ss : List PastStage) → 0 < n → ArePastStages n (s ∷ ss)
    → 0 < length s.actions.items
some_class n s ss some past = let first = past.0 0 (some_power n (length ss) some) in omega arith
  where
    some_power : (n t : ℕ) → 0 < n → 0 < n ^ t
    some_power n zero some = let one = pow-zero n in omega arith
    some_power n (suc t) some =
        let rest = some_power n t some in
        let more = row_below 0 (n ^ t) n 0 rest some in rw (pow-suc n t) (omega arith)

pub stages_are : (b n : ℕ) (act : ℕ → ℕ → ℕ) (ss : List PastStage) (after : AgentRows) → 0 < n
    → ArePastStages n ss → AreDone n act ss → ((t x : ℕ) → t < length ss → x < n ^ t → act t x < b)
    → HaveRows n ss after → AreStages b n after → AreStages b n (rows_before n ss after)
stages_are b n act [] after some past done below have rest = rest
stages_are b n act (s ∷ ss) after some past done below have rest =
    let rows = stage_rows n (next_count n after) s in
    let many = as_many_rows n s ss past (next_count n after) in
    stages_are b n act ss (rows ∷ after) some past.2 done.1 (λ t x early. below t x (omega arith))
    (λ x lt next. let there = past.0 x lt in omega arith) (
      let first = some_class n s ss some past in omega arith,
      stage_is b n act s ss after past done (λ x. below (length ss) x (omega arith)) have,
      rest,
    )

-- the first stage has one
pub one_first : (n : ℕ) (ss : List PastStage) (after : AgentRows) → 0 < length ss → ArePastStages n ss
    → first_count (rows_before n ss after) ≡ 1
one_first n [] after some past = absurd (omega arith)
one_first n (s ∷ []) after some past =
    let many = as_many_rows n s [] past (next_count n after) in
    let one = pow-zero n in
    let first : 0 < length s.actions.items = past.0 0 (omega arith) in
    let single : length s.actions.items ≤ 1 = elim (cases_lt 1 (length s.actions.items)) [
      | inl two ↦ let other = past.3 1 two in absurd (let e = other.2 in omega arith)
      | inr le ↦ omega arith
    ] in
    omega arith
one_first n (s ∷ q ∷ ss) after some past =
    one_first n (q ∷ ss) (stage_rows n (next_count n after) s ∷ after) (omega arith) past.2

-- ---- there is one for each class

rows_read : (n : ℕ) (ss : List PastStage) (after : AgentRows) (j k : ℕ) (d : List PolicyRow) → k ≡ length ss + j
    → get_or (rows_before n ss after) k d ≡ get_or after j d
rows_read n [] after j k d e = ap (λ (i : ℕ). get_or after i d) (let same : k ≡ j = omega arith in same)
rows_read n (s ∷ ss) after j k d e =
    rows_read n ss (stage_rows n (next_count n after) s ∷ after) (suc j) k d (omega arith)

classes_reached : (n : ℕ) (ss : List PastStage) (rows : List PolicyRow) (after : AgentRows) → ArePastStages n ss
    → (x : ℕ) → x < n ^ length ss
    → row_of_history n (rows_before n ss (rows ∷ after)) (length ss) x ≡ class_after n ss x
classes_reached n [] rows after past x lt = refl
classes_reached n (s ∷ ss) rows after past x lt =
    let whole = rows_before n ss (stage_rows n n s ∷ rows ∷ after) in
    let lt' : x < n ^ length ss * n = rw pow-suc at lt in
    let high = part_below (n ^ length ss) n x lt' in
    let last : x % n < n = mod_below x n (positive_right (n ^ length ss) n x lt') in
    let c = class_after n ss (x / n) in
    let before = classes_reached n ss (stage_rows n n s) (rows ∷ after) past.2 (x / n) high in
    let stage = rows_read n ss (stage_rows n n s ∷ rows ∷ after) 0 (length ss) [] (omega arith) in
    ap (λ (r : ℕ). get_or (row_at whole (length ss) r).next (x % n) 0) before
    ∙ ap (λ (l : List PolicyRow). get_or (get_or l c no_row).next (x % n) 0) stage
    ∙ ap (λ (r : PolicyRow). get_or r.next (x % n) 0) (row_read n s ss past n (x / n) high)
    ∙ made_at n (x % n) 0 (λ o. class_led_to s (c * n + o)) last

pub past_long : (n : ℕ) (ss : List PastStage) → length (past_classes n ss) ≡ length ss
past_long n [] = refl
past_long n (s ∷ ss) =
    let here : PastClasses = record {
      count = length s.actions.items;
      class_of = map (class_after n ss) (range_with_len 0 (n ^ length ss));
    } in
    let rest = past_long n ss in
    let more = length-append (past_classes n ss) (here ∷ []) in
    omega arith

pub each_class : (n : ℕ) (ss : List PastStage) (after : AgentRows) → ArePastStages n ss → (t : ℕ) → t < length ss
    → HasRowEachClass n (rows_before n ss after) t (get_or (past_classes n ss) t no_classes)
each_class n [] after past t lt = absurd (omega arith)
each_class n (s ∷ ss) after past t lt =
    let rows = stage_rows n (next_count n after) s in
    let whole = rows_before n ss (rows ∷ after) in
    let here : PastClasses = record {
      count = length s.actions.items;
      class_of = map (class_after n ss) (range_with_len 0 (n ^ length ss));
    } in
    let long = past_long n ss in
    let count : row_count whole (length ss) ≡ length s.actions.items =
    ap length (rows_read n ss (rows ∷ after) 0 (length ss) [] (omega arith))
    ∙ as_many_rows n s ss past (next_count n after) in
    let latest : HasRowEachClass n whole (length ss) here = record {
      one_each = count;
      of_class = λ x below. classes_reached n ss rows after past.2 x below
          ∙ sym (made_at (n ^ length ss) x 0 (class_after n ss) below);
      reached = λ r below.
          let some = past.3 r (omega arith) in
          (some.0, some.1, classes_reached n ss rows after past.2 some.0 some.1 ∙ some.2);
    } in
    elim (cases_lt t (length ss)) [
      | inl early ↦ subst (HasRowEachClass n whole t)
          (sym (earlier_read (past_classes n ss) (here ∷ []) t no_classes (omega arith)))
          (each_class n ss (rows ∷ after) past.2 t early)
      | inr late ↦
          let same : t ≡ length ss = omega arith in
          subst (λ (z : ℕ). HasRowEachClass n whole z (get_or (past_classes n ss ++ here ∷ []) z no_classes))
          (sym same)
          (subst (HasRowEachClass n whole (length ss))
          (sym (last_read (past_classes n ss) (length ss) here no_classes (sym long))) latest)
    ]

-- ---- stage by stage

pub no_nexts : (n : ℕ) (stages : AgentRows) → length stages ≡ 0 → 0 ≡ next_count n stages
no_nexts n [] e = refl
no_nexts n (rows ∷ stages) e = absurd (omega arith)

pub all_nexts : (n after : ℕ) (stages : AgentRows) → length stages ≡ after → (after ≡ 0 → ⊥)
    → n ≡ next_count n stages
all_nexts n after [] e some = absurd (some (omega arith))
all_nexts n after (rows ∷ stages) e some = refl

-- a stage that is read of shared stages
pub stage_at : (past : List (Rc PastStage Global)) (i : ℕ) (r : Rc PastStage Global) (s : PastStage)
    → i < length past → r ≡ get_or past i r → s ≡ r.value → s ≡ get_or (map (λ s. s.value) past) i s
stage_at past i r s lt read is =
    is ∙ value_read (λ (q : Rc PastStage Global). q.value) past i r lt read
    ∙ ap (get_or (map (λ q. q.value) past) i) (sym is)

-- the places of a stage can be counted
pub stage_room : (n : ℕ) (ss : List PastStage) (i : ℕ) (s : PastStage) → ArePastStages n ss → i < length ss
    → s ≡ get_or ss i s → length s.actions.items * n < 2 ^ 32
stage_room n [] i s past lt e = absurd (omega arith)
stage_room n (q ∷ ss) zero s past lt e = subst (λ (z : PastStage). length z.actions.items * n < 2 ^ 32) (sym e) past.1
stage_room n (q ∷ ss) (suc i) s past lt e = stage_room n ss i s past.2 (omega arith) e

rows_pushed : (n : ℕ) (ss : List PastStage) (s : PastStage) (after : AgentRows)
    → rows_before n (ss ++ s ∷ []) after
    ≡ stage_rows n (next_count n (rows_before n ss after)) s ∷ rows_before n ss after
rows_pushed n [] s after = refl
rows_pushed n (q ∷ ss) s after = rows_pushed n ss s (stage_rows n (next_count n after) q ∷ after)

taken_long : {X : Type 0} (i : ℕ) (xs : List X) → i ≤ length xs → length (take i xs) ≡ i
taken_long zero xs le = refl
taken_long (suc i) [] le = absurd (omega arith)
taken_long (suc i) (x ∷ xs) le = ap suc (taken_long i xs (omega arith))

pub rows_first : (n : ℕ) (ss : List PastStage) (left : ℕ) → left ≡ length ss
    → rows_before n (take left ss) [] ≡ rows_before n ss []
rows_first n ss left e = ap (λ l. rows_before n l []) (taken_whole ss left (omega arith))

pub rows_next : (n : ℕ) (ss : List PastStage) (left after next_left nexts : ℕ) (s : PastStage)
    (all all' whole : AgentRows) (new : List PolicyRow) → left ≡ suc after → next_left ≡ after → after < length ss
    → s ≡ get_or ss after s
    → ((stages : AgentRows) → length stages ≡ after → nexts ≡ next_count n stages)
    → new ≡ stage_rows n nexts s → all' ≡ all ++ new ∷ [] → all ++ rows_before n (take left ss) [] ≡ whole
    → all' ++ rows_before n (take next_left ss) [] ≡ whole
rows_next n ss left after next_left nexts s all all' whole new e e' lt read counted made pushed before =
    let rest = rows_before n (take after ss) [] in
    let size : length rest ≡ after =
    let long = rows_long n (take after ss) [] in let taken = taken_long after ss (omega arith) in omega arith in
    let first : new ≡ stage_rows n (next_count n rest) s =
    made ∙ ap (λ (k : ℕ). stage_rows n k s) (counted rest size) in
    let next : rows_before n (take left ss) [] ≡ new ∷ rest =
    ap (λ (k : ℕ). rows_before n (take k ss) []) e
    ∙ ap (λ l. rows_before n l []) (take_more ss after s lt read)
    ∙ rows_pushed n (take after ss) s [] ∙ ap (λ l. l ∷ rest) (sym first) in
    ap (λ (k : ℕ). all' ++ rows_before n (take k ss) []) e'
    ∙ ap (λ l. l ++ rest) pushed ∙ append_assoc all (new ∷ []) rest ∙ ap (λ l. all ++ l) (sym next) ∙ before

pub rows_end : (n : ℕ) (ss : List PastStage) (left : ℕ) (all whole : AgentRows) → left ≡ 0
    → all ++ rows_before n (take left ss) [] ≡ whole → all ≡ whole
rows_end n ss left all whole e before =
    sym (append-nil all) ∙ ap (λ (k : ℕ). all ++ rows_before n (take k ss) []) (sym e) ∙ before

-- ---- the rows of a part

module _ (n : ℕ) (ss : List PastStage) (k : ℕ) (cs : List (Option ℕ)) (past : ArePastStages n ss)
    (rows : AgentRows) (are : rows ≡ rows_before n ss []) where
  part_long : length rows ≡ length ss
  part_long = let long = rows_long n ss [] in omega (arith, ap length are)

  own_rows : 0 < n → 0 < length (own_part n ss k cs).front.fixed → (b : ℕ)
      → ((t x : ℕ) → t < length (own_part n ss k cs).front.fixed → x < n ^ t
      → get_or (get_or (own_part n ss k cs).front.fixed t []) x 0 < b)
      → AreAgentRows b n (length (own_part n ss k cs).front.fixed) rows
  unfolding part_of
  own_rows positive some b below =
      let stages = part_stages n ss k cs ss in record {
        of_horizon = part_long ∙ sym stages;
        one_first = ap first_count are ∙ one_first n ss [] (omega arith) past;
        rows = subst (AreStages b n) (sym are)
            (stages_are b n (action_after n ss) ss [] positive past (all_done n 0 ss ss refl)
            (λ t x early. below t x (omega arith)) (λ x lt next. absurd (omega arith)) tt);
      }

  own_classes : (t : ℕ) → t < length (own_part n ss k cs).front.fixed
      → HasRowEachClass n rows t (get_or (past_classes n ss) t no_classes)
  unfolding part_of
  own_classes t lt =
      let stages = part_stages n ss k cs ss in
      subst (λ (l : AgentRows). HasRowEachClass n l t (get_or (past_classes n ss) t no_classes)) (sym are)
      (each_class n ss [] past t (omega arith))

  module _ (v : OwnPart) (is : own_part n ss k cs ≡ v) where
    pub rows_are : 0 < v.observations → 0 < length v.front.fixed → (b : ℕ)
        → ((t x : ℕ) → t < length v.front.fixed → x < v.observations ^ t
        → get_or (get_or v.front.fixed t []) x 0 < b)
        → AreAgentRows b v.observations (length v.front.fixed) rows
    rows_are = subst (λ (v : OwnPart). 0 < v.observations → 0 < length v.front.fixed → (b : ℕ)
        → ((t x : ℕ) → t < length v.front.fixed → x < v.observations ^ t
        → get_or (get_or v.front.fixed t []) x 0 < b)
        → AreAgentRows b v.observations (length v.front.fixed) rows) is own_rows

    pub rows_mean : unfolded_tree rows 0 ≡ tree_doing v.observations
        (λ t x. get_or (get_or v.front.fixed t []) x 0) (length v.front.fixed)
    rows_mean =
        ap (λ (l : AgentRows). unfolded_tree l 0) are
        ∙ unfolded_means n (action_after n ss) ss [] past (all_done n 0 ss ss refl) (λ x lt. refl)
        ∙ ap (λ (r : ℕ). tree_doing_after n (action_after n ss) r 0 0) (ap length (sym are) ∙ part_long)
        ∙ whole_is n ss k cs v is

    pub rows_each_class : (t : ℕ) → t < length v.front.fixed
        → HasRowEachClass v.observations rows t (get_or v.past t no_classes)
    rows_each_class = subst (λ (v : OwnPart). (t : ℕ) → t < length v.front.fixed
        → HasRowEachClass v.observations rows t (get_or v.past t no_classes)) is own_classes
