-- Joint classes of the next stage as pairs of a joint class and a joint observation.
use Rattle.std.proofs.Common.{◌≡◌, ℕ, zero, suc, ◌+◌, ◌*◌, ◌/◌, ◌%◌, ◌^◌, ◌<◌, ◌≤◌, List, [], ◌∷◌, length, get_or}
use Rattle.std.proofs.Common.{drop, add-one, refl, sym, ap, ◌∙◌, subst, arith}
use Rattle.std.proofs.lemmas.Nat.{div-mul-add, mod-mul-add, mod_below}
use Rattle.dp_spec.specs.JointNumbers.{product}
use Rattle.dp_spec.specs.Model.{Model, joint_actions, joint_observations}
use Rattle.std.proofs.Math.Seq.{drop-cons}
use Rattle.dp_spec.proofs.JointNumberLaws.{part_below, positive_left, positive_right, product-drop_above, row_below}
use Rattle.dp_cluster.proofs.FrontParts.{joint_within}
use Rattle.dp_spec.specs.ClassSteps.{pair_counts, pair_number}
use Rattle.dp_cluster.specs.Pairs.{pair_class, pair_seen}

pair_step : (c n : ℕ) (cs ns : List ℕ) (x C p o : ℕ) → C < product cs → o < product ns →
    (x * n + p) * product (pair_counts cs ns) + pair_number cs ns C o
    ≡ pair_number (c ∷ cs) (n ∷ ns) (x * product cs + C) (p * product ns + o)
pair_step c n cs ns x C p o hC ho =
    let first : (x * product cs + C) / product cs ≡ x = div-mul-add x (product cs) C hC in
    let rest : (x * product cs + C) % product cs ≡ C = mod-mul-add x (product cs) C hC in
    let first' : (p * product ns + o) / product ns ≡ p = div-mul-add p (product ns) o ho in
    let rest' : (p * product ns + o) % product ns ≡ o = mod-mul-add p (product ns) o ho in
    rw (first, rest, first', rest')

put_together : (x P d n r : ℕ) → d ≡ x / P → r ≡ x % P → (d / n * n + d % n) * P + r ≡ x
put_together x P d n r e f = rw (e, f) (whole x P n)
  where
    whole : (x P n : ℕ) → (x / P / n * n + x / P % n) * P + x % P ≡ x
    whole x P n = let inner : x / P / n * n + x / P % n ≡ x / P = omega arith in rw inner (omega arith)

-- the two are in range, and their number is the joint class
pub pair_of : (cs ns : List ℕ) (x : ℕ) → length ns ≡ length cs → x < product (pair_counts cs ns)
    → (pair_class cs ns x < product cs) × (pair_seen cs ns x < product ns)
    × (pair_number cs ns (pair_class cs ns x) (pair_seen cs ns x) ≡ x)
pair_of [] [] x e h = (omega arith, omega arith, omega arith)
pair_of [] (n ∷ ns) x e h = absurd (omega arith)
pair_of (c ∷ cs) [] x e h = absurd (omega arith)
pair_of (c ∷ cs) (n ∷ ns) x e h =
    let P = product (pair_counts cs ns) in
    let here : x / P < c * n = part_below (c * n) P x h in
    let rest = pair_of cs ns (x % P) (omega arith) (mod_below x P (positive_right (c * n) P x h)) in
    let some : 0 < n = positive_right c n (x / P) here in (
      row_below (x / P / n) c (product cs) _ (part_below c n (x / P) here) rest.0,
      row_below (x / P % n) n (product ns) _ (mod_below (x / P) n some) rest.1,
      sym (pair_step c n cs ns (x / P / n) (pair_class cs ns (x % P)) (x / P % n) (pair_seen cs ns (x % P))
          rest.0 rest.1)
          ∙ put_together x P (x / P) n _ refl rest.2,
    )

-- ---- agent by agent

pub product_pairs : (cs ns : List ℕ) → length ns ≡ length cs
    → product (pair_counts cs ns) ≡ product cs * product ns
product_pairs [] [] e = omega arith
product_pairs [] (n ∷ ns) e = absurd (omega arith)
product_pairs (c ∷ cs) [] e = absurd (omega arith)
product_pairs (c ∷ cs) (n ∷ ns) e = rw (product_pairs cs ns (omega arith)) (omega arith)

-- after i agents: how many joint classes are left to tell apart, what is left of the joint class, and the joint class
-- and the joint observation so far
pub record IsUnpairing (cs ns : List ℕ) (i left rest class seen next : ℕ) : Type 0 where
  pub left_is : left ≡ product (pair_counts (drop i cs) (drop i ns))
  pub below : rest < left
  pub few : left ≤ 2 ^ 22
  pub class_is : class * product (drop i cs) + pair_class (drop i cs) (drop i ns) rest ≡ pair_class cs ns next
  pub seen_is : seen * product (drop i ns) + pair_seen (drop i cs) (drop i ns) rest ≡ pair_seen cs ns next

-- what the step of an agent with c classes and n observations is, where P are left after it
pub record StepRoom (cs ns : List ℕ) (c n left rest class seen P : ℕ) : Type 0 where
  pub after : left / (c * n) ≡ P
  pub some : 0 < c * n
  pub some_seen : 0 < n
  pub some_left : 0 < P
  pub few : c * n ≤ 2 ^ 22
  pub few_classes : c ≤ 2 ^ 22
  pub class_room : class * c + rest / P / n < product cs
  pub seen_room : seen * n + rest / P % n < product ns

pub divided : (k P left : ℕ) → 0 < k → left ≡ k * P → left / k ≡ P
divided k P left some e = let all : P * k + 0 ≡ left = omega arith in ap (λ (z : ℕ). z / k) (sym all)
    ∙ div-mul-add P k 0 some

pub most : (k P n : ℕ) → 0 < P → k * P ≤ n → k ≤ n
most k zero n some le = absurd (omega arith)
most k (suc P) n some le = omega arith

first_factor : (c n : ℕ) → 0 < c * n → c ≤ c * n
first_factor c zero some = absurd (omega arith)
first_factor c (suc n) some = omega arith

class_regroup : (a n p k r : ℕ) → a * (n * k) + (p * k + r) ≡ (a * n + p) * k + r
class_regroup a n p k r = omega arith

module _ (cs ns : List ℕ) (alike : length ns ≡ length cs) (i left rest class seen next : ℕ) (lt : i < length cs)
    (whole : next < product (pair_counts cs ns)) (u : IsUnpairing cs ns i left rest class seen next) where
  abbrev c : ℕ
  c = get_or cs i 0

  abbrev n : ℕ
  n = get_or ns i 0

  abbrev P : ℕ
  P = product (pair_counts (drop (suc i) cs) (drop (suc i) ns))

  lt' : i < length ns
  lt' = omega arith

  left_split : left ≡ c * n * P
  left_split = u.left_is ∙ (λ j. product (pair_counts (drop-cons cs i 0 lt j) (drop-cons ns i 0 lt' j)))

  class_split : class * product (drop i cs) + pair_class (drop i cs) (drop i ns) rest
      ≡ (class * c + rest / P / n) * product (drop (suc i) cs) + pair_class (drop (suc i) cs) (drop (suc i) ns)
      (rest % P)
  class_split =
      (λ j. class * product (drop-cons cs i 0 lt j) + pair_class (drop-cons cs i 0 lt j)
      (drop-cons ns i 0 lt' j)
      rest)
      ∙ class_regroup class c (rest / P / n) (product (drop (suc i) cs)) _

  seen_split : seen * product (drop i ns) + pair_seen (drop i cs) (drop i ns) rest
      ≡ (seen * n + rest / P % n) * product (drop (suc i) ns) + pair_seen (drop (suc i) cs) (drop (suc i) ns)
      (rest % P)
  seen_split =
      (λ j. seen * product (drop-cons ns i 0 lt' j) + pair_seen (drop-cons cs i 0 lt j)
      (drop-cons ns i 0 lt' j) rest)
      ∙ class_regroup seen n (rest / P % n) (product (drop (suc i) ns)) _

  pub step_room : StepRoom cs ns c n left rest class seen P
  step_room =
      let pair = pair_of cs ns next alike whole in
      let below = u.below in
      let split = left_split in
      let some_all : 0 < c * n * P = omega arith in
      let some : 0 < c * n = positive_left (c * n) P 0 some_all in
      let some_left : 0 < P = positive_right (c * n) P 0 some_all in
      let some_classes : 0 < product cs = let x = pair.0 in omega arith in
      let some_seen : 0 < product ns = let x = pair.1 in omega arith in
      let few = u.few in
      let counted : c * n ≤ 2 ^ 22 = most (c * n) P (2 ^ 22) some_left (omega arith) in
      let class_le = joint_within (class * c + rest / P / n) (product (drop (suc i) cs)) _ _
      (product-drop_above cs (suc i) some_classes) (sym class_split ∙ u.class_is) in
      let seen_le = joint_within (seen * n + rest / P % n) (product (drop (suc i) ns)) _ _
      (product-drop_above ns (suc i) some_seen) (sym seen_split ∙ u.seen_is) in
      record {
        after = divided (c * n) P left some split;
        some = some;
        some_seen = positive_right c n 0 some;
        some_left = some_left;
        few = counted;
        few_classes = let x = first_factor c n some in omega arith;
        class_room = let x = pair.0 in omega arith;
        seen_room = let x = pair.1 in omega arith;
      }

  pub unpair_next : IsUnpairing cs ns (suc i) P (rest % P) (class * c + rest / P / n)
      (seen * n + rest / P % n) next
  unpair_next =
      let r = step_room in
      record {
        left_is = refl;
        below = mod_below rest P r.some_left;
        few = let split = left_split in let few = u.few in most P (c * n) (2 ^ 22) r.some (omega arith);
        class_is = sym class_split ∙ u.class_is;
        seen_is = sym seen_split ∙ u.seen_is;
      }

pub unpair_start : (cs ns : List ℕ) (count next : ℕ) → length ns ≡ length cs → count ≡ product cs * product ns
    → count ≤ 2 ^ 22 → next < count
    → IsUnpairing cs ns 0 count next 0 0 next
unpair_start cs ns count next alike is few lt = record {
  left_is = is ∙ sym (product_pairs cs ns alike);
  below = lt;
  few = few;
  class_is = omega arith;
  seen_is = omega arith;
}

drop_all : (xs : List ℕ) (i : ℕ) → length xs ≤ i → drop i xs ≡ []
drop_all [] zero le = refl
drop_all [] (suc i) le = refl
drop_all (x ∷ xs) zero le = absurd (omega arith)
drop_all (x ∷ xs) (suc i) le = drop_all xs i (omega arith)

last_of : (a : ℕ) → a * 1 + 0 ≡ a
last_of a = omega arith

-- all agents are done
pub unpair_end : (cs ns : List ℕ) (i left rest class seen next : ℕ) → length ns ≡ length cs → length cs ≤ i
    → next < product (pair_counts cs ns)
    → IsUnpairing cs ns i left rest class seen next → (class < product cs) × (seen < product ns)
    × (pair_number cs ns class seen ≡ next)
unpair_end cs ns i left rest class seen next alike le whole u =
    let no_cs = drop_all cs i le in
    let no_ns = drop_all ns i (omega arith) in
    let class_is : class ≡ pair_class cs ns next = sym (last_of class)
    ∙ (λ j. class * product (sym no_cs j) + pair_class (sym no_cs j) (sym no_ns j) rest) ∙ u.class_is in
    let seen_is : seen ≡ pair_seen cs ns next = sym (last_of seen)
    ∙ (λ j. seen * product (sym no_ns j) + pair_seen (sym no_cs j) (sym no_ns j) rest) ∙ u.seen_is in
    let pair = pair_of cs ns next alike whole in
    (rw class_is pair.0, rw seen_is pair.1, (λ j. pair_number cs ns (class_is j) (seen_is j)) ∙ pair.2)

-- ---- as the code computes it

-- for an agent with k classes and o observations
pub record CodeRoom (cs ns : List ℕ) (k o left rest class seen : ℕ) : Type 0 where
  pub some : 0 < k * o
  pub few : k * o ≤ 2 ^ 22
  pub some_seen : 0 < o
  pub some_left : 0 < left / (k * o)
  pub class_room : class * k + rest / (left / (k * o)) / o < product cs
  pub seen_room : seen * o + rest / (left / (k * o)) % o < product ns

module _ (cs ns : List ℕ) (alike : length ns ≡ length cs) (i left rest class seen next k o : ℕ)
    (ek : k ≡ get_or cs i 0) (eo : o ≡ get_or ns i 0) (lt : i < length cs)
    (whole : next < product (pair_counts cs ns)) (u : IsUnpairing cs ns i left rest class seen next) where
  room : StepRoom cs ns (get_or cs i 0) (get_or ns i 0) left rest class seen
      (product (pair_counts (drop (suc i) cs) (drop (suc i) ns)))
  room = step_room cs ns alike i left rest class seen next lt whole u

  after_is : left / (k * o) ≡ product (pair_counts (drop (suc i) cs) (drop (suc i) ns))
  after_is = (λ j. left / (ek j * eo j)) ∙ room.after

  pub code_room : CodeRoom cs ns k o left rest class seen
  code_room = record {
    some = rw (ek, eo) room.some;
    few = rw (ek, eo) room.few;
    some_seen = rw eo room.some_seen;
    some_left = rw after_is room.some_left;
    class_room = rw after_is (rw (ek, eo) room.class_room);
    seen_room = rw after_is (rw eo room.seen_room);
  }

  pub code_next : IsUnpairing cs ns (i + 1) (left / (k * o)) (rest % (left / (k * o)))
      (class * k + rest / (left / (k * o)) / o) (seen * o + rest / (left / (k * o)) % o) next
  code_next =
      let P = product (pair_counts (drop (suc i) cs) (drop (suc i) ns)) in
      subst (λ (Q : ℕ). IsUnpairing cs ns (i + 1) Q (rest % Q) (class * k + rest / Q / o)
      (seen * o + rest / Q % o)
      next) (sym after_is)
      (subst (λ (z : ℕ). IsUnpairing cs ns (i + 1) P (rest % P) (class * z + rest / P / o)
      (seen * o + rest / P % o) next) (sym ek)
      (subst (λ (z : ℕ). IsUnpairing cs ns (i + 1) P (rest % P) (class * get_or cs i 0 + rest / P / z)
      (seen * z + rest / P % z) next) (sym eo)
      (subst (λ (z : ℕ). IsUnpairing cs ns z P (rest % P) (class * get_or cs i 0 + rest / P / get_or ns i 0)
      (seen * get_or ns i 0 + rest / P % get_or ns i 0) next) (sym (add-one i))
      (unpair_next cs ns alike i left rest class seen next lt whole u))))

-- as many joint observations as the product
pub seen_product : (m : Model) → joint_observations m ≡ product m.observations
unfolding joint_observations
seen_product m = refl

pub actions_product : (m : Model) → joint_actions m ≡ product m.actions
unfolding joint_actions
actions_product m = refl

pub whole_is : (count next : ℕ) (cs ns : List ℕ) → length ns ≡ length cs → count ≡ product cs * product ns
    → next < count → next < product (pair_counts cs ns)
whole_is count next cs ns alike is lt = rw (product_pairs cs ns alike) (omega arith)

-- each factor is small
pub classes_few : (count : ℕ) (cs ns : List ℕ) → length ns ≡ length cs → count ≡ product cs * product ns
    → count ≤ 2 ^ 22 → (next : ℕ) → next < count → product cs ≤ 2 ^ 22
classes_few count cs ns alike is le next lt =
    let some : 0 < product cs * product ns = omega arith in most (product cs) (product ns) (2 ^ 22)
    (positive_right (product cs) (product ns) 0 some) (omega arith)

pub seen_few : (count : ℕ) (cs ns : List ℕ) → length ns ≡ length cs → count ≡ product cs * product ns
    → count ≤ 2 ^ 22 → (next : ℕ) → next < count → product ns ≤ 2 ^ 22
seen_few count cs ns alike is le next lt =
    let some : 0 < product cs * product ns = omega arith in most (product ns) (product cs) (2 ^ 22)
    (positive_left (product cs) (product ns) 0 some) (omega arith)
