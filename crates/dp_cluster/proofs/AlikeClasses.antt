-- Equivalent classes by their vectors: classes are a pair exactly where what is kept of the two is alike.
use Rattle.std.proofs.Common.{◌≡◌, inl, inr, ℕ, zero, suc, ◌+◌, ◌<◌, ◌≤◌, List, [], ◌∷◌, ◌++◌, true, false}
use Rattle.std.proofs.Common.{Option}
use Rattle.std.proofs.Common.{Some, None, map, length, get_or, pos, unsigned_abs, refl, sym, ap, ◌∙◌, subst, arith}
use Rattle.std.specs.Prelude.{is_none, IfOk, IfSome, MatchOption, Result, Ok, Err}
use Rattle.std.proofs.lemmas.Bool.{cases_lt}
use Rattle.std.proofs.lemmas.List.{length_push}
use Rattle.dp_num.proofs.VectorLaws.{unsigned_pos}
use Rattle.dp_spec.specs.Front.{Front, class_counts}
use Rattle.dp_spec.specs.Merge.{AreEquivalent}
use Rattle.dp_spec.specs.Model.{Model}
use Rattle.dp_spec.specs.Pairs.{HasNoPair, IsLeastPair, IsPair}
use Rattle.dp_spec.specs.Steps.{IsUnassigned}
use Rattle.dp_spec.specs.WellFormed.{IsFront}
use Rattle.dp_laws.proofs.EmptyClasses.{empty_class_is_equivalent}
use Rattle.dp_laws.proofs.PrimitiveVectors.{primitive_vectors_tell}
use Rattle.dp_cluster.specs.EqualClasses.{AlikeAt, AreAlike, AreLeastAlike, AreVectorsOf, IsVectorOf}
use Rattle.dp_cluster.specs.declared.equal.OwnVector.{OwnVector}
use Rattle.dp_cluster.specs.declared.equal.OwnVector.TheVariants.{Assigned, Weightless, Weighted}
use Rattle.dp_cluster.proofs.FrontParts.{unassigned_in}

same_pos : (us vs : List ℕ) → map pos us ≡ map pos vs → us ≡ vs
same_pos us vs e = sym (unsigned_pos us) ∙ ap (map unsigned_abs) e ∙ unsigned_pos vs

-- what follows from what holds of a value holds of it
pub if_ok : {X E : Type 0} (r : Result X E) (P Q : X → Type 0) → IfOk r P → ((x : X) → P x → Q x) → IfOk r Q
if_ok (Ok x) P Q holds weaker = weaker x holds
if_ok (Err e) P Q holds weaker = tt

pub if_found : (r : Option (ℕ × ℕ)) (A : Type 0) (P Q : ℕ × ℕ → Type 0) → MatchOption r A P
    → ((p : ℕ × ℕ) → P p → Q p) → IfSome r Q
if_found None A P Q found weaker = tt
if_found (Some p) A P Q found weaker = weaker p found

-- nothing is found
pub none_found : (r : Option (ℕ × ℕ)) (A : Type 0) (P : ℕ × ℕ → Type 0) → MatchOption r A P → r ≡ None → A
none_found None A P found e = found
none_found (Some p) A P found e = absurd (let no : false ≡ true = ap is_none e in cc)

module _ (m : Model) (h : ℕ) (F : Front) (front : IsFront m h F) (i : ℕ) (agent : i < length F.agents) where
  -- two classes could be merged
  record ArePair (c d : ℕ) : Type 0 where
    first : IsUnassigned i c F.agents
    second : IsUnassigned i d F.agents
    equivalent : AreEquivalent m F i c d

  alike_are : (c d : ℕ) (v w : OwnVector) → IsVectorOf m F i c v → IsVectorOf m F i d w → AreAlike v w
      → ArePair c d
  alike_are c d Assigned w one other alike = absurd alike
  alike_are c d Weightless Assigned one other alike = absurd alike
  alike_are c d Weightless Weightless one other alike =
      record { first = one.0; second = other.0; equivalent = empty_class_is_equivalent m F i c d (inl one.1) }
  alike_are c d Weightless (Weighted y) one other alike =
      record { first = one.0; second = other.0; equivalent = empty_class_is_equivalent m F i c d (inl one.1) }
  alike_are c d (Weighted x) Assigned one other alike = absurd alike
  alike_are c d (Weighted x) Weightless one other alike =
      record { first = one.0; second = other.0; equivalent = empty_class_is_equivalent m F i c d (inr other.1) }
  alike_are c d (Weighted x) (Weighted y) one other alike =
      let us = one.2.0 in
      let vs = other.2.0 in
      let same = same_pos us vs (sym one.2.2 ∙ alike ∙ other.2.2) in
      let tells = primitive_vectors_tell m h F i c d us vs front agent one.2.1 other.2.1 one.1 other.1 in
      record { first = one.0; second = other.0; equivalent = tells.1 same }

  are_alike : (c d : ℕ) (v w : OwnVector) → IsVectorOf m F i c v → IsVectorOf m F i d w → ArePair c d
      → AreAlike v w
  are_alike c d Assigned w one other pair = absurd (one pair.first)
  are_alike c d Weightless Assigned one other pair = absurd (other pair.second)
  are_alike c d Weightless Weightless one other pair = tt
  are_alike c d Weightless (Weighted y) one other pair = tt
  are_alike c d (Weighted x) Assigned one other pair = absurd (other pair.second)
  are_alike c d (Weighted x) Weightless one other pair = tt
  are_alike c d (Weighted x) (Weighted y) one other pair =
      let us = one.2.0 in
      let vs = other.2.0 in
      let tells = primitive_vectors_tell m h F i c d us vs front agent one.2.1 other.2.1 one.1 other.1 in
      one.2.2 ∙ ap (map pos) (tells.0 pair.equivalent) ∙ sym other.2.2

  module _ (n : ℕ) (count : n ≡ get_or (class_counts F.agents) i 0) (vs : List OwnVector)
      (are : AreVectorsOf m F i n vs) where
    unassigned_below : (c : ℕ) → IsUnassigned i c F.agents → c < n
    unassigned_below c free = subst (λ x. c < x) (sym count) (unassigned_in F.agents i c free).1

    pair_of : (c d : ℕ) → c < d → d < n → AlikeAt vs c d → IsPair m F i c d
    pair_of c d order range alike =
        let pair = alike_are c d _ _ (are.are c (omega arith)) (are.are d range) alike in
        record { order = order; first = pair.first; second = pair.second; equivalent = pair.equivalent }

    alike_of : (c d : ℕ) → IsPair m F i c d → AlikeAt vs c d
    alike_of c d pair =
        are_alike c d _ _ (are.are c (unassigned_below c pair.first))
        (are.are d (unassigned_below d pair.second))
        (record { first = pair.first; second = pair.second; equivalent = pair.equivalent })

    -- the least places that are alike are the least pair
    pub least_is : (a b : ℕ) → AreLeastAlike vs 0 a b → IsLeastPair m F i a b
    least_is a b least =
        let size = are.one_each in
        let range = least.pair.range in
        let after = least.pair.from in
        record {
          pair = pair_of a b (omega arith) (omega arith) least.pair.holds;
          least = λ d d' pair.
              let alike = alike_of d d' pair in
              let inside = unassigned_below d' pair.second in
              let below : d' < length vs = omega arith in
              let at_least = least.least d d' (omega arith) pair.order below alike in
              elim (cases_lt a d) [
                | inl less ↦ inl less
                | inr more ↦
                    let same : a ≡ d = omega arith in
                    let there : AlikeAt vs a d' = subst (λ x. AlikeAt vs x d') (sym same) alike in
                    let order : suc a ≤ d' = let later = pair.order in omega arith in
                    inr (same, least.pair.first d' order below there)
              ];
        }

    pub no_pair : ((c d : ℕ) → 0 ≤ c → c < d → d < length vs → ¬ AlikeAt vs c d) → HasNoPair m F i
    no_pair none c d order first second equivalent =
        let below = unassigned_below d second in
        let size = are.one_each in
        none c d (omega arith) order (omega arith)
        (alike_of c d (record { order = order; first = first; second = second; equivalent = equivalent }))

  -- what is kept of one class more
  pub vectors_next : (c : ℕ) (vs vs' : List OwnVector) (v : OwnVector) → AreVectorsOf m F i c vs
      → IsVectorOf m F i c v
      → vs' ≡ vs ++ v ∷ [] → AreVectorsOf m F i (c + 1) vs'
  vectors_next c vs vs' v are is pushed =
      let size : length vs' ≡ c + 1 = let one = are.one_each in let more = length_push vs v in ap length pushed
      ∙ more ∙ ap (λ x. x + 1) one in
      record {
        one_each = size;
        are = λ d lt.
            elim (cases_lt d c) [
              | inl earlier ↦
                  subst (IsVectorOf m F i d) (sym (ap (λ l. get_or l d Assigned) pushed
                  ∙ front_read vs v d (let one = are.one_each in omega arith)))
                  (are.are d earlier)
              | inr last ↦
                  let same : c ≡ d = omega arith in
                  subst (IsVectorOf m F i d) (sym (ap (λ l. get_or l d Assigned) pushed
                  ∙ last_read vs v d (are.one_each ∙ same)))
                  (subst (λ x. IsVectorOf m F i x v) same is)
            ];
      }
    where
      front_read : (xs : List OwnVector) (x : OwnVector) (d : ℕ) → d < length xs
          → get_or (xs ++ x ∷ []) d Assigned ≡ get_or xs d Assigned
      front_read [] x d lt = absurd (omega arith)
      front_read (y ∷ ys) x zero lt = refl
      front_read (y ∷ ys) x (suc d) lt = front_read ys x d (omega arith)

      last_read : (xs : List OwnVector) (x : OwnVector) (d : ℕ) → length xs ≡ d
          → get_or (xs ++ x ∷ []) d Assigned ≡ x
      last_read [] x zero e = refl
      last_read [] x (suc d) e = absurd (omega arith)
      last_read (y ∷ ys) x zero e = absurd (omega arith)
      last_read (y ∷ ys) x (suc d) e = last_read ys x d (omega arith)
