-- Equivalent classes by their vectors.
use Rattle.std.specs.Prelude.{ℕ, suc, ◌<◌, ◌≤◌, ◌≡◌, ℤ, pos, List, map, length, get_or, cond, nat_le, Vec}
use Rattle.std.specs.Prelude.{Option, Some, None, MatchOption}
use Rattle.std.specs.BTreeMap.{get}
use Rattle.std.specs.Cmp.Lexicographic.{slice_cmp}
use Rattle.std.specs.Ordering.{int_cmp}
use Rattle.std.specs.declared.cmp.Ordering.{Ordering}
use Rattle.std.specs.declared.alloc.Global.{Global}
use Rattle.dp_spec.specs.Front.{Front}
use Rattle.dp_spec.specs.Merge.{class_total}
use Rattle.dp_spec.specs.Model.{Model}
use Rattle.dp_spec.specs.Primitive.{IsPrimitiveOf}
use Rattle.dp_spec.specs.Steps.{IsUnassigned}
use Rattle.dp_spec.specs.UnequalPlaces.{class_vector}
use Rattle.dp_cluster.specs.declared.equal.Later.{Later}
use Rattle.dp_cluster.specs.declared.equal.OwnVector.{OwnVector}
use Rattle.dp_cluster.specs.declared.equal.OwnVector.TheVariants.{Assigned, Weightless, Weighted}

-- what is kept of class c of agent i to tell its equivalent classes
abbrev pub IsVectorOf : Model → Front → ℕ → ℕ → OwnVector → Type 0
IsVectorOf m F i c Assigned = ¬ IsUnassigned i c F.agents
IsVectorOf m F i c Weightless = IsUnassigned i c F.agents × (class_total m F i c ≡ 0)
IsVectorOf m F i c (Weighted v) =
    IsUnassigned i c F.agents × (0 < class_total m F i c)
    × ((us : List ℕ) × IsPrimitiveOf (class_vector m F i c) us × (v.items ≡ map pos us))

-- what is kept of each class
pub record AreVectorsOf (m : Model) (F : Front) (i n : ℕ) (vs : List OwnVector) : Type 0 where
  pub one_each : length vs ≡ n
  pub are : (c : ℕ) → c < n → IsVectorOf m F i c (get_or vs c Assigned)

-- two unassigned classes are equivalent where one has no weight, or the two have one primitive vector
abbrev pub AreAlike : OwnVector → OwnVector → Type 0
AreAlike Assigned w = ⊥
AreAlike Weightless Assigned = ⊥
AreAlike Weightless Weightless = Unit {0}
AreAlike Weightless (Weighted y) = Unit {0}
AreAlike (Weighted x) Assigned = ⊥
AreAlike (Weighted x) Weightless = Unit {0}
AreAlike (Weighted x) (Weighted y) = x.items ≡ y.items

-- the item at a place, and whether those at two places are alike
abbrev pub vector_at : List OwnVector → ℕ → OwnVector
vector_at vs a = get_or vs a Assigned

abbrev pub AlikeAt : List OwnVector → ℕ → ℕ → Type 0
AlikeAt vs a b = AreAlike (vector_at vs a) (vector_at vs b)

-- it has no action; it has none, and no weight; it has none, and these weights
abbrev pub IsFree : OwnVector → Type 0
IsFree Assigned = ⊥
IsFree Weightless = Unit {0}
IsFree (Weighted x) = Unit {0}

abbrev pub IsWeightless : OwnVector → Type 0
IsWeightless Assigned = ⊥
IsWeightless Weightless = Unit {0}
IsWeightless (Weighted x) = ⊥

abbrev pub HasWeights : List ℤ → OwnVector → Type 0
HasWeights xs Assigned = ⊥
HasWeights xs Weightless = ⊥
HasWeights xs (Weighted x) = xs ≡ x.items

-- b is the first place from a on, below n, of which P holds
pub record IsLeastFrom (P : ℕ → Type 0) (a n b : ℕ) : Type 0 where
  pub from : a ≤ b
  pub range : b < n
  pub holds : P b
  pub first : (d : ℕ) → a ≤ d → d < n → P d → b ≤ d

-- o has the first such place, and none exactly where there is none
abbrev pub IsFirstFrom : (ℕ → Type 0) → ℕ → ℕ → Option ℕ → Type 0
IsFirstFrom P a n o = MatchOption o ((d : ℕ) → a ≤ d → d < n → ¬ P d) (IsLeastFrom P a n)

-- the lesser of two numbers that may not be there
abbrev pub earlier : Option ℕ → Option ℕ → Option ℕ
earlier None o = o
earlier (Some x) None = Some x
earlier (Some x) (Some y) = cond (nat_le x y) (Some x) (Some y)

-- a and b are the least places from n on with items that are alike, by the first and then by the second
pub record AreLeastAlike (vs : List OwnVector) (n a b : ℕ) : Type 0 where
  pub from : n ≤ a
  pub pair : IsLeastFrom (AlikeAt vs a) (suc a) (length vs) b
  pub least : (c d : ℕ) → n ≤ c → c < d → d < length vs → AlikeAt vs c d → a ≤ c

-- o has them, and none exactly where there are none
abbrev pub IsFoundFrom : List OwnVector → ℕ → Option (ℕ × ℕ) → Type 0
IsFoundFrom vs n o =
    MatchOption o ((c d : ℕ) → n ≤ c → c < d → d < length vs → ¬ AlikeAt vs c d)
    (λ (p : ℕ × ℕ). AreLeastAlike vs n p.0 p.1)

-- the order of vectors
abbrev pub vector_cmp : Vec ℤ Global → Vec ℤ Global → Ordering
vector_cmp x y = slice_cmp int_cmp x.items y.items

-- what is known of the items of vs from place n on
pub record IsLaterOf (vs : List OwnVector) (n : ℕ) (l : Later) : Type 0 where
  pub unassigned : IsFirstFrom (λ d. IsFree (vector_at vs d)) n (length vs) l.unassigned
  pub weightless : IsFirstFrom (λ d. IsWeightless (vector_at vs d)) n (length vs) l.weightless
  pub weighted : (x : Vec ℤ Global) →
      IsFirstFrom (λ d. HasWeights x.items (vector_at vs d)) n (length vs) (get vector_cmp l.weighted x)
