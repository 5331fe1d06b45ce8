-- The places at which two classes of an agent are compared, by number, and the first at which they differ.
use Rattle.std.specs.Prelude.{ℕ, ◌+◌, ◌*◌, ◌/◌, ◌%◌, ◌<◌, ◌≡◌, ◌==◌, not, List, map, Option}
use Rattle.std.specs.List.{find, range_with_len}
use Rattle.dp_spec.specs.JointNumbers.{product}
use Rattle.dp_spec.specs.Model.{Model}
use Rattle.dp_spec.specs.Front.{Front, class_counts}
use Rattle.dp_spec.specs.Merge.{class_total, place_weight, without}

-- the number of the place of joint class x of the other agents and state s
abbrev pub place_number : Model → ℕ → ℕ → ℕ
place_number m x s = x * m.states + s

-- how many places there are
unfoldable pub place_count : Model → Front → ℕ → ℕ
place_count m F i = product (without i (class_counts F.agents)) * m.states

-- the weight of class c of agent i at the place of number p
abbrev pub weight_at : Model → Front → ℕ → ℕ → ℕ → ℕ
weight_at m F i c p = place_weight m F i c (p / m.states) (p % m.states)

-- the weights of class c of agent i at all places, in order
unfoldable pub class_vector : Model → Front → ℕ → ℕ → List ℕ
class_vector m F i c = map (weight_at m F i c) (range_with_len 0 (place_count m F i))

-- classes c and c' agree at a place: their weights there are in the proportion of their totals
abbrev pub AgreeAt : Model → Front → ℕ → ℕ → ℕ → ℕ → Type 0
AgreeAt m F i c c' p = weight_at m F i c p * class_total m F i c' ≡ weight_at m F i c' p * class_total m F i c

-- p is the first place at which they do not
pub record IsFirstUnequal (m : Model) (F : Front) (i c c' p : ℕ) : Type 0 where
  pub there : p < place_count m F i
  pub unequal : ¬ AgreeAt m F i c c' p
  pub before : (q : ℕ) → q < p → AgreeAt m F i c c' q

-- the first place at which they do not, or none
unfoldable pub first_unequal : Model → Front → ℕ → ℕ → ℕ → Option ℕ
first_unequal m F i c c' =
    find (λ p. not (weight_at m F i c p * class_total m F i c' == weight_at m F i c' p * class_total m F i c))
    (range_with_len 0 (place_count m F i))
