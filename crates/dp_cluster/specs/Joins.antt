-- The weights of the joint classes after two classes of an agent were joined.
use Rattle.std.specs.Prelude.{ℕ, suc, ◌+◌, ◌-◌, ◌*◌, ◌/◌, ◌%◌, ◌==◌, Option, Some, None, get_or, drop, if◌then◌else◌}
use Rattle.dp_spec.specs.declared.span.Span.{Span}
use Rattle.dp_spec.specs.Arithmetic.{span_add}
use Rattle.dp_spec.specs.Front.{class_counts}
use Rattle.dp_spec.specs.JointNumbers.{product}
use Rattle.dp_spec.specs.Merge.{kept_class}
use Rattle.dp_cluster.specs.KeptFronts.{KeptFront, kept_weight}

-- the weight of a joint class, and of another with it
abbrev pub joined_weight : KeptFront → ℕ → Option ℕ → ℕ → Span
joined_weight k C None s = kept_weight k C s
joined_weight k C (Some D) s = span_add (kept_weight k C s) (kept_weight k D s)

-- how many joint classes the agents behind agent i have, and how many classes agent i has
abbrev pub behind : KeptFront → ℕ → ℕ
behind k i = product (drop (suc i) (class_counts k.front.agents))

abbrev pub own_count : KeptFront → ℕ → ℕ
own_count k i = get_or (class_counts k.front.agents) i 0

-- joint class D after the join, in what class of agent i, before which and behind which it stands
abbrev pub class_in : KeptFront → ℕ → ℕ → ℕ
class_in k i D = D / behind k i % (own_count k i - 1)

abbrev pub row_in : KeptFront → ℕ → ℕ → ℕ
row_in k i D = D / behind k i / (own_count k i - 1)

-- the joint class with class c of agent i in its place
abbrev pub old_class : KeptFront → ℕ → ℕ → ℕ → ℕ
old_class k i D c = (row_in k i D * own_count k i + c) * behind k i + D % behind k i

-- the weights of joint class D after class b of agent i was joined into class a
abbrev pub merged_weight : KeptFront → ℕ → ℕ → ℕ → ℕ → ℕ → Span
merged_weight k i a b D =
    joined_weight k (old_class k i D (kept_class b (class_in k i D)))
    (if class_in k i D == a then Some (old_class k i D b) else None)

-- the same in the list of all weights, one for each state: the weight at place p
abbrev pub merged_at : KeptFront → ℕ → ℕ → ℕ → ℕ → Span
merged_at k i a b p = merged_weight k i a b (p / k.states) (p % k.states)
