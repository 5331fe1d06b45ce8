-- The places of a front, agent by agent, and their weights as the front keeps them. (Own.)
use Rattle.std.specs.Prelude.{ℕ, ◌==◌, Bool, cond, ℤ, pos, unsigned_abs, List, map, filter, length, get_or, None}
use Rattle.std.specs.Prelude.{is_none}
use Rattle.std.specs.List.{range_with_len}
use Rattle.dp_base.specs.Sums.{int_sum, nat_sum}
use Rattle.dp_spec.specs.Arithmetic.{Arithmetic}
use Rattle.dp_spec.specs.Front.{Front, class_counts}
use Rattle.dp_spec.specs.JointNumbers.{parts_of}
use Rattle.dp_spec.specs.Model.{Model}
use Rattle.dp_spec.specs.Qualities.{Place, chosen_of, spread_of, upper_weight}
use Rattle.dp_cluster.specs.KeptFronts.{KeptFront, kept_weight}

-- the upper weights of joint class C together, and their magnitudes
abbrev pub kept_upper : KeptFront → ℕ → ℤ
kept_upper k C = int_sum k.states (λ s. (kept_weight k C s).high)

abbrev pub upper_size : KeptFront → ℕ → ℕ
upper_size k C = nat_sum k.states (λ s. unsigned_abs (kept_weight k C s).high)

-- those of the joint classes below n in which class c of agent i takes part
abbrev pub kept_upper_weight : KeptFront → ℕ → ℕ → ℕ → ℤ
kept_upper_weight k i c n =
    int_sum n (λ C. cond (get_or (parts_of (class_counts k.front.agents) C) i 0 == c) (kept_upper k C) (pos 0))

-- a spread as it is told, if spreads are
abbrev pub spread_told : Bool → ℤ → ℤ
spread_told spreads x = cond spreads x (pos 0)

-- the place of class c of agent i
abbrev pub place_at : Arithmetic → Model → ℕ → ℕ → Front → ℕ → ℕ → Place
place_at A m h look F i c =
    record { agent = i; class = c; weight = upper_weight A m F i c; spread = spread_of A m h look F i c }

-- the places of the classes of agent i below n
abbrev pub places_below : Arithmetic → Model → ℕ → ℕ → Front → ℕ → ℕ → List Place
places_below A m h look F i n =
    map (place_at A m h look F i) (filter (λ c. is_none (get_or (chosen_of F i) c None)) (range_with_len 0 n))

-- the places of agent i
abbrev pub agent_places_of : Arithmetic → Model → ℕ → ℕ → Front → ℕ → List Place
agent_places_of A m h look F i = places_below A m h look F i (length (chosen_of F i))
