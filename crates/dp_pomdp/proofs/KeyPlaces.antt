-- The places of keys in their order, and the weights after them.
use Rattle.std.proofs.Common.{◌≡◌, ℕ, zero, suc, ◌+◌, ◌*◌, ◌/◌, ◌%◌, ◌-◌, ◌<◌, ◌≤◌, ◌^◌, List, [], ◌∷◌, length, min}
use Rattle.std.proofs.Common.{inl, inr}
use Rattle.std.proofs.Common.{refl, ap, ◌∙◌, arith, subst}
use Rattle.std.proofs.Math.Nat.{div-lt_iff_lt-mul, le-mul_of_pos_right, mul-le-mul_left, mul-le-mul_right}
use Rattle.std.proofs.lemmas.Bool.{cases_lt}
use Rattle.std.proofs.lemmas.Nat.{div-mul-add, mod-mul-add}
use Rattle.dp_spec.specs.declared.span.Span.{Span}
use Rattle.dp_spec.specs.Arithmetic.{Arithmetic}
use Rattle.dp_spec.specs.Model.{Model}
use Rattle.dp_spec.specs.Quantities.{weights_after_in}
use Rattle.dp_pomdp.specs.Keys.{ArePairs, keys_below, place_from, weights_along}

-- ---- how many keys there are

keys_below_more : (p n : ℕ) → 0 < p → keys_below p n ≤ keys_below p (suc n)
keys_below_more p n some = let more = le-mul_of_pos_right (keys_below p n) some in omega (arith, more)

pub keys_below_le : (p n k : ℕ) → 0 < p → n ≤ k → keys_below p n ≤ keys_below p k
keys_below_le p n zero some le = let none : n ≡ 0 = omega arith in rw none (omega arith)
keys_below_le p n (suc k) some le =
    elim (cases_lt n (suc k)) [
      | inl early ↦
          let before = keys_below_le p n k some (omega arith) in
          let more = keys_below_more p k some in omega (arith, before, more)
      | inr late ↦ let same : n ≡ suc k = omega arith in rw same (omega arith)
    ]

-- counted one step further, up to a limit
pub count_next : (p most n c : ℕ) → 0 < p → c ≡ min most (keys_below p n)
    → min (1 + c * p) most ≡ min most (keys_below p (suc n))
count_next p most n c some is =
    elim (cases_lt most (keys_below p n)) [
      | inl more ↦
          let full : c ≡ most = omega (arith, is, more) in
          let least = le-mul_of_pos_right most some in
          let each = mul-le-mul_right p (le_of_lt most (keys_below p n) more) in
          let same : c * p ≡ most * p = ap (λ x. x * p) full in omega (arith, least, each, same)
      | inr few ↦
          let all : c ≡ keys_below p n = omega (arith, is, few) in
          let same : c * p ≡ keys_below p n * p = ap (λ x. x * p) all in omega (arith, same)
    ]
  where
    le_of_lt : (a b : ℕ) → a < b → a ≤ b
    le_of_lt a b lt = omega arith

pub count_fits : (c p most : ℕ) → c ≤ most → most ≤ 2 ^ 32 → p ≤ 2 ^ 16 → 1 + c * p < 2 ^ 49
count_fits c p most le few pairs =
    let each = mul-le-mul_right p le in
    let all = mul-le-mul_left most pairs in omega (arith, each, all)

-- a key whose place is below the count of those below h ends before h
pub early_of_place : (p t h r : ℕ) → 0 < p → keys_below p t ≤ r → r < keys_below p h → t < h
early_of_place p t h r some late lt =
    elim (cases_lt t h) [
      | inl early ↦ early
      | inr after ↦ let all = keys_below_le p h t some after in absurd (omega (arith, all, late, lt))
    ]

-- the places after those of the keys below n
pub keys_below_next : (p n r i : ℕ) → keys_below p n ≤ r → keys_below p (suc n) ≤ r * p + 1 + i
keys_below_next p n r i le = let each = mul-le-mul_right p le in omega (arith, each)

-- ---- pairs

pub some_pair : (n k a o : ℕ) → a < n → o < k → 0 < n * k
some_pair zero k a o pa po = absurd (omega arith)
some_pair (suc n) k a o pa po = let more : 0 < k + n * k = omega arith in grind arith

pub pair_below : (n k a o : ℕ) → a < n → o < k → a * k + o < n * k
pair_below n k a o pa po =
    let next : suc a ≤ n = omega arith in
    let each = mul-le-mul_right k next in
    let one : suc a * k ≡ a * k + k = grind arith in omega (arith, each, one, po)

pub div_below : (i n k : ℕ) → 0 < k → i < n * k → i / k < n
div_below i n k some lt = (div-lt_iff_lt-mul some).1 lt

-- ---- places

-- a key's place is no less than that of what stands to its left
pub place_grows : (n k r : ℕ) (key : List ℕ) → ArePairs n k key → r ≤ place_from n k r key
place_grows n k r [] p = omega arith
place_grows n k r (a ∷ []) p = absurd p
place_grows n k r (a ∷ (o ∷ key)) p =
    let more = le-mul_of_pos_right r (some_pair n k a o p.0 p.1) in
    let rest = place_grows n k (r * (n * k) + 1 + (a * k + o)) key p.2 in omega (arith, more, rest)

-- a key of at most d steps
pub place_below : (n k r j d : ℕ) (key : List ℕ) → 0 < n * k → ArePairs n k key → length key < 2 * suc d
    → r < keys_below (n * k) j → place_from n k r key < keys_below (n * k) (j + d)
place_below n k r j d [] some p long lt =
    let all = keys_below_le (n * k) j (j + d) some (omega arith) in omega (arith, all, lt)
place_below n k r j d (a ∷ []) some p long lt = absurd p
place_below n k r j zero (a ∷ (o ∷ key)) some p long lt = absurd (omega (arith, long))
place_below n k r j (suc d) (a ∷ (o ∷ key)) some p long lt =
    let pair = pair_below n k a o p.0 p.1 in
    let before : suc r ≤ keys_below (n * k) j = omega arith in
    let each = mul-le-mul_right (n * k) before in
    let one : suc r * (n * k) ≡ r * (n * k) + n * k = grind arith in
    let next : r * (n * k) + 1 + (a * k + o) < keys_below (n * k) (suc j) = omega (arith, pair, each, one) in
    let rest = place_below n k (r * (n * k) + 1 + (a * k + o)) (suc j) d key some p.2 (omega (arith, long)) next in
    let same : suc j + d ≡ j + suc d = omega arith in
    subst (λ (i : ℕ). place_from n k r (a ∷ (o ∷ key)) < keys_below (n * k) i) same rest

-- ---- the last pair of a key

pub record HasLast (A : Arithmetic) (m : Model) (n k r : ℕ) (w : ℕ → Span) (key : List ℕ) : Type 0 where
  pub before : List ℕ
  pub action : ℕ
  pub seen : ℕ
  pub pairs : ArePairs n k before
  pub in_actions : action < n
  pub in_seen : seen < k
  pub long : length key ≡ suc (suc (length before))
  pub place : place_from n k r key ≡ place_from n k r before * (n * k) + 1 + (action * k + seen)
  pub weights : weights_along A m w key ≡ weights_after_in A m (weights_along A m w before) action seen

last_of : (A : Arithmetic) (m : Model) (n k a o r : ℕ) (w : ℕ → Span) (key : List ℕ) → a < n → o < k
    → HasLast A m n k (r * (n * k) + 1 + (a * k + o)) (weights_after_in A m w a o) key
    → HasLast A m n k r w (a ∷ (o ∷ key))
last_of A m n k a o r w key pa po last = record {
  before = a ∷ (o ∷ last.before);
  action = last.action;
  seen = last.seen;
  pairs = (pa, po, last.pairs);
  in_actions = last.in_actions;
  in_seen = last.in_seen;
  long = ap (λ (l : ℕ). suc (suc l)) last.long;
  place = last.place;
  weights = last.weights;
}

pub last_pair : (A : Arithmetic) (m : Model) (n k r : ℕ) (w : ℕ → Span) (key : List ℕ) → ArePairs n k key
    → 0 < length key → HasLast A m n k r w key
last_pair A m n k r w [] p some = absurd (omega (arith, some))
last_pair A m n k r w (a ∷ []) p some = absurd p
last_pair A m n k r w (a ∷ (o ∷ [])) p some = record {
  before = [];
  action = a;
  seen = o;
  pairs = tt;
  in_actions = p.0;
  in_seen = p.1;
  long = refl;
  place = refl;
  weights = refl;
}
last_pair A m n k r w (a ∷ (o ∷ (b ∷ key))) p some =
    last_of A m n k a o r w (b ∷ key) p.0 p.1
    (last_pair A m n k (r * (n * k) + 1 + (a * k + o)) (weights_after_in A m w a o) (b ∷ key) p.2 (omega arith))

-- ---- the row and the pair that a place comes from

pub place_row : (p r i q : ℕ) → i < p → q ≡ r * p + 1 + i → (q - 1) / p ≡ r
place_row p r i q lt e =
    let less : q - 1 ≡ r * p + i = omega arith in ap (λ x. x / p) less ∙ div-mul-add r p i lt

pub place_pair : (p r i q : ℕ) → i < p → q ≡ r * p + 1 + i → (q - 1) % p ≡ i
place_pair p r i q lt e =
    let less : q - 1 ≡ r * p + i = omega arith in ap (λ x. x % p) less ∙ mod-mul-add r p i lt
