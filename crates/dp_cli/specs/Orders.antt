-- The branching rules of the orders of a plan. (Own.)
use Rattle.std.specs.Prelude.{◌≡◌, ◌<◌, ℕ, ℤ, ◌≤ℤ◌, ◌<ℤ◌, List, Some, slice_get}
use Rattle.dp_spec.specs.Qualities.{Place}
use Rattle.dp_words.specs.declared.job.OrderWord.{OrderWord}
use Rattle.dp_words.specs.declared.job.OrderWord.TheVariants as orders

-- Number x is that of the first item whose size is greatest.
pub record IsFirstGreatest {P : Type 0} (size : P → ℤ) (items : List P) (x : ℕ) : Type 0 where
  pub item : P
  pub is : slice_get items x ≡ Some item
  pub greatest : (y : ℕ) (other : P) → slice_get items y ≡ Some other → size other ≤ℤ size item
  pub first : (y : ℕ) (other : P) → y < x → slice_get items y ≡ Some other → size other <ℤ size item

-- what the rule of an order answers for the places of a front: the first place, the first of greatest weight, or the
-- first of greatest spread
abbrev pub order_rule : OrderWord → List Place → ℕ → Type 0
order_rule orders.First places x = x ≡ 0
order_rule orders.Heavy places x = IsFirstGreatest (λ p. p.weight) places x
order_rule orders.Spread places x = IsFirstGreatest (λ p. p.spread) places x
