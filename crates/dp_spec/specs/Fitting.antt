-- Bound trees that fit a front.
use Rattle.std.specs.Prelude.{ℕ, suc, ◌-◌, ◌<◌, ◌≡◌, false, IsTrue, ℤ, get_or}
use Rattle.std.specs.Int.{int_min}
use Rattle.dp_spec.specs.Model.{Model}
use Rattle.dp_spec.specs.Front.{Front}
use Rattle.dp_spec.specs.Steps.{IsUnassigned, front_after_choice}
use Rattle.dp_spec.specs.Merge.{AreEquivalent, merged_front}
use Rattle.dp_spec.specs.Arithmetic.{Arithmetic}
use Rattle.dp_spec.specs.Quantities.{bound_in}
use Rattle.dp_spec.specs.Wide.{is_wide}
use Rattle.dp_spec.specs.BoundTree.{BoundTree, BoundTrees, leaf, branch, merge, no_bound_trees, more_bound_trees}

-- the bound of a front, of a horizon of h steps
unfoldable pub front_bound : Arithmetic → Model → ℕ → ℕ → Front → ℤ
front_bound A m h look F = bound_in A m (h - F.stage) F look

abbrev mutual
  -- A tree fits a front on whose path the least bound is cap and so many branches and merges stand above. No branch
  -- and no merge stands at a wide node, and a merge fits in exact arithmetic alone.
  pub FitsFront : Arithmetic → Model → ℕ → ℕ → ℕ → BoundTree → Front → ℤ → Type 0
  FitsFront A m h look above (leaf x) F cap = x ≡ cap
  FitsFront A m h look above (branch i c ks) F cap =
      (F.stage < h) × IsUnassigned i c F.agents × FitEachAction A m h look (suc above) ks F i c 0 cap
      × (is_wide m h above F ≡ false)
  FitsFront A m h look above (merge i a b k) F cap =
      (F.stage < h) × (a < b) × IsUnassigned i a F.agents × IsUnassigned i b F.agents × AreEquivalent m F i a b
      × FitsFront A m h look (suc above) k (merged_front F i a b)
      (int_min cap (front_bound A m h look (merged_front F i a b)))
      × IsTrue A.is_exact × (is_wide m h above F ≡ false)

  -- one tree for each action of the agent from a on, which fits the front after that choice
  pub FitEachAction : Arithmetic → Model → ℕ → ℕ → ℕ → BoundTrees → Front → ℕ → ℕ → ℕ → ℤ → Type 0
  FitEachAction A m h look above no_bound_trees F i c a cap = get_or m.actions i 0 ≡ a
  FitEachAction A m h look above (more_bound_trees k ks) F i c a cap =
      FitsFront A m h look above k (front_after_choice m F i c a)
      (int_min cap (front_bound A m h look (front_after_choice m F i c a)))
      × FitEachAction A m h look above ks F i c (suc a) cap
