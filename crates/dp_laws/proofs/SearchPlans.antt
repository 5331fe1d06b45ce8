-- The certificate of a search keeps the promises of a plan.
use Rattle.std.proofs.Common.{◌≡◌, ℕ, ◌<◌, ◌≤◌, Bool, true, false, ℤ, ◌≤ℤ◌, ◌<ℤ◌, List, refl, arith, inl, inr}
use Rattle.std.specs.Prelude.{IsTrue}
use Rattle.std.proofs.lemmas.Int.{ints}
use Rattle.dp_spec.specs.BoundTree.{BoundTree, branch, leaf, merge}
use Rattle.dp_spec.specs.Certificate.{Certificate, arithmetic_for}
use Rattle.dp_spec.specs.FrontSpace.{front_space}
use Rattle.dp_spec.specs.FullPolicy.{full_policy}
use Rattle.dp_spec.specs.Model.{Model, joint_actions}
use Rattle.dp_spec.specs.Promises.{IfFullLeaf, IsPlanned, PlanOptions, constant_worth}
use Rattle.dp_spec.specs.Qualities.{IfInner, IfLeaf, IfNarrowLeaf, IfOpenLeaf, Node, Place, certificate_nodes}
use Rattle.dp_spec.specs.Searched.{IsSearched}
use Rattle.dp_spec.specs.SharedWorth.{low_worth}
use Rattle.dp_spec.specs.Wide.{is_wide}
use Rattle.dp_laws.specs.GrowthLaws.{IsPromised, StatesSearch}
use Rattle.dp_base.proofs.AllOfLists.{all_weaker}
use Rattle.dp_base.proofs.Ring.{zle_trans}
use Rattle.dp_laws.proofs.Modes.{arithmetic_says}
use Rattle.dp_laws.proofs.SearchPromises.{promises_hold}

less_or_not : (x y : ℤ) → x ≤ℤ y → y <ℤ x → ⊥
less_or_not x y p q = omega (arith, ints)

-- a narrow leaf that exceeds the lower end is none, so each that does is wide
refined_leaf : (m : Model) (h : ℕ) (lower : ℤ) (n : Node) (T : BoundTree) (wide : Bool) →
    IfLeaf T (λ x. n.front.stage < h → wide ≡ false → x ≤ℤ lower)
    → IfLeaf T (λ x. n.front.stage < h → lower <ℤ x → wide ≡ true)
refined_leaf m h lower n (leaf x) true narrow = λ early over. refl
refined_leaf m h lower n (leaf x) false narrow = λ early over. absurd
    (less_or_not x lower (narrow early refl) over)
refined_leaf m h lower n (branch i c Ts) wide narrow = tt
refined_leaf m h lower n (merge i a b T) wide narrow = tt

full_leaf : (h stage : ℕ) (P : Type 0) (T : BoundTree) → IfLeaf T (λ x. h ≤ stage → P)
    → IfLeaf T (λ x. stage ≡ h → P)
full_leaf h stage P (leaf x) given = λ e. given (omega arith)
full_leaf h stage P (branch i c Ts) given = tt
full_leaf h stage P (merge i a b T) given = tt

past_all : (P : ℕ → Type 0) (w : ℕ → ℤ) (best : ℤ) (cap : ℤ) (T : BoundTree) → ((a : ℕ) → P a → w a ≤ℤ best)
    → IfInner T (best <ℤ cap) → IfInner T ((a : ℕ) → P a → w a <ℤ cap)
past_all P w best cap (leaf x) most given = tt
past_all P w best cap (branch i c Ts) most given = λ a p. let le = most a p in omega (arith, ints)
past_all P w best cap (merge i a b T) most given = λ c p. let le = most c p in omega (arith, ints)

module _ (m : Model) (May : List Place → ℕ → Type 0) (h : ℕ) (asked : PlanOptions) (best : ℕ) (c : Certificate)
    (states : StatesSearch m h asked best c)
    (done : IsSearched (front_space (arithmetic_for m c) m c.horizon c.look asked.merge May
    (λ F. low_worth (arithmetic_for m c) m c.version c.horizon (full_policy m F))) asked.nodes
    (constant_worth m c best) c.lower c.inner c.tree) where
  kept : IsPromised (arithmetic_for m c) m c.horizon c.look asked.nodes asked.merge May
      (λ F. low_worth (arithmetic_for m c) m c.version c.horizon (full_policy m F)) (constant_worth m c best)
      c.lower c.inner c.tree
  kept = promises_hold (arithmetic_for m c) m c.horizon c.look asked.nodes asked.merge May
      (λ F. low_worth (arithmetic_for m c) m c.version c.horizon (full_policy m F)) (constant_worth m c best)
      c.lower c.inner c.tree done

  pub searched_is_planned : IsPlanned m May h asked c
  searched_is_planned = record {
    valid = record {
      within = states.within;
      mode = states.mode;
      unit = states.unit;
      policy = states.policy;
      lower = states.lower;
      tree = kept.fits;
      inner = kept.counted;
      upper = states.upper;
    };
    horizon = states.horizon;
    look = states.look;
    nodes = kept.within_budget;
    ended = elim kept.stop [
      | inl spent ↦ inr (inl spent)
      | inr none ↦ inr (inr (all_weaker (λ n. IfNarrowLeaf m c.horizon n (λ x. x ≤ℤ c.lower))
          (λ n. IfOpenLeaf c.horizon n (λ x. c.lower <ℤ x → is_wide m c.horizon n.above n.front ≡ true))
          (certificate_nodes m c)
          (λ n given. refined_leaf m c.horizon c.lower n n.tree (is_wide m c.horizon n.above n.front) given)
          none))
    ];
    lean = kept.lean;
    merged = λ on exact. record {
      exact = exact;
      branches = kept.merged on
          (arithmetic_says c.is_exact m.scales exact);
    };
    unmerged = kept.unmerged;
    constants = λ a p. zle_trans _ (constant_worth m c best) _ (states.best_constant.greatest a p)
        kept.constants_below;
    inner_nodes = all_weaker (λ n. IfInner n.tree (constant_worth m c best <ℤ n.cap))
        (λ n. IfInner n.tree ((a : ℕ) → a < joint_actions m → constant_worth m c a <ℤ n.cap))
        (certificate_nodes m c)
        (λ n given. past_all (λ a. a < joint_actions m) (constant_worth m c) (constant_worth m c best)
        n.cap n.tree states.best_constant.greatest given) kept.inner_nodes;
    best_constant = λ none. (best, states.best_constant, states.constant none);
    ruled = kept.ruled;
    full_leaves = all_weaker (λ n. IfLeaf n.tree (λ x. c.horizon ≤ n.front.stage
        → low_worth (arithmetic_for m c) m c.version c.horizon (full_policy m n.front) ≤ℤ c.lower))
        (λ n. IfFullLeaf c.horizon n (low_worth (arithmetic_for m c) m c.version c.horizon
        (full_policy m n.front)
        ≤ℤ c.lower)) (certificate_nodes m c)
        (λ n given. full_leaf c.horizon n.front.stage (low_worth (arithmetic_for m c) m c.version c.horizon
        (full_policy m n.front) ≤ℤ c.lower) n.tree given) kept.full_leaves;
    version = states.version;
    shared_form = states.shared_form;
  }

-- for a rule that is a test
pub searched_certificate_is_planned : (m : Model) (May : List Place → ℕ → Bool) (h : ℕ) (asked : PlanOptions)
    (best : ℕ) (c : Certificate)
    → StatesSearch m h asked best c →
    IsSearched (front_space (arithmetic_for m c) m c.horizon c.look asked.merge (λ ps x. IsTrue (May ps x))
    (λ F. low_worth (arithmetic_for m c) m c.version c.horizon (full_policy m F))) asked.nodes
    (constant_worth m c best) c.lower c.inner c.tree
    → IsPlanned m (λ ps x. IsTrue (May ps x)) h asked c
searched_certificate_is_planned m May h asked best c states done = searched_is_planned m
    (λ ps x. IsTrue (May ps x)) h asked best c states done
