-- What the promises of a plan come to in version 1.
use Rattle.std.specs.Prelude.{ℕ, ◌≡◌, ◌⊎◌, Bool, IsTrue, List}
use Rattle.dp_spec.specs.Model.{IsModel, Model}
use Rattle.dp_spec.specs.Certificate.{Certificate}
use Rattle.dp_spec.specs.Qualities.{IsClosed, Place}
use Rattle.dp_spec.specs.Promises.{IsPlanned, PlanOptions}

-- a plan of version 1, by any branching rule, is closed, or has as many branches and merges as were allowed
abbrev pub PlansOfVersionOneEnd : Type 0
PlansOfVersionOneEnd =
    (m : Model) (may : List Place → ℕ → Bool) (h : ℕ) (asked : PlanOptions) (c : Certificate) → IsModel m →
    IsPlanned m (λ places x. IsTrue (may places x)) h asked c → c.version ≡ 1 →
    IsClosed m c ⊎ (c.inner ≡ asked.nodes)
