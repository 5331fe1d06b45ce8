-- What bounds the fronts of a model over a horizon.
use Rattle.std.specs.Prelude.{ℕ, ◌<◌, ◌≤◌, Bool, ℤ}
use Rattle.dp_spec.specs.Arithmetic.{arithmetic}
use Rattle.dp_spec.specs.Mode.{IsTrueFit}
use Rattle.dp_spec.specs.Model.{Model}
use Rattle.dp_mdp.specs.TableRows.{IsTable, KeptTable}

-- the horizon, its mode and unit, the look, and the table of the underlying Markov decision process
pub record KeptBounder : Type 0 where
  pub horizon : ℕ
  pub is_exact : Bool
  pub unit : ℤ
  pub look : ℕ
  pub kept : KeptTable

-- It is of the model: with a true fit, a look from 1 to 16, and the model's table.
pub record IsBounderOf (m : Model) (b : KeptBounder) : Type 0 where
  pub fit : IsTrueFit m b.horizon b.is_exact b.unit
  pub some_look : 0 < b.look
  pub look : b.look ≤ 16
  pub table : IsTable (arithmetic b.is_exact m.scales) m b.horizon b.kept
