-- No joint policy is worth more from a state than a table says.
use Rattle.std.proofs.Common.{ℕ, ◌<◌, Bool, ℤ, pos, ◌*ℤ◌, ◌≤ℤ◌, List, sym, subst}
use Rattle.dp_spec.specs.Model.{IsModel, Model}
use Rattle.dp_spec.specs.PolicyTree.{IsPolicyOf, PolicyTree}
use Rattle.dp_spec.specs.Value.{backward_value}
use Rattle.dp_spec.specs.MdpTable.{mdp_table}
use Rattle.dp_spec.specs.Arithmetic.{arithmetic}
use Rattle.dp_spec.specs.Enclosure.{enclosure}
use Rattle.dp_spec.specs.Quantities.{mdp_table_in}
use Rattle.dp_base.proofs.Order.{mul_le_right}
use Rattle.dp_base.proofs.Ring.{zle_trans}
use Rattle.dp_laws.proofs.Modes.{model_arithmetic_sound}
use Rattle.dp_laws.proofs.OneStep.{value_le_table}
use Rattle.dp_laws.proofs.QuantityLaws.{mode_quantities}
use Rattle.dp_mdp.specs.TableRows.{BoundsEachValue, IsTable, KeptTable, state_scale}

-- the computed table is at least each value
value_le_computed : (e : Bool) (m : Model) → IsModel m → (r s : ℕ) (qs : List PolicyTree) → s < m.states
    → IsPolicyOf m r qs →
    (backward_value m r s qs *ℤ pos ((enclosure e).unit (state_scale m r)))
    ≤ℤ (mdp_table_in (arithmetic e m.scales) m r s *ℤ pos (state_scale m r))
value_le_computed e m is r s qs state policy =
    let true_table = mul_le_right ((enclosure e).unit (state_scale m r)) _ _
    (value_le_table m is r s qs state policy) in
    let above = (mode_quantities m is e).tables r s in
    zle_trans _ _ _ true_table ((model_arithmetic_sound m is e).reads (state_scale m r) (mdp_table m r s)
    _ above)

pub table_bounds : (e : Bool) (m : Model) → IsModel m → (h : ℕ) (t : KeptTable)
    → IsTable (arithmetic e m.scales) m h t → BoundsEachValue e m h t.rows
table_bounds e m is h t table r s qs steps state policy =
    subst
    (λ (v : ℤ). (backward_value m r s qs *ℤ pos ((enclosure e).unit (state_scale m r)))
    ≤ℤ (v *ℤ pos (state_scale m r)))
    (sym ((table.each r steps).values s state)) (value_le_computed e m is r s qs state policy)
