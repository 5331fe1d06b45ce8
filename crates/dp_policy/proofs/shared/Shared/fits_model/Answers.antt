use Rattle.std.proofs.Common.{map, subst}
use Rattle.std.specs.Prelude.{◌↔◌, IsTrue}
use Rattle.dp_spec.specs.SharedPolicy.{IsSharedOf}
use Rattle.dp_policy.specs.SharedRows.{HorizonRows}
use Rattle.dp_policy.proofs.shared.Shared.fits_model.Goals as goal

pub returns : goal.returns
returns c =
    subst (λ (v : HorizonRows). IsTrue c.is_shared.result ↔ IsSharedOf c.args.model.now.model v.horizon v.rows)
    c.self.view_is
    (subst (λ l. IsTrue c.is_shared.result ↔ IsSharedOf c.args.model.now.model c.self.inside.horizon
    (map (λ s. map (λ r. r.items) s.items) l)) c.deref.ensures.value c.is_shared.ensures)
