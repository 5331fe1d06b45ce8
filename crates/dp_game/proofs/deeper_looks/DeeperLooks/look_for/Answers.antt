use Rattle.std.proofs.Common.{◌≡◌, ◌∙◌, ◌*◌, Bool, true, false, Option, None, Some, ℕ, ℤ, take, drop, length, eqb}
use Rattle.std.proofs.Common.{refl, sym, ap}
use Rattle.std.specs.Prelude.{IfSome, not, unwrap_or}
use Rattle.std.specs.Bool.{Decides}
use Rattle.std.specs.Option.{option_eq}
use Rattle.std.proofs.lemmas.Bool.Decides.{Decides-eqb}
use Rattle.std.proofs.lemmas.Option.{none-some}
use Rattle.std.proofs.lemmas.Slice.Eq.{slice_eq-Decides}
use Rattle.dp_game.specs.DeeperLooks.{KeptLooks}
use Rattle.dp_game.proofs.deeper_looks.DeeperLooks.look_for.Goals as goal

-- a test of two choices tells whether they are the same
choices_decide : (o p : Option ℕ) → Decides (option_eq eqb o p) (o ≡ p)
choices_decide None None = (λ _. refl, λ _. refl)
choices_decide None (Some y) = (λ h. absurd (let no : false ≡ true = h in cc), λ e. absurd (none-some y e))
choices_decide (Some x) None = (λ h. absurd (let no : false ≡ true = h in cc), λ e. absurd (none-some x (sym e)))
choices_decide (Some x) (Some y) =
    (λ h. ap Some ((Decides-eqb x y).0 h), λ e. (Decides-eqb x y).1 (ap (λ o. unwrap_or o x) e))

opposite : (t : Bool) → false ≡ not t → true ≡ t
opposite true h = refl
opposite false h = sym h

where_some : {P : Type 0} (o : Option ℤ) → P → IfSome o (λ _. P)
where_some None p = tt
where_some (Some x) p = p

pub returns-clause-choices : goal.returns-clause-choices
returns-clause-choices c =
    let same = slice_eq-Decides choices_decide c.choices_kept.result.now c.args.choices.now true
    (opposite _ c.if-ne.ensures) in
    let row = c.choices_kept.ensures
    ∙ ap (λ l. take (length c.args.choices.now) (drop (c.args.joint * length c.args.choices.now) l))
    c.deref.ensures.value
    ∙ ap (λ (v : KeptLooks). take (length c.args.choices.now) (drop (c.args.joint * length c.args.choices.now)
    v.wanted)) c.self.view_is in
    where_some c.index.result.now (sym row ∙ same.0 refl)
