use Rattle.std.proofs.Common.{◌≡◌, ◌∙◌, ap, refl, subst, sym}
use Rattle.dp_spec.specs.Front.{Front}
use Rattle.dp_search.specs.MadeFronts.{IsEntry, IsMadeFront}
use Rattle.dp_search.specs.Paths.{path_front}
use Rattle.dp_search.proofs.MadeFronts.{found_made, promoted_made, same_made, with_entries}
use Rattle.dp_search.proofs.made_fronts.MadeFronts.find.Goals as goal

pub returns-in_err-made-in-Some-clause-kept : goal.returns-in_err-made-in-Some-clause-kept
returns-in_err-made-in-Some-clause-kept c m h look merging made =
    promoted_made m h look merging c.args.self.now made _ _ _ c.promote.ensures.entries

pub returns-in-None-clause-kept : goal.returns-in-None-clause-kept
returns-in-None-clause-kept c m h look merging made =
    promoted_made m h look merging c.args.self.now made _ _ _ c.promote.ensures.entries

pub returns-in_ok-made-in-Some-clause-found : goal.returns-in_ok-made-in-Some-clause-found
returns-in_ok-made-in-Some-clause-found c m h look merging made =
    let found = c.in-Some.entry.now in
    let other = c.in_ok-made-in-Some.made in
    let same = c.in_ok-made-in-Some.ensures in
    let store = with_entries c.args.self.now c.promote.new.self c.args.self.now.numbers in
    let kept = promoted_made m h look merging c.args.self.now made _ _ c.args.self.now.numbers
    c.promote.ensures.entries in
    let entry : IsEntry m h look merging found = found_made m h look merging store kept _ found
    (sym c.in-Some.ensures) in
    let steps : path_front m found.path.value ≡ path_front m c.args.path.now =
    ap (path_front m) (sym c.as_ref.ensures) ∙ c.if-have_same_steps.ensures refl m in
    same_made m h look merging (path_front m c.args.path.now) found.made other same.front same.game same.settled
    (subst (λ (F : Front). IsMadeFront m h look merging F found.made) steps entry)

pub returns-in_ok-made-in-Some-clause-kept : goal.returns-in_ok-made-in-Some-clause-kept
returns-in_ok-made-in-Some-clause-kept c m h look merging made =
    promoted_made m h look merging c.args.self.now made _ _ _ c.promote.ensures.entries

pub returns-else-have_same_steps-clause-kept : goal.returns-else-have_same_steps-clause-kept
returns-else-have_same_steps-clause-kept c m h look merging made =
    promoted_made m h look merging c.args.self.now made _ _ _ c.promote.ensures.entries
