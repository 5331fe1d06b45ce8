use Rattle.std.proofs.Common.{◌∙◌, ap, map, not, string_bytes, sym, subst}
use Rattle.dp_model.proofs.NameLemmas.{has_name-texts, with_name-kept, with_name-texts}
use Rattle.dp_model.specs.Names.{IsNameList}
use Rattle.dp_model.proofs.name_list.NameList.add.Goals as goal

pub returns-clause-is_new : goal.returns-clause-is_new
returns-clause-is_new c =
    c.in_ok-is_new.ensures.added
    ∙ ap not (has_name-texts string_bytes c.self.inside.names.keys c.args.self.now _ c.args.name.now c.self.view_is
    c.in_ok-name.ensures.ok)

pub returns-clause-added : goal.returns-clause-added
returns-clause-added c =
    ap (map string_bytes) c.in_ok-is_new.ensures.keys
    ∙ with_name-texts string_bytes c.self.inside.names.keys c.in_ok-name.name c.args.self.now c.args.name.now
    c.self.view_is c.in_ok-name.ensures.ok

pub invariant_of-self-2 : goal.invariant_of-self-2
invariant_of-self-2 c =
    let kept = with_name-kept c.args.self.now c.args.name.now
    (subst IsNameList c.self.view_is c.self.invariant) c.requires.name c.requires.room in
    subst IsNameList
    (sym (ap (map string_bytes) c.in_ok-is_new.ensures.keys
    ∙ with_name-texts string_bytes c.self.inside.names.keys c.in_ok-name.name c.args.self.now c.args.name.now
    c.self.view_is c.in_ok-name.ensures.ok))
    kept

pub returns-clause-kept : goal.returns-clause-kept
returns-clause-kept c =
    subst IsNameList (sym (returns-clause-added c))
    (with_name-kept c.args.self.now c.args.name.now (subst IsNameList c.self.view_is c.self.invariant) c.requires.name
    c.requires.room)
