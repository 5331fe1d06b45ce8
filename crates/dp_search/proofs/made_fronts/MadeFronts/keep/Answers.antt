use Rattle.std.proofs.Common.{◌≡◌, nat_eq, subst, sym, rules}
use Rattle.dp_search.specs.declared.made_fronts.Entry.{Entry}
use Rattle.dp_search.specs.declared.path.Path.{Path}
use Rattle.dp_search.specs.MadeFronts.{IsMadeFront}
use Rattle.dp_search.specs.Paths.{path_front}
use Rattle.dp_search.proofs.MadeFronts.{put_made}
use Rattle.dp_search.proofs.made_fronts.MadeFronts.keep.Goals as goal

pub returns-clause-kept : goal.returns-clause-kept
returns-clause-kept c m h look merging made is =
    let path = c.in_ok-clone.field-0 in
    let same : path.value ≡ c.args.path.now.value = search (rules, c.in_ok-clone.ensures.cases) in
    let own = subst (λ (p : Path). IsMadeFront m h look merging (path_front m p) c.args.made) (sym same) is in
    let entry : Entry = record { path = path; made = c.args.made; numbers = c.numbers_of-numbers.result } in
    c.make_room.ensures m h look merging
    (put_made m h look merging c.args.self.now made nat_eq c.number-number.result entry _ _
    c.in_ok-put.ensures.entries own)
