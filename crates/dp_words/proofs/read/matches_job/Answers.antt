use Rattle.std.proofs.Common.{◌≡◌, rules, ap, map, true, unwrap_or, []}
use Rattle.dp_words.specs.Words.{all_hold}
use Rattle.dp_words.specs.Command.{merging_off, plain_words, values_of}
use Rattle.dp_words.proofs.Jobs.{split_job}
use Rattle.dp_words.proofs.read.matches_job.Goals as goal

pub returns : goal.returns
returns c =
    let in_range : all_hold (values_of c.args.given.now) ≡ true = search rules in
    let plain : map (λ s. s.now) c.in-Some.plain.now ≡ plain_words c.args.given.now =
    ap (λ o. unwrap_or o []) c.in-Some.ensures in
    split_job (values_of c.args.given.now) (merging_off c.args.given.now) c.command_job.result
    (plain_words c.args.given.now) c.in-Some.plain.now _ in_range c.in-len1-up.len_at_least plain
    c.command_job.ensures
