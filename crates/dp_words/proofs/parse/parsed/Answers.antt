use Rattle.std.proofs.Common.{◌∙◌, ap, true≢false}
use Rattle.clap.specs.Words.{app_of, is_simple_and_free}
use Rattle.dp_words.proofs.Found.{command_is_simple, parsed_err, parsed_ok}
use Rattle.dp_words.proofs.parse.parsed.Goals as goal

pub returns-in-Ok-try_get_matches_from : goal.returns-in-Ok-try_get_matches_from
returns-in-Ok-try_get_matches_from c =
    let simple = ap is_simple_and_free c.in-Ok.ensures ∙ command_is_simple in
    parsed_ok (app_of c.in-Ok.command) c.args.words.now c.in-Ok-try_get_matches_from.matches c.in-Ok.ensures
    (c.in-Ok-try_get_matches_from.ensures.kinds simple) c.in-Ok-try_get_matches_from.ensures.matches

pub returns : goal.returns
returns c =
    let simple = ap is_simple_and_free c.in-Ok.ensures ∙ command_is_simple in
    parsed_err (app_of c.in-Ok.command) c.args.words.now c.in-Err.error c.in-Ok.ensures
    (c.in-Err.ensures.kinds simple)
    (λ memory. let bad = rw (c.eq.ensures, c.kind.ensures, memory) at c.if-eq.false in absurd (true≢false bad))
