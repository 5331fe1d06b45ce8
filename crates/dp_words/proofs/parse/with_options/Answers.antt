use Rattle.std.proofs.Common.{◌≡◌, ◌∙◌, rules, ap, ap₂, sym, arith, map, drop, suc, ◌+◌, drop-cons, drop_of_length-le}
use Rattle.std.proofs.Common.{slice_index_or}
use Rattle.clap.specs.Words.{App, app_of, rule_of, with_rule}
use Rattle.dp_words.specs.Command.{option_rule, with_options}
use Rattle.dp_words.proofs.parse.with_options.Goals as goal

pub returns : goal.returns
returns c = ap (λ ns. with_options (app_of c.loop-name.command) (map (λ name. name.now) ns))
    (sym (drop_of_length-le c.args.names.now c.loop-name-test.false)) ∙ c.loop-name.invariant

pub loop-name-preserved : goal.loop-name-preserved
loop-name-preserved c =
    let i = c.loop-name.name-index in
    let names = c.args.names.now in
    let name = c.new.result.id in
    let cons = drop-cons names i name c.loop-name-test.true in
    let rule : rule_of c.action-option.result ≡ option_rule (slice_index_or names i name).now = search rules in
    let made : app_of c.in_ok-command.command
    ≡ with_rule (app_of c.loop-name.command) (option_rule (slice_index_or names i name).now) =
    c.in_ok-command.ensures.shape (search rules) ∙ ap (with_rule (app_of c.loop-name.command)) rule in
    let next : i + 1 ≡ suc i = omega arith in
    ap₂ (λ (a : App) n. with_options a (map (λ name. name.now) (drop n names))) made next
    ∙ ap (λ ns. with_options (app_of c.loop-name.command) (map (λ name. name.now) ns)) (sym cons)
    ∙ c.loop-name.invariant
