use Rattle.std.proofs.Common.{◌≡◌, ◌∙◌, rules, ap, ap₂, map, true}
use Rattle.std.proofs.lemmas.Result.{IfOk-weaker}
use Rattle.clap.specs.Words.{App, app_of, rule_of, with_rule}
use Rattle.clap.specs.Simple.{app_of_fields}
use Rattle.clap.specs.declared.builder.command.Command.{Command}
use Rattle.clap.specs.declared.builder.command.Command.TheOpen.{Command-F}
use Rattle.dp_words.specs.Words.{value_names}
use Rattle.dp_words.specs.Command.{empty_app, flag_rule, plain_rule, with_options}
use Rattle.dp_words.proofs.parse.command.Goals as goal

pub returns : goal.returns
returns c =
    let empty_is : app_of c.disable_help_flag-empty.result ≡ empty_app =
    ap app_of_fields (c.disable_help_flag-empty.ensures
    ∙ ap (λ (f : Command-F Command). record f { disable_help_flag = true }) c.no_binary_name.ensures)
    ∙ ap (λ (a : App). record a { top = record a.top { no_binary_name = true; disable_help_flag = true } })
    c.new.ensures.app in
    let flag_is : rule_of c.action-flag.result ≡ flag_rule = search rules in
    let plain_is : rule_of c.action-plain.result ≡ plain_rule = search rules in
    let names_are : map (λ s. s.now) c.as_slice.result.now ≡ value_names = search rules in
    let options_are : app_of c.in_ok-with_options.field-0 ≡ with_options empty_app value_names =
    c.in_ok-with_options.ensures ∙ ap₂ with_options empty_is names_are in
    let flag_added : app_of c.in_ok-arg.field-0 ≡ with_rule (with_options empty_app value_names) flag_rule =
    c.in_ok-arg.ensures.shape (search rules) ∙ ap₂ with_rule options_are flag_is in
    IfOk-weaker c.arg-2.result _ _ (λ m h. h.shape (search rules) ∙ ap₂ with_rule flag_added plain_is)
    c.arg-2.ensures
