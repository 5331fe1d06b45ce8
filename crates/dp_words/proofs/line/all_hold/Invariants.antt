use Rattle.std.proofs.Common.{◌≡◌, drop, map}
use Rattle.std.specs.List.{list_all}
use Rattle.dp_words.specs.Words.{holds, number_option}
use Rattle.dp_words.specs.Command.{setting_of, values_of}
use Rattle.dp_words.proofs.line.all_hold.Given as goal

-- those still to come hold exactly where all do
abbrev pub invariant-loop-setting : goal.invariant-loop-setting
invariant-loop-setting l =
    list_all (holds (values_of l.given)) (map (λ s. number_option (setting_of s))
    (drop l.setting-index l.settings))
    ≡ list_all (holds (values_of l.given)) (map (λ s. number_option (setting_of s)) l.settings)
