use Rattle.std.proofs.Common.{◌≡◌, ◌∙◌, rules, sym, ap, map, codes, true, false, is_some, List, true≢false}
use Rattle.std.specs.List.{list_all, list_any}
use Rattle.std.specs.Str.{bytes_eq}
use Rattle.dp_words.specs.Words.{is_allowed, value_names}
use Rattle.dp_words.specs.Line.{Text}
use Rattle.dp_words.specs.Command.{merging_off, values_of}
use Rattle.dp_words.proofs.Fits.{merging_stops, rest_decides}
use Rattle.dp_words.proofs.line.fits.Goals as goal
use Rattle.dp_words.proofs.line.fits.Goals.{else-merging_off-via-then-merging_off+else-not-is_among}
use Rattle.dp_words.proofs.line.fits.Goals.{else-merging_off-via-else-merging_off}

pub returns-then-not-is_among : goal.returns-then-not-is_among
returns-then-not-is_among c =
    let off : merging_off c.args.given.now ≡ true = search rules in
    let among : list_any (λ n. bytes_eq n (codes "no-merge")) (map (λ n. n.now) c.args.options.now) ≡ false =
    search rules in
    merging_stops (list_all (is_allowed (map (λ n. n.now) c.args.options.now) (values_of c.args.given.now))
    value_names) (list_any (λ n. bytes_eq n (codes "no-merge")) (map (λ n. n.now) c.args.options.now))
    (merging_off c.args.given.now)
    (list_all (λ n. is_some (values_of c.args.given.now n)) (map (λ n. n.now) c.args.required.now)) off among

pub returns : goal.returns
returns c =
    let names_are : map (λ n. n.now) c.as_slice.result.now ≡ value_names = search rules in
    let allowed : list_all (is_allowed (map (λ n. n.now) c.args.options.now) (values_of c.args.given.now))
    (map (λ n. n.now) c.as_slice.result.now) ≡ true = search rules in
    let all : list_all (is_allowed (map (λ n. n.now) c.args.options.now) (values_of c.args.given.now))
    value_names
    ≡ true =
    ap (λ (ns : List Text). list_all (is_allowed (map (λ n. n.now) c.args.options.now)
    (values_of c.args.given.now))
    ns) (sym names_are) ∙ allowed in
    let among : merging_off c.args.given.now ≡ true
    → list_any (λ n. bytes_eq n (codes "no-merge")) (map (λ n. n.now) c.args.options.now) ≡ true = λ off.
    elim c.else-merging_off.branch [
      | else-merging_off-via-then-merging_off+else-not-is_among w ↦ search rules
      | else-merging_off-via-else-merging_off w ↦ absurd
          (true≢false (sym off ∙ (let no : merging_off c.args.given.now ≡ false = search rules in no)))
    ] in
    c.all_given.ensures
    ∙ rest_decides (list_all (is_allowed (map (λ n. n.now) c.args.options.now) (values_of c.args.given.now))
    value_names) (list_any (λ n. bytes_eq n (codes "no-merge")) (map (λ n. n.now) c.args.options.now))
    (merging_off c.args.given.now)
    (list_all (λ n. is_some (values_of c.args.given.now n)) (map (λ n. n.now) c.args.required.now)) all among
