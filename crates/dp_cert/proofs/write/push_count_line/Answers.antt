use Rattle.std.proofs.Common.{◌∷◌, ◌++◌, [], map, length, sym, ap, ◌∙◌}
use Rattle.std.specs.Prelude.{codes, false}
use Rattle.dp_lines.specs.Lines.{row_tail}
use Rattle.dp_cert.proofs.WrittenTrees.{behind, mapped_twice}
use Rattle.dp_cert.proofs.write.push_count_line.Goals as goal

pub returns : goal.returns
returns c =
    let x0 = c.args.text.now.items in
    let x1 = c.extend_from_slice.new.self.items in
    let x2 = c.push_counts.new.text.items in
    let x3 = c.push.new.self.items in
    let tail = row_tail false (map (λ r. length r.items) c.args.stages.now) in
    behind x0 x1 x3 (codes "rows") (tail ++ 10 ∷ []) c.in_ok-extend_from_slice.ensures.items
    (behind x1 x2 x3 tail (10 ∷ []) c.in_ok-push_counts.ensures c.in_ok-push.ensures.items)
    ∙ ap (λ ks. x0 ++ (codes "rows" ++ (row_tail false ks ++ 10 ∷ [])))
    (sym (mapped_twice (λ r. r.items) (λ rows. length rows) c.args.stages.now))
