use Rattle.std.proofs.Common.{rules, ◌++◌, ap, ◌∙◌}
use Rattle.std.specs.Int.{w128}
use Rattle.std.proofs.lemmas.Int.{to_z-of_z}
use Rattle.dp_cert.specs.CertificateBytes.{signed_bytes}
use Rattle.dp_cert.proofs.WrittenTrees.{on_ok}
use Rattle.dp_cert.proofs.write.push_value.Goals as goal

pub returns-clause-bytes : goal.returns-clause-bytes
returns-clause-bytes c =
    on_ok c.push_signed.result
    (λ e. e ∙ ap (λ z. c.args.text.now.items ++ signed_bytes c.args.word.now z)
    (to_z-of_z w128 c.args.number.now (search rules)))
    c.push_signed.ensures
