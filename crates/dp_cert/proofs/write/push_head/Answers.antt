use Rattle.std.proofs.Common.{◌++◌}
use Rattle.std.specs.Prelude.{codes}
use Rattle.dp_cert.specs.CertificateBytes.{interval_bytes, manner_bytes, plain_bytes}
use Rattle.dp_cert.specs.CertificateValue.{certificate_of}
use Rattle.dp_cert.proofs.WrittenTrees.{behind}
use Rattle.dp_cert.proofs.write.push_head.Goals as goal

pub returns-clause-bytes : goal.returns-clause-bytes
returns-clause-bytes c =
    let k = certificate_of c.args.certificate.now in
    let x0 = c.args.text.now.items in
    let x1 = c.push_manner.new.text.items in
    let x2 = c.push_interval.new.text.items in
    let x3 = c.push_inner.new.text.items in
    let x4 = c.extend_from_slice.new.self.items in
    let inner = plain_bytes (codes "inner ") c.args.certificate.now.inner in
    let last = codes "policy\n" in
    behind x0 x1 x4 (manner_bytes k) (interval_bytes k ++ (inner ++ last)) c.in_ok-push_manner.ensures
    (behind x1 x2 x4 (interval_bytes k) (inner ++ last) c.in_ok-push_interval.ensures.bytes
    (behind x2 x3 x4 inner last
    c.in_ok-push_inner.ensures.bytes
    c.in_ok-extend_from_slice.ensures.items))

pub returns-clause-typed : goal.returns-clause-typed
returns-clause-typed c = record { ends = c.in_ok-push_interval.ensures.typed; inner = c.push_inner.ensures.typed }
