use Rattle.std.proofs.Common.{◌≡◌, ◌+◌, drop}
use Rattle.dp_spec.specs.JointNumbers.{joint_number}
use Rattle.dp_model.proofs.numbering.Numbering.number_of.Given as goal

abbrev pub invariant-loop-i : goal.invariant-loop-i
invariant-loop-i l = l.number + joint_number (drop l.i l.self-inside.sizes) (drop l.i l.parts)
    ≡ joint_number l.self-inside.sizes l.parts
