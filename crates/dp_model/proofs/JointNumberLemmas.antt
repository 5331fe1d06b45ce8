-- The steps of a numbering, from the last agent to the first.
use Rattle.std.specs.Prelude.{◌==◌, slice_set}
use Rattle.std.proofs.lemmas.Grind.{get_or-set_at}
use Rattle.std.proofs.lemmas.List.{get_or-set_other}
use Rattle.std.proofs.lemmas.Bool.{eqb-true, eqb-false}
use Rattle.std.proofs.lemmas.List.{length-set}
use Rattle.std.proofs.Common.{◌≢◌, Bool, true, false, ◌≡◌, ℕ, suc, ◌*◌, ◌<◌, ◌≤◌, List, length, get_or, drop, refl}
use Rattle.std.proofs.Common.{sym, ap, ◌∙◌, arith}
use Rattle.std.proofs.Math.Nat.{mul_comm}
use Rattle.dp_spec.specs.JointNumbers.{product}
use Rattle.dp_model.specs.Parts.{AreParts, AreSteps}
use Rattle.dp_spec.proofs.JointNumberLaws.{AreBelow, below_each, product-drop}

-- one part for each agent, below the agent's number
pub are_below : (ns ps : List ℕ) → AreParts ns ps → AreBelow ns ps
are_below ns ps h = below_each ns ps h.alike h.below

-- one agent more, from behind
pub back-count : (ns : List ℕ) (j agent count : ℕ) → agent ≡ suc j → j < length ns → count ≡ product (drop agent ns)
    → count * get_or ns j 0 ≡ product (drop j ns)
back-count ns j agent count e lt is =
    ap (λ n. n * get_or ns j 0) (is ∙ ap (λ k. product (drop k ns)) e)
    ∙ mul_comm (product (drop (suc j) ns)) (get_or ns j 0) ∙ sym (product-drop ns j lt)

pub back-steps : (ns : List ℕ) (j agent count : ℕ) (steps : List ℕ) → agent ≡ suc j → j < length ns
    → AreSteps ns agent count steps → AreSteps ns j (count * get_or ns j 0) (slice_set steps j count)
back-steps ns j agent count steps e lt old = record {
  within = omega arith;
  room = rw (length-set steps j count) old.room;
  counted = back-count ns j agent count e lt old.counted;
  stepped = λ i from there. at i from there (i == j) refl;
}
  where
    at : (i : ℕ) → j ≤ i → i < length ns → (b : Bool) → (i == j) ≡ b
        → get_or (slice_set steps j count) i 0 ≡ product (drop (suc i) ns)
    at i from there true same =
        let e' : i ≡ j = eqb-true i j same in
        let room : j < length steps = omega arith in
        get_or-set_at steps j i count 0 e' room ∙ old.counted ∙ ap (λ k. product (drop k ns)) (e ∙ ap suc (sym e'))
    at i from there false apart =
        let ne : i ≢ j = eqb-false i j apart in
        get_or-set_other steps j i count 0 ne ∙ old.stepped i (omega arith) there
