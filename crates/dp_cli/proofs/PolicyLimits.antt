-- A limit that a policy text passes is one of its horizon.
use Rattle.std.proofs.Common.{◌≡◌, ℕ, zero, suc, ◌+◌, List, [], ◌∷◌, map, Option, Some, None, Result, Ok, Err, false}
use Rattle.std.proofs.Common.{refl, ap, subst, ◌∙◌}
use Rattle.std.specs.Prelude.{ℤ, unsigned_abs}
use Rattle.dp_spec.specs.Model.{Model}
use Rattle.dp_model.specs.declared.limit.TooLarge.{TooLarge}
use Rattle.dp_model.specs.Horizons.{horizon_limits}
use Rattle.dp_model.specs.Limits.{first_passed}
use Rattle.dp_lines.specs.declared.why.FileWhy.{FileWhy}
use Rattle.dp_lines.specs.Grammar.{Grammar, ends, passes, next, ◌>>=◌, Fault, bad, limit}
use Rattle.dp_lines.specs.Scanning.{Found, Rest, front_of, lines_at, text_from, whole}
use Rattle.dp_policy.specs.PolicyGrammar.{agent_rows, policy_grammar, stage_rows}
use Rattle.dp_lines.specs.Steps.{first_plain, unless_passed}
use Rattle.dp_policy.proofs.PolicyParts.{behind_limits, behind_agents}
use Rattle.dp_cli.proofs.FileLimits.{IsOther, horizon_is_other, is_of_file}

-- no limit of the grammar is one on the bytes of a file
abbrev pub AreOther : {V : Type 0} → Grammar TooLarge V → Type 0
AreOther (ends x) = Unit {0}
AreOther (passes passed) = is_of_file passed.what ≡ false
AreOther (next forms after) = (k : ℕ) (zs : List ℤ) → AreOther (after k zs)

pub AreOther-bind : {V W : Type 0} (g : Grammar TooLarge V) (f : V → Grammar TooLarge W) → AreOther g
    → ((v : V) → AreOther (f v)) → AreOther (g >>= f)
AreOther-bind (ends x) f here behind = behind x
AreOther-bind (passes passed) f here behind = here
AreOther-bind (next forms after) f here behind = λ k zs. AreOther-bind (after k zs) f (here k zs) behind

front_limit : {V : Type 0} (g : Grammar TooLarge V) (line : ℕ) (bytes : List ℕ) (passed : TooLarge) → AreOther g
    → front_of g line bytes ≡ Err (limit passed) → is_of_file passed.what ≡ false
front_limit (ends x) line bytes passed are e = absurd cc
front_limit (passes other) line bytes passed are e = let same : other ≡ passed = cc in
    subst (λ (l : TooLarge). is_of_file l.what ≡ false) same are
front_limit {V = V} (next forms after) line bytes passed are e =
    by (lines_at forms bytes) (λ k zs more. front_limit (after k zs) (suc line) more passed (are k zs)) e
  where
    by : (r : Result Found FileWhy)
        → ((k : ℕ) (zs : List ℤ) (more : List ℕ) → front_of (after k zs) (suc line) more ≡ Err (limit passed)
        → is_of_file passed.what ≡ false)
        → (elim r as (λ x. Result (Rest V) (Fault TooLarge))
        [ Ok found ↦ front_of (after found.k found.zs) (suc line) found.more | Err why ↦ Err (bad line why) ])
        ≡ Err (limit passed) → is_of_file passed.what ≡ false
    by (Ok found) rest e = rest found.k found.zs found.more e
    by (Err why) rest e = absurd cc

pub text_limit : {V : Type 0} (g : Grammar TooLarge V) (bytes : List ℕ) (passed : TooLarge) → AreOther g
    → text_from g 1 bytes ≡ Err (limit passed) → is_of_file passed.what ≡ false
text_limit {V = V} g bytes passed are e = by (front_of g 1 bytes) refl e
  where
    whole_limit : (rest : Rest V) (b : List ℕ) → rest.bytes ≡ b
        → whole {L = TooLarge} (record rest { bytes = b }) ≡ Err (limit passed) → ⊥
    whole_limit rest [] is e = cc
    whole_limit rest (c ∷ b) is e = cc

    by : (r : Result (Rest V) (Fault TooLarge)) → front_of g 1 bytes ≡ r
        → (elim r as (λ x. Result V (Fault TooLarge)) [ Ok rest ↦ whole rest | Err fault ↦ Err fault ])
        ≡ Err (limit passed)
        → is_of_file passed.what ≡ false
    by (Ok rest) is e = absurd (whole_limit rest rest.bytes refl e)
    by (Err fault) is e = let same : fault ≡ limit passed = cc in
        front_limit g 1 bytes passed are (is ∙ ap Err same)

-- ---- the grammar of policies

stages_other : (b n t left : ℕ) → AreOther (stage_rows b n t left)
stages_other b n t zero = tt
stages_other b n t (suc left) = λ k zs.
    AreOther-bind (stage_rows b n (t + 1) left) (λ others. ends (map unsigned_abs zs ∷ others))
    (stages_other b n (t + 1) left) (λ others. tt)

agents_other : (h agent : ℕ) (bs ns : List ℕ) → AreOther (agent_rows h agent bs ns)
agents_other h agent [] ns = tt
agents_other h agent (b ∷ bs) [] = tt
agents_other h agent (b ∷ bs) (n ∷ ns) = λ k zs.
    AreOther-bind (stage_rows b n 0 h) (λ rows. agent_rows h (agent + 1) bs ns >>= λ others. ends
    (rows ∷ others))
    (stages_other b n 0 h)
    (λ rows. AreOther-bind (agent_rows h (agent + 1) bs ns) (λ others. ends (rows ∷ others))
    (agents_other h (agent + 1) bs ns) (λ others. tt))

unless_other : (o : Option TooLarge) → IsOther o → AreOther (unless_passed o)
unless_other None is = tt
unless_other (Some passed) is = is

policy_other : (m : Model) → AreOther (policy_grammar m)
unfolding policy_grammar
policy_other m = λ k zs j ys.
    let h = first_plain ys in
    AreOther-bind (unless_passed (first_passed (horizon_limits m (first_plain ys))))
    (λ kept. behind_limits m (first_plain ys))
    (unless_other (first_passed (horizon_limits m (first_plain ys))) (horizon_is_other m h))
    (λ kept. AreOther-bind (agent_rows (first_plain ys) 0 m.actions m.observations)
    (behind_agents (first_plain ys)) (agents_other h 0 m.actions m.observations) (λ agents i xs. tt))

pub limit_of_text : (m : Model) (bytes : List ℕ) (passed : TooLarge)
    → text_from (policy_grammar m) 1 bytes ≡ Err (limit passed)
    → is_of_file passed.what ≡ false
limit_of_text m bytes passed e = text_limit (policy_grammar m) bytes passed (policy_other m) e
