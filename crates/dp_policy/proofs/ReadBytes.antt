-- Bytes that say a policy are the bytes that are written of it.
use Rattle.std.proofs.Common.{◌≡◌, ℕ, zero, suc, ◌+◌, ◌-◌, ◌^◌, ◌<◌, true, List, [], ◌∷◌, ◌++◌, length, map, Result}
use Rattle.std.proofs.Common.{Ok, Err, refl, sym, ap, subst, ◌∙◌, append_assoc, arith}
use Rattle.std.specs.Prelude.{ℤ, pos, negsuc, Option, Some, None, replicate, codes, decimal, unsigned_abs}
use Rattle.std.specs.List.{join_with_byte}
use Rattle.dp_lines.specs.Grammar.{IsText, Grammar, ends, ◌>>=◌, nth_form, Fault, bad}
use Rattle.dp_spec.specs.Model.{Model, IsModel}
use Rattle.dp_spec.specs.TextLines.{Item, plain, spelled_items, line_text, Allows}
use Rattle.dp_spec.specs.PolicyText.{row_form, horizon_form}
use Rattle.dp_model.specs.declared.limit.TooLarge.{TooLarge}
use Rattle.dp_model.specs.Horizons.{horizon_limits}
use Rattle.dp_model.specs.Limits.{first_passed}
use Rattle.dp_lines.specs.declared.why.FileWhy.{FileWhy}
use Rattle.dp_lines.specs.Forms.{AreSpelled}
use Rattle.dp_lines.specs.Lines.{AreWords, fixed_form, row_tail}
use Rattle.dp_lines.specs.Scanning.{Found, lines_at, Rest, front_of, whole, text_from}
use Rattle.dp_lines.proofs.SpelledLines.{HasItems}
use Rattle.dp_lines.proofs.FirstLines.{IsLineAnswer, lines_answer}
use Rattle.dp_lines.proofs.LineAnswers.{words_have_items, spelled_words}
use Rattle.dp_lines.proofs.OneAnswer.{read_answer, one_answer}
use Rattle.dp_lines.proofs.WrittenLines.{says-line_text, typed_allowed, all_joined}
use Rattle.dp_lines.specs.Steps.{the_words, the_numbers, unless_passed, first_plain}
use Rattle.dp_policy.specs.PolicyGrammar.{PolicyActions, stage_rows, agent_words, agent_rows, title_words, end_words}
use Rattle.dp_policy.specs.PolicyGrammar.{policy_grammar}
use Rattle.dp_policy.specs.PolicyBytes.{row_bytes, rows_bytes, agents_bytes, policy_bytes}
use Rattle.dp_lines.specs.Reading.{rest_at}
use Rattle.dp_policy.proofs.AgentParts.{agent_words_are}
use Rattle.dp_policy.proofs.PolicyParts.{behind_title, behind_horizon, behind_limits, behind_agents}
use Rattle.dp_policy.proofs.PolicyAnswers.{policy_proper}
use Rattle.dp_lines.proofs.ProperTexts.{replicate_items}
use Rattle.dp_lines.proofs.TextParts.{then_front, front_bind}

-- ---- parts

-- the part in front and the part behind it
pub record IsSplit {V W : Type 0} (g : Grammar TooLarge V) (f : V → Grammar TooLarge W) (line : ℕ)
    (bytes : List ℕ)
    (rest : Rest W) : Type 0 where
  pub mid : Rest V
  pub front : front_of g line bytes ≡ Ok mid
  pub behind : front_of (f mid.value) mid.line mid.bytes ≡ Ok rest

pub split : {V W : Type 0} (g : Grammar TooLarge V) (f : V → Grammar TooLarge W) (line : ℕ) (bytes : List ℕ)
    (rest : Rest W) → front_of (g >>= f) line bytes ≡ Ok rest → IsSplit g f line bytes rest
split {V = V} g f line bytes rest e = by_front (front_of g line bytes) refl
    (sym (front_bind g f line bytes) ∙ e)
  where
    by_front : (r : Result (Rest V) (Fault TooLarge)) → front_of g line bytes ≡ r → then_front r f ≡ Ok rest
        → IsSplit g f line bytes rest
    by_front (Ok mid) is e = record { mid = mid; front = is; behind = e }
    by_front (Err fault) is e = absurd cc

pub same_rest : {V : Type 0} (x y : Rest V) → (let one : Result (Rest V) (Fault TooLarge) = Ok x in one ≡ Ok y)
    → x ≡ y
same_rest x y e = cc

only_form : (form other : List Item) (k : ℕ) → nth_form (form ∷ []) k ≡ Some other → form ≡ other
only_form form other zero e = cc
only_form form other (suc k) e = absurd cc

-- what is known of a line that was read
pub record IsLine (form : List Item) (bytes : List ℕ) (zs : List ℤ) (more : List ℕ) : Type 0 where
  pub allowed : Allows form zs
  pub first : bytes ≡ line_text form zs ++ 10 ∷ more

pub line_is : (form : List Item) (line : ℕ) (bytes : List ℕ) (rest : Rest (List ℤ)) → HasItems form
    → front_of {L = TooLarge} (the_numbers form) line bytes ≡ Ok rest → IsLine form bytes rest.value rest.bytes
line_is form line bytes rest has e = by_line (lines_at (form ∷ []) bytes)
    (lines_answer (form ∷ []) bytes (has, tt)) e
  where
    by_line : (r : Result Found FileWhy) → IsLineAnswer (form ∷ []) bytes r
        → (elim r as (λ x. Result (Rest (List ℤ)) (Fault TooLarge))
        [ Ok found ↦ Ok (rest_at found.zs (suc line) found.more) | Err why ↦ Err (bad line why) ]) ≡ Ok rest
        → IsLine form bytes rest.value rest.bytes
    by_line (Ok found) a e =
        let one : Rest (List ℤ) = rest_at found.zs (suc line) found.more in
        let same : one ≡ rest = same_rest one rest e in
        let is : IsLine a.form bytes found.zs found.more = record {
          allowed = typed_allowed a.form found.zs a.begins.says.items a.begins.says.spelled a.typed a.in_range;
          first = a.begins.first ∙ ap (λ (l : List ℕ). l ++ 10 ∷ found.more)
              (says-line_text a.form found.zs a.begins.line a.begins.says a.typed);
        } in
        subst (λ (r : Rest (List ℤ)). IsLine form bytes r.value r.bytes) same
        (subst (λ (f : List Item). IsLine f bytes found.zs found.more)
        (sym (only_form form a.form found.k a.begins.is_form)) is)
    by_line (Err why) a e = absurd cc

pub words_are : (ws : List (List ℕ)) (line : ℕ) (bytes : List ℕ) (rest : Rest (Unit {0})) → AreWords ws
    → front_of {L = TooLarge} (the_words ws) line bytes ≡ Ok rest
    → bytes ≡ join_with_byte 32 ws ++ 10 ∷ rest.bytes
words_are ws line bytes rest are e = by_line (lines_at (fixed_form ws ∷ []) bytes)
    (lines_answer (fixed_form ws ∷ []) bytes (words_have_items ws are, tt)) e
  where
    by_line : (r : Result Found FileWhy) → IsLineAnswer (fixed_form ws ∷ []) bytes r
        → (elim r as (λ x. Result (Rest (Unit {0})) (Fault TooLarge))
        [ Ok found ↦ Ok (rest_at tt (suc line) found.more) | Err why ↦ Err (bad line why) ]) ≡ Ok rest
        → bytes ≡ join_with_byte 32 ws ++ 10 ∷ rest.bytes
    by_line (Ok found) a e =
        let one : Rest (Unit {0}) = rest_at tt (suc line) found.more in
        let same : one ≡ rest = same_rest one rest e in
        let form = only_form (fixed_form ws) a.form found.k a.begins.is_form in
        let spelled : AreSpelled (fixed_form ws) found.zs a.begins.says.items = subst
        (λ (f : List Item). AreSpelled f found.zs a.begins.says.items) (sym form) a.begins.says.spelled in
        let line_is : a.begins.line ≡ join_with_byte 32 ws = a.begins.says.joined
        ∙ ap (join_with_byte 32) (spelled_words ws found.zs a.begins.says.items spelled) in
        a.begins.first ∙ ap (λ (l : List ℕ). l ++ 10 ∷ found.more) line_is
        ∙ ap (λ (r : Rest (Unit {0})). join_with_byte 32 ws ++ 10 ∷ r.bytes) same
    by_line (Err why) a e = absurd cc

-- ---- rows

row_spelled : (k low high : ℕ) (zs : List ℤ) → Allows (replicate k (plain low high)) zs
    → spelled_items (replicate k (plain low high)) zs ≡ map decimal (map unsigned_abs zs)
row_spelled zero low high [] a = refl
row_spelled zero low high (z ∷ zs) a = absurd a
row_spelled (suc k) low high [] a = absurd a
row_spelled (suc k) low high (negsuc n ∷ zs) a = absurd a
row_spelled (suc k) low high (pos n ∷ zs) a = ap (λ (l : List (List ℕ)). decimal n ∷ l)
    (row_spelled k low high zs a.3)

stages_are : (b n t left line : ℕ) (bytes : List ℕ) (rest : Rest (List (List ℕ)))
    → front_of {L = TooLarge} (stage_rows b n t left) line bytes ≡ Ok rest
    → bytes ≡ rows_bytes rest.value ++ rest.bytes
stages_are b n t zero line bytes rest e =
    let one : Rest (List (List ℕ)) = rest_at [] line bytes in
    ap (λ (r : Rest (List (List ℕ))). rows_bytes r.value ++ r.bytes) (same_rest one rest e)
stages_are b n t (suc left) line bytes rest e =
    let s = split (the_numbers (row_form b n t)) (λ row. stage_rows b n (t + 1) left >>= λ others. ends
    (map unsigned_abs row ∷ others)) line bytes rest e in
    let row = line_is (row_form b n t) line bytes s.mid (replicate_items (n ^ t) 0 (b - 1)) s.front in
    let u = split (stage_rows b n (t + 1) left) (λ others. ends (map unsigned_abs s.mid.value ∷ others))
    s.mid.line s.mid.bytes rest s.behind in
    let others = stages_are b n (t + 1) left s.mid.line s.mid.bytes u.mid u.front in
    let one : Rest (List (List ℕ)) = rest_at (map unsigned_abs s.mid.value ∷ u.mid.value)
    u.mid.line u.mid.bytes in
    let text : line_text (row_form b n t) s.mid.value ≡ row_tail true (map unsigned_abs s.mid.value) =
    ap (join_with_byte 32) (row_spelled (n ^ t) 0 (b - 1) s.mid.value row.allowed)
    ∙ all_joined (map unsigned_abs s.mid.value) in
    row.first ∙ ap (λ (l : List ℕ). l ++ 10 ∷ s.mid.bytes) text
    ∙ ap (λ (l : List ℕ). row_tail true (map unsigned_abs s.mid.value) ++ 10 ∷ l) others
    ∙ sym (append_assoc (row_tail true (map unsigned_abs s.mid.value)) (10 ∷ [])
    (rows_bytes u.mid.value ++ u.mid.bytes))
    ∙ sym (append_assoc (row_bytes (map unsigned_abs s.mid.value)) (rows_bytes u.mid.value) u.mid.bytes)
    ∙ ap (λ (r : Rest (List (List ℕ))). rows_bytes r.value ++ r.bytes) (same_rest one rest u.behind)

-- ---- agents

agents_are : (h agent : ℕ) (bs ns : List ℕ) (line : ℕ) (bytes : List ℕ) (rest : Rest (List (List (List ℕ))))
    → agent + length bs < 10 ^ 64 → front_of {L = TooLarge} (agent_rows h agent bs ns) line bytes ≡ Ok rest
    → bytes ≡ agents_bytes agent rest.value ++ rest.bytes
agents_are h agent [] ns line bytes rest few e =
    let one : Rest (List (List (List ℕ))) = rest_at [] line bytes in
    ap (λ (r : Rest (List (List (List ℕ)))). agents_bytes agent r.value ++ r.bytes) (same_rest one rest e)
agents_are h agent (b ∷ bs) [] line bytes rest few e =
    let one : Rest (List (List (List ℕ))) = rest_at [] line bytes in
    ap (λ (r : Rest (List (List (List ℕ)))). agents_bytes agent r.value ++ r.bytes) (same_rest one rest e)
agents_are h agent (b ∷ bs) (n ∷ ns) line bytes rest few e =
    let s = split (the_words (agent_words agent)) (λ title. stage_rows b n 0 h >>= λ rows. agent_rows h
    (agent + 1)
    bs ns >>= λ others. ends (rows ∷ others)) line bytes rest e in
    let title = words_are (agent_words agent) line bytes s.mid (agent_words_are agent (omega arith)) s.front in
    let u = split (stage_rows b n 0 h) (λ rows. agent_rows h (agent + 1) bs ns >>= λ others. ends
    (rows ∷ others))
    s.mid.line s.mid.bytes rest s.behind in
    let rows = stages_are b n 0 h s.mid.line s.mid.bytes u.mid u.front in
    let v = split (agent_rows h (agent + 1) bs ns) (λ others. ends (u.mid.value ∷ others))
    u.mid.line u.mid.bytes rest u.behind in
    let others = agents_are h (agent + 1) bs ns u.mid.line u.mid.bytes v.mid (omega arith) v.front in
    let one : Rest (List (List (List ℕ))) = rest_at (u.mid.value ∷ v.mid.value) v.mid.line v.mid.bytes in
    let lines = rows_bytes u.mid.value ++ agents_bytes (agent + 1) v.mid.value in
    let behind : s.mid.bytes ≡ (rows_bytes u.mid.value ++ agents_bytes (agent + 1) v.mid.value) ++ v.mid.bytes =
    rows ∙ ap (λ (l : List ℕ). rows_bytes u.mid.value ++ l) others
    ∙ sym (append_assoc (rows_bytes u.mid.value) (agents_bytes (agent + 1) v.mid.value) v.mid.bytes) in
    title ∙ ap (λ (l : List ℕ). (codes "agent " ++ decimal agent) ++ 10 ∷ l) behind
    ∙ append_assoc (codes "agent ") (decimal agent) (10 ∷ (lines ++ v.mid.bytes))
    ∙ ap (λ (l : List ℕ). codes "agent " ++ l) (sym (append_assoc (decimal agent) (10 ∷ lines) v.mid.bytes))
    ∙ ap (λ (r : Rest (List (List (List ℕ)))). agents_bytes agent r.value ++ r.bytes)
    (same_rest one rest v.behind)

-- ---- the whole text

horizon_text : (zs : List ℤ) → Allows horizon_form zs → line_text horizon_form zs ≡ codes "horizon "
    ++ decimal (first_plain zs)
horizon_text [] a = absurd a
horizon_text (negsuc n ∷ zs) a = absurd a
horizon_text (pos n ∷ []) a = refl
horizon_text (pos n ∷ z ∷ zs) a = absurd a.3

kept_bytes : (o : Option TooLarge) (line : ℕ) (bytes : List ℕ) (rest : Rest (Unit {0}))
    → front_of (unless_passed o) line bytes ≡ Ok rest → bytes ≡ rest.bytes
kept_bytes None line bytes rest e =
    let one : Rest (Unit {0}) = rest_at tt line bytes in
    ap (λ (r : Rest (Unit {0})). r.bytes) (same_rest one rest e)
kept_bytes (Some passed) line bytes rest e = absurd cc

-- what is known of a text that is read to its end
pub record IsWhole (g : Grammar TooLarge PolicyActions) (bytes : List ℕ) (p : PolicyActions) : Type 0 where
  pub line : ℕ
  pub front : front_of g 1 bytes ≡ Ok (rest_at p line [])

ends_at : (v p : PolicyActions) (line : ℕ) (b : List ℕ) → whole {L = TooLarge} (rest_at v line b) ≡ Ok p
    → (v ≡ p)
    × (b ≡ [])
ends_at v p line [] e = (
  (let one : Result PolicyActions (Fault TooLarge) = Ok v in let equal : one ≡ Ok p = e in
      cc),
  refl,
)
ends_at v p line (c ∷ b) e = absurd cc

pub whole_is : (g : Grammar TooLarge PolicyActions) (bytes : List ℕ) (p : PolicyActions)
    → text_from g 1 bytes ≡ Ok p → IsWhole g bytes p
whole_is g bytes p e = by_front (front_of g 1 bytes) refl e
  where
    by_front : (r : Result (Rest PolicyActions) (Fault TooLarge)) → front_of g 1 bytes ≡ r
        → (elim r as (λ x. Result PolicyActions (Fault TooLarge))
        [ Ok rest ↦ whole rest | Err fault ↦ Err fault ])
        ≡ Ok p → IsWhole g bytes p
    by_front (Ok rest) is e =
        let t = ends_at rest.value p rest.line rest.bytes e in
        record {
          line = rest.line;
          front = is ∙ ap (λ v. Ok (rest_at v rest.line rest.bytes)) t.0
              ∙ ap (λ b. Ok (rest_at p rest.line b)) t.1;
        }
    by_front (Err fault) is e = absurd cc

policy_is : (m : Model) → IsModel m → (bytes : List ℕ) (rest : Rest PolicyActions)
    → front_of (policy_grammar m) 1 bytes ≡ Ok rest → rest.bytes ≡ []
    → bytes ≡ policy_bytes rest.value.horizon rest.value.agents
unfolding policy_grammar
policy_is m is bytes rest e none =
    let few = is.sizes.agents_limit in
    let s = split (the_words (title_words (codes "policy"))) (λ title. behind_title m) 1 bytes rest e in
    let title = words_are (title_words (codes "policy")) 1 bytes s.mid
    (assumption, (assumption, (assumption, tt)))
    s.front in
    let t = split (the_numbers horizon_form) (behind_horizon m) s.mid.line s.mid.bytes rest s.behind in
    let horizon = line_is horizon_form s.mid.line s.mid.bytes t.mid (assumption, tt) t.front in
    let h = first_plain t.mid.value in
    let u = split (unless_passed (first_passed (horizon_limits m (first_plain t.mid.value))))
    (λ kept. behind_limits m (first_plain t.mid.value)) t.mid.line t.mid.bytes rest t.behind in
    let kept = kept_bytes (first_passed (horizon_limits m (first_plain t.mid.value)))
    t.mid.line t.mid.bytes u.mid u.front in
    let v = split (agent_rows (first_plain t.mid.value) 0 m.actions m.observations)
    (behind_agents (first_plain t.mid.value)) u.mid.line u.mid.bytes rest u.behind in
    let agents = agents_are (first_plain t.mid.value) 0 m.actions m.observations u.mid.line u.mid.bytes v.mid
    (omega (arith, few)) v.front in
    let w = split (the_words end_words) (λ end. ends (record
    { horizon = first_plain t.mid.value; agents = v.mid.value })) v.mid.line v.mid.bytes rest v.behind in
    let end = words_are end_words v.mid.line v.mid.bytes w.mid (assumption, tt) w.front in
    let one : Rest PolicyActions = rest_at (record { horizon = first_plain t.mid.value; agents = v.mid.value })
    w.mid.line w.mid.bytes in
    let same : one ≡ rest = same_rest one rest w.behind in
    let last : w.mid.bytes ≡ [] = ap (λ (r : Rest PolicyActions). r.bytes) same ∙ none in
    let behind : t.mid.bytes ≡ agents_bytes 0 v.mid.value ++ codes "end\n" =
    kept ∙ agents ∙ ap (λ (l : List ℕ). agents_bytes 0 v.mid.value ++ l)
    (end ∙ ap (λ (l : List ℕ). codes "end" ++ 10 ∷ l) last) in
    let line : s.mid.bytes ≡ (codes "horizon " ++ decimal (first_plain t.mid.value))
    ++ 10 ∷ (agents_bytes 0 v.mid.value ++ codes "end\n") =
    horizon.first ∙ ap (λ (l : List ℕ). l ++ 10 ∷ t.mid.bytes) (horizon_text t.mid.value horizon.allowed)
    ∙ ap (λ (l : List ℕ). (codes "horizon " ++ decimal (first_plain t.mid.value)) ++ 10 ∷ l) behind in
    title ∙ ap (λ (l : List ℕ). codes "decplan policy 1\n" ++ l)
    (line ∙ append_assoc (codes "horizon ") (decimal (first_plain t.mid.value))
    (10 ∷ (agents_bytes 0 v.mid.value ++ codes "end\n")))
    ∙ ap (λ (r : Rest PolicyActions). policy_bytes r.value.horizon r.value.agents) same

pub read_bytes : (m : Model) → IsModel m → (bytes : List ℕ) (p : PolicyActions)
    → IsText (policy_grammar m) bytes p
    → bytes ≡ policy_bytes p.horizon p.agents
read_bytes m is bytes p text =
    let g = policy_grammar m in
    let proper = policy_proper m is in
    let computed : text_from (policy_grammar m) 1 bytes ≡ Ok p = one_answer (policy_grammar m) proper 1 bytes _
    (Ok p) (read_answer (policy_grammar m) proper 1 bytes) text in
    let w = whole_is (policy_grammar m) bytes p computed in
    policy_is m is bytes (rest_at p w.line []) w.front refl
