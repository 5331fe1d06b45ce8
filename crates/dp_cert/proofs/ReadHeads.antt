-- The lines of a certificate before its policy, as they were read.
use Rattle.std.proofs.Common.{◌≡◌, ℕ, zero, suc, ◌+◌, ◌≤◌, true, false, List, [], ◌∷◌, ◌++◌, inl, inr, Ok, refl, sym}
use Rattle.std.proofs.Common.{subst, arith}
use Rattle.std.specs.Prelude.{ℤ, pos, negsuc, ◌⊎◌, ◌==◌, Option, Some, None, codes, decimal}
use Rattle.dp_spec.specs.CertificateText.{inner_form, look_form, mode_form, signed_form, signed_line}
use Rattle.dp_spec.specs.Model.{Model}
use Rattle.dp_spec.specs.PolicyText.{horizon_form, title_form}
use Rattle.dp_spec.specs.TextLines.{Allows, Item, Line, fixed, fixed_line, plain}
use Rattle.dp_model.specs.declared.limit.TooLarge.{TooLarge}
use Rattle.dp_lines.specs.Grammar.{ends, nth_form, ◌>>=◌}
use Rattle.dp_lines.specs.Lines.{fixed_form}
use Rattle.dp_lines.specs.Scanning.{Rest, front_of}
use Rattle.dp_lines.proofs.FirstLines.{AllHaveItems, proper_items}
use Rattle.dp_lines.proofs.SpelledLines.{HasItems}
use Rattle.dp_policy.proofs.ReadBytes.{IsLine, line_is, same_rest, split}
use Rattle.dp_cert.specs.CertificateGrammar.{Head, Interval, head_grammar, horizon_grammar, horizon_passed}
use Rattle.dp_cert.specs.CertificateGrammar.{interval_grammar, title_grammar}
use Rattle.dp_lines.specs.Reading.{rest_at}
use Rattle.dp_lines.specs.Steps.{first_number, first_plain, one_of, the_numbers, the_words, unless_passed}
use Rattle.dp_cert.proofs.CertificateAnswers.{title_proper}
use Rattle.dp_cert.proofs.HeadParts.{behind_inner, behind_interval, behind_look, behind_mode, behind_title}
use Rattle.dp_cert.proofs.ReadLines.{AreLines, line_then, next_read, no_lines, words_read}

-- ---- lines of one number

-- a line with one plain number
record IsPlainLine (word : List ℕ) (low high : ℕ) (zs : List ℤ) (bytes more : List ℕ) : Type 0 where
  least : low ≤ first_plain zs
  most : first_plain zs ≤ high
  line : IsLine (fixed word ∷ plain low high ∷ []) bytes (pos (first_plain zs) ∷ []) more

plain_is : (word : List ℕ) (low high : ℕ) (zs : List ℤ) (bytes more : List ℕ)
    → IsLine (fixed word ∷ plain low high ∷ []) bytes zs more → IsPlainLine word low high zs bytes more
plain_is word low high [] bytes more is = absurd is.allowed
plain_is word low high (negsuc n ∷ zs) bytes more is = absurd is.allowed
plain_is word low high (pos n ∷ z ∷ zs) bytes more is = absurd is.allowed.3
plain_is word low high (pos n ∷ []) bytes more is =
    record { least = is.allowed.1; most = is.allowed.2; line = is }

plain_read : (word : List ℕ) (low high line : ℕ) (bytes : List ℕ) (rest : Rest (List ℤ))
    → HasItems (fixed word ∷ plain low high ∷ [])
    → front_of {L = TooLarge} (the_numbers (fixed word ∷ plain low high ∷ [])) line bytes ≡ Ok rest
    → IsPlainLine word low high rest.value bytes rest.bytes
plain_read word low high line bytes rest has e =
    plain_is word low high rest.value bytes rest.bytes (line_is (fixed word ∷ plain low high ∷ [])
    line bytes rest has e)

-- a line with one number with a sign
signed_is : (word : List ℕ) (zs : List ℤ) (bytes more : List ℕ) → IsLine (signed_form word) bytes zs more
    → IsLine (signed_form word) bytes (first_number zs ∷ []) more
signed_is word [] bytes more is = absurd is.allowed
signed_is word (z ∷ y ∷ zs) bytes more is = absurd is.allowed.1
signed_is word (z ∷ []) bytes more is = is

signed_read : (word : List ℕ) (line : ℕ) (bytes : List ℕ) (rest : Rest (List ℤ)) → HasItems (signed_form word)
    → front_of {L = TooLarge} (the_numbers (signed_form word)) line bytes ≡ Ok rest
    → IsLine (signed_form word) bytes (first_number rest.value ∷ []) rest.bytes
signed_read word line bytes rest has e =
    signed_is word rest.value bytes rest.bytes (line_is (signed_form word) line bytes rest has e)

-- ---- one of two lines of words

no_numbers : (ws : List (List ℕ)) (zs : List ℤ) → Allows (fixed_form ws) zs → zs ≡ []
no_numbers [] [] a = refl
no_numbers [] (z ∷ zs) a = absurd a
no_numbers (w ∷ ws) zs a = no_numbers ws zs a

words_line : (ws : List (List ℕ)) (form : List Item) (zs : List ℤ) (bytes more : List ℕ)
    → (let one : _ = Some (fixed_form ws) in one ≡ Some form) → IsLine form bytes zs more
    → IsLine (fixed_form ws) bytes [] more
words_line ws form zs bytes more at is =
    let same : fixed_form ws ≡ form = cc in
    let mine : IsLine (fixed_form ws) bytes zs more = subst (λ (f : List Item). IsLine f bytes zs more)
    (sym same)
    is in
    subst (λ (l : List ℤ). IsLine (fixed_form ws) bytes l more) (no_numbers ws zs mine.allowed) mine

-- the first or the second
abbrev EitherLine : List (List ℕ) → List (List ℕ) → ℕ → List ℕ → List ℕ → Type 0
EitherLine ws vs k bytes more =
    ((k ≡ 0) × IsLine (fixed_form ws) bytes [] more) ⊎ ((k ≡ 1) × IsLine (fixed_form vs) bytes [] more)

either_is : (ws vs : List (List ℕ)) (k : ℕ) (form : List Item) (zs : List ℤ) (bytes more : List ℕ)
    → nth_form (fixed_form ws ∷ fixed_form vs ∷ []) k ≡ Some form → IsLine form bytes zs more
    → EitherLine ws vs k bytes more
either_is ws vs zero form zs bytes more at is = inl (refl, words_line ws form zs bytes more at is)
either_is ws vs (suc zero) form zs bytes more at is = inr (refl, words_line vs form zs bytes more at is)
either_is ws vs (suc (suc k)) form zs bytes more at is = absurd cc

either_read : (ws vs : List (List ℕ)) (line : ℕ) (bytes : List ℕ) (rest : Rest ℕ)
    → AllHaveItems (fixed_form ws ∷ fixed_form vs ∷ [])
    → front_of {L = TooLarge} (one_of (fixed_form ws) (fixed_form vs)) line bytes ≡ Ok rest
    → EitherLine ws vs rest.value bytes rest.bytes
either_read ws vs line bytes rest has e =
    let n = next_read (fixed_form ws ∷ fixed_form vs ∷ []) (λ k zs. ends k) line bytes rest has e in
    let one : Rest ℕ = rest_at n.k (suc line) n.more in
    subst (λ (r : Rest ℕ). EitherLine ws vs r.value bytes r.bytes) (same_rest one rest n.behind)
    (either_is ws vs n.k n.form n.zs bytes n.more n.is_form n.is_line)

-- ---- the version

-- a version, 1 or 2, and its line
pub record IsTitle (version : ℕ) (bytes more : List ℕ) : Type 0 where
  pub known : (version ≡ 1) ⊎ (version ≡ 2)
  pub line : IsLine (title_form (codes "certificate") version) bytes [] more

title_of : (k version : ℕ) (bytes more : List ℕ) → version ≡ k + 1
    → EitherLine (codes "decplan" ∷ codes "certificate" ∷ decimal 1 ∷ [])
    (codes "decplan" ∷ codes "certificate" ∷ decimal 2 ∷ []) k bytes more
    → IsTitle version bytes more
title_of k version bytes more e (inl first) =
    let one : version ≡ 1 = omega (arith, e, first.0) in
    record {
      known = inl one;
      line = subst (λ (v : ℕ). IsLine (title_form (codes "certificate") v) bytes [] more) (sym one) first.1;
    }
title_of k version bytes more e (inr second) =
    let two : version ≡ 2 = omega (arith, e, second.0) in
    record {
      known = inr two;
      line = subst (λ (v : ℕ). IsLine (title_form (codes "certificate") v) bytes [] more) (sym two) second.1;
    }

pub title_read : (line : ℕ) (bytes : List ℕ) (rest : Rest ℕ) → front_of title_grammar line bytes ≡ Ok rest
    → IsTitle rest.value bytes rest.bytes
title_read line bytes rest e =
    let s = split (one_of (title_form (codes "certificate") 1) (title_form (codes "certificate") 2))
    (λ k. ends (k + 1)) line
    bytes rest e in
    let either = either_read (codes "decplan" ∷ codes "certificate" ∷ decimal 1 ∷ [])
    (codes "decplan" ∷ codes "certificate" ∷ decimal 2 ∷ []) line bytes s.mid
    (proper_items (title_form (codes "certificate") 1 ∷ title_form (codes "certificate") 2 ∷ []) title_proper.0)
    s.front in
    let one : Rest ℕ = rest_at (s.mid.value + 1) s.mid.line s.mid.bytes in
    subst (λ (r : Rest ℕ). IsTitle r.value bytes r.bytes) (same_rest one rest s.behind)
    (title_of s.mid.value (s.mid.value + 1) bytes s.mid.bytes refl either)

-- ---- the horizon

-- a horizon that keeps the limits of its version, and its line
pub record IsHorizon (m : Model) (version h : ℕ) (bytes more : List ℕ) : Type 0 where
  pub some : 1 ≤ h
  pub kept : horizon_passed m version h ≡ None
  pub line : IsLine horizon_form bytes (pos h ∷ []) more

kept_read : (o : Option TooLarge) (h : ℕ) (line : ℕ) (bytes : List ℕ) (rest : Rest ℕ)
    → front_of (unless_passed o >>= λ kept. ends h) line bytes ≡ Ok rest
    → (o ≡ None) × (let one : Rest ℕ = rest_at h line bytes in one ≡ rest)
kept_read None h line bytes rest e = let one : Rest ℕ = rest_at h line bytes in (refl, same_rest one rest e)
kept_read (Some passed) h line bytes rest e = absurd cc

pub horizon_read : (m : Model) (version line : ℕ) (bytes : List ℕ) (rest : Rest ℕ)
    → front_of (horizon_grammar m version) line bytes ≡ Ok rest
    → IsHorizon m version rest.value bytes rest.bytes
horizon_read m version line bytes rest e =
    let s = split (the_numbers horizon_form) (λ zs. unless_passed (horizon_passed m version (first_plain zs))
    >>= λ kept.
    ends (first_plain zs)) line bytes rest e in
    let number = plain_read (codes "horizon") 1 _ line bytes s.mid (assumption, tt) s.front in
    let h = first_plain s.mid.value in
    let kept = kept_read (horizon_passed m version h) h s.mid.line s.mid.bytes rest s.behind in
    subst (λ (r : Rest ℕ). IsHorizon m version r.value bytes r.bytes) kept.1
    (record { some = number.least; kept = kept.0; line = number.line })

-- ---- the interval

abbrev interval_lines : Interval → List Line
interval_lines i =
    signed_line (codes "unit") i.unit ∷ signed_line (codes "lower") i.lower ∷ signed_line (codes "upper")
    i.upper ∷ []

interval_read : (line : ℕ) (bytes : List ℕ) (rest : Rest Interval)
    → front_of interval_grammar line bytes ≡ Ok rest
    → (ls : List Line) (more : List ℕ) → AreLines ls rest.bytes more
    → AreLines (interval_lines rest.value ++ ls) bytes more
interval_read line bytes rest e ls more others =
    let s = split (the_numbers (signed_form (codes "unit"))) (λ unit. the_numbers (signed_form (codes "lower"))
    >>= λ lower. the_numbers (signed_form (codes "upper")) >>= λ upper. ends (interval unit lower upper))
    line bytes rest e in
    let unit = signed_read (codes "unit") line bytes s.mid (assumption, tt) s.front in
    let u = split (the_numbers (signed_form (codes "lower")))
    (λ lower. the_numbers (signed_form (codes "upper"))
    >>= λ upper. ends (interval s.mid.value lower upper)) s.mid.line s.mid.bytes rest s.behind in
    let lower = signed_read (codes "lower") s.mid.line s.mid.bytes u.mid (assumption, tt) u.front in
    let v = split (the_numbers (signed_form (codes "upper")))
    (λ upper. ends (interval s.mid.value u.mid.value upper))
    u.mid.line u.mid.bytes rest u.behind in
    let upper = signed_read (codes "upper") u.mid.line u.mid.bytes v.mid (assumption, tt) v.front in
    let one : Rest Interval = rest_at (interval s.mid.value u.mid.value v.mid.value) v.mid.line v.mid.bytes in
    let same = same_rest one rest v.behind in
    let behind : AreLines ls v.mid.bytes more = subst (λ (r : Rest Interval). AreLines ls r.bytes more)
    (sym same)
    others in
    subst (λ (r : Rest Interval). AreLines (interval_lines r.value ++ ls) bytes more) same
    (line_then (signed_form (codes "unit")) (first_number s.mid.value ∷ []) _ bytes s.mid.bytes more unit
    (line_then (signed_form (codes "lower")) (first_number u.mid.value ∷ [])
    _ s.mid.bytes u.mid.bytes more lower
    (line_then (signed_form (codes "upper")) (first_number v.mid.value ∷ [])
    ls u.mid.bytes v.mid.bytes more upper behind)))
  where
    interval : List ℤ → List ℤ → List ℤ → Interval
    interval unit lower upper =
        record { unit = first_number unit; lower = first_number lower; upper = first_number upper }

-- ---- the lines between the horizon and the policy

abbrev pub lines_of_head : Head → List Line
lines_of_head head =
    record { form = look_form; numbers = pos head.look ∷ [] }
    ∷ fixed_line (mode_form head.is_exact)
    ∷ signed_line (codes "unit") head.interval.unit
    ∷ signed_line (codes "lower") head.interval.lower
    ∷ signed_line (codes "upper") head.interval.upper
    ∷ record { form = inner_form; numbers = pos head.inner ∷ [] }
    ∷ fixed_line (fixed (codes "policy") ∷ [])
    ∷ []

pub record IsHead (head : Head) (bytes more : List ℕ) : Type 0 where
  pub look_least : 1 ≤ head.look
  pub look_most : head.look ≤ 16
  pub lines : AreLines (lines_of_head head) bytes more

mode_is : (k : ℕ) (bytes more : List ℕ)
    → EitherLine (codes "mode" ∷ codes "exact" ∷ []) (codes "mode" ∷ codes "outward" ∷ []) k bytes more
    → IsLine (mode_form (k == 0)) bytes [] more
mode_is k bytes more (inl first) =
    subst (λ (n : ℕ). IsLine (mode_form (n == 0)) bytes [] more) (sym first.0) first.1
mode_is k bytes more (inr second) =
    subst (λ (n : ℕ). IsLine (mode_form (n == 0)) bytes [] more) (sym second.0) second.1

pub head_read : (line : ℕ) (bytes : List ℕ) (rest : Rest Head) → front_of head_grammar line bytes ≡ Ok rest
    → IsHead rest.value bytes rest.bytes
head_read line bytes rest e =
    let s = split (the_numbers look_form) behind_look line bytes rest e in
    let look = plain_read (codes "look") 1 16 line bytes s.mid (assumption, tt) s.front in
    let t = split (one_of (mode_form true) (mode_form false)) (behind_mode s.mid.value)
    s.mid.line s.mid.bytes rest
    s.behind in
    let mode = mode_is t.mid.value s.mid.bytes t.mid.bytes
    (either_read (codes "mode" ∷ codes "exact" ∷ []) (codes "mode" ∷ codes "outward" ∷ [])
    s.mid.line s.mid.bytes t.mid
    ((assumption, (assumption, tt)), ((assumption, (assumption, tt)), tt)) t.front) in
    let u = split interval_grammar (behind_interval s.mid.value t.mid.value)
    t.mid.line t.mid.bytes rest t.behind in
    let v = split (the_numbers inner_form) (behind_inner s.mid.value t.mid.value u.mid.value)
    u.mid.line u.mid.bytes rest
    u.behind in
    let inner = plain_read (codes "inner") 0 _ u.mid.line u.mid.bytes v.mid (assumption, tt) v.front in
    let w = split (the_words (codes "policy" ∷ [])) (behind_title s.mid.value t.mid.value u.mid.value
    v.mid.value)
    v.mid.line v.mid.bytes rest v.behind in
    let title = words_read (codes "policy" ∷ []) v.mid.line v.mid.bytes w.mid (assumption, tt) w.front in
    let head : Head = record {
      look = first_plain s.mid.value;
      is_exact = t.mid.value == 0;
      interval = u.mid.value;
      inner = first_plain v.mid.value;
    } in
    let one : Rest Head = rest_at head w.mid.line w.mid.bytes in
    let last = line_then inner_form (pos head.inner ∷ []) (fixed_line (fixed (codes "policy") ∷ []) ∷ [])
    u.mid.bytes
    v.mid.bytes w.mid.bytes inner.line
    (line_then (fixed (codes "policy") ∷ []) [] [] v.mid.bytes w.mid.bytes w.mid.bytes title
    (no_lines w.mid.bytes)) in
    let middle = interval_read t.mid.line t.mid.bytes u.mid u.front _ w.mid.bytes last in
    subst (λ (r : Rest Head). IsHead r.value bytes r.bytes) (same_rest one rest w.behind)
    (record {
      look_least = look.least;
      look_most = look.most;
      lines = line_then look_form (pos head.look ∷ []) _ bytes s.mid.bytes w.mid.bytes look.line
          (line_then (mode_form head.is_exact) [] _ s.mid.bytes t.mid.bytes w.mid.bytes mode middle);
    })
