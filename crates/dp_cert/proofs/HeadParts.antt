-- What follows each line before the policy.
use Rattle.std.proofs.Common.{ℕ, ◌≡◌, Bool, true, false, cond, List, [], ◌∷◌, Ok, refl}
use Rattle.std.specs.Prelude.{ℤ, pos, ◌==◌, codes}
use Rattle.dp_spec.specs.CertificateText.{mode_form, inner_form}
use Rattle.dp_lines.specs.Grammar.{ends, ◌>>=◌}
use Rattle.dp_lines.specs.Scanning.{front_of}
use Rattle.dp_cert.specs.CertificateGrammar.{Head, Interval, interval_grammar}
use Rattle.dp_lines.specs.Reading.{rest_at}
use Rattle.dp_cert.specs.PolicyGrammar.{Text}
use Rattle.dp_lines.specs.Steps.{the_words, the_numbers, one_of, first_plain}

abbrev pub behind_title : List ℤ → ℕ → Interval → List ℤ → Unit {0} → Text Head
behind_title look mode interval inner title =
    ends (record {
      look = first_plain look;
      is_exact = mode == 0;
      interval = interval;
      inner = first_plain inner;
    })

abbrev pub behind_inner : List ℤ → ℕ → Interval → List ℤ → Text Head
behind_inner look mode interval inner = the_words (codes "policy" ∷ [])
    >>= behind_title look mode interval inner

abbrev pub behind_interval : List ℤ → ℕ → Interval → Text Head
behind_interval look mode interval = the_numbers inner_form >>= behind_inner look mode interval

abbrev pub behind_mode : List ℤ → ℕ → Text Head
behind_mode look mode = interval_grammar >>= behind_interval look mode

abbrev pub behind_look : List ℤ → Text Head
behind_look look = one_of (mode_form true) (mode_form false) >>= behind_mode look

-- whether the mode is exact, from the number of the form
told_mode : (e : Bool) → (cond e 0 1 == 0) ≡ e
told_mode true = refl
told_mode false = refl

pub head_end : (look inner : ℕ) (exact : Bool) (interval : Interval) (line : ℕ) (rest : List ℕ)
    → front_of (behind_title (pos look ∷ []) (cond exact 0 1) interval (pos inner ∷ []) tt) line rest
    ≡ Ok (rest_at (record { look = look; is_exact = exact; interval = interval; inner = inner }) line rest)
head_end look inner exact interval line rest = rw (told_mode exact) refl
