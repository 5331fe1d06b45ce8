-- Lemmas about the lines of texts.
use Rattle.std.specs.Prelude.{◌≡◌, ℕ, ◌-◌, ◌^◌, ℤ, pos, true, List, [], ◌∷◌, ◌++◌, codes, map, length, replicate}
use Rattle.std.proofs.Common.{subst, refl, sym, ap, ◌∙◌, append_assoc, arith}
use Rattle.std.proofs.Math.Nat.{pow-zero}
use Rattle.std.proofs.lemmas.Fmt.{decimal_digit}
use Rattle.std.proofs.lemmas.List.FromFn.{length-map-range_with_len}
use Rattle.std.specs.List.{join_with_byte}
use Rattle.std.specs.Fmt.{decimal, signed_decimal}
use Rattle.dp_spec.specs.PolicyTree.{PolicyTree, root_action}
use Rattle.dp_spec.specs.SharedPolicy.{AgentRows}
use Rattle.dp_spec.specs.Keeping.{tree_at}
use Rattle.dp_spec.specs.BoundTree.{leaf}
use Rattle.dp_spec.specs.TextLines.{plain, Line, spelled_items, line_text, text_of_lines}
use Rattle.dp_spec.specs.PolicyText.{row_form, row_actions, row_line}
use Rattle.dp_spec.specs.CertificateText.{certificate_rows, certificate_text}

-- the text of lines and further lines is their texts, one after the other
pub text_of_lines-append : (lines more : List Line)
    → text_of_lines (lines ++ more) ≡ text_of_lines lines ++ text_of_lines more
text_of_lines-append [] more = refl
text_of_lines-append (line ∷ lines) more =
    ap (λ (rest : List ℕ). line_text line.form line.numbers ++ 10 ∷ rest) (text_of_lines-append lines more)
    ∙ sym (append_assoc (line_text line.form line.numbers) (10 ∷ text_of_lines lines) (text_of_lines more))

-- so many plain numbers are spelled one by one
pub spelled_items-replicate : (low high : ℕ) (ns : List ℕ)
    → spelled_items (replicate (length ns) (plain low high)) (map pos ns) ≡ map decimal ns
spelled_items-replicate low high [] = refl
spelled_items-replicate low high (n ∷ ns) = ap (λ (items : List (List ℕ)). decimal n ∷ items)
    (spelled_items-replicate low high ns)

-- the first stage has one action
pub row_line-zero : (b n : ℕ) (q : PolicyTree)
    → row_line b n q 0 ≡ record { form = plain 0 (b - 1) ∷ []; numbers = pos (root_action q) ∷ [] }
row_line-zero b n q = rw (pow-zero n) refl

-- a row is the actions with one space between each two
pub line_text-row : (b n t : ℕ) (q : PolicyTree)
    → line_text (row_form b n t) (map pos (row_actions n q t)) ≡ join_with_byte 32 (map decimal (row_actions n q t))
line_text-row b n t q =
    subst (λ (k : ℕ). line_text (replicate k (plain 0 (b - 1))) (map pos (row_actions n q t))
    ≡ join_with_byte 32 (map decimal (row_actions n q t)))
    (length-map-range_with_len (λ x. root_action (tree_at n q t x)) 0 (n ^ t))
    (ap (join_with_byte 32) (spelled_items-replicate 0 (b - 1) (row_actions n q t)))

-- the rows of an agent that does one action over one step
abbrev pub one_row : ℕ → AgentRows
one_row a = (record { action = a; next = [] } ∷ []) ∷ []

-- whatever its numbers are, a certificate of version 1, of one step and one agent with one leaf is these lines
pub one_leaf : (b n look inner action : ℕ) (unit lower upper bound : ℤ)
    → certificate_text (b ∷ []) (n ∷ []) (record {
      version = 1;
      horizon = 1;
      look = look;
      is_exact = true;
      unit =
          unit;
      lower = lower;
      upper = upper;
      inner = inner;
      policy = one_row action ∷ [];
      tree = leaf bound;
    })
    ≡ codes "decplan certificate 1\nhorizon 1\nlook "
    ++ (decimal look
    ++ (codes "\nmode exact\nunit "
    ++ (signed_decimal unit
    ++ (codes "\nlower "
    ++ (signed_decimal lower
    ++ (codes "\nupper "
    ++ (signed_decimal upper
    ++ (codes "\ninner " ++ (decimal inner ++ (codes "\npolicy\nagent 0\n"
    ++ (decimal action ++ (codes "\ntree\nL " ++ (signed_decimal bound ++ codes "\nend\n")))))))))))))
unfolding certificate_text certificate_rows
one_leaf b n look inner action unit lower upper bound =
    rw (pow-zero n, decimal_digit 0 (omega arith), decimal_digit 1 (omega arith)) refl
