-- One list for each agent, read line by line.
use Rattle.std.proofs.Common.{◌≡◌, ℕ, suc, ◌+◌, ◌-◌, ◌<◌, ◌≤◌, List, [], ◌∷◌, ◌++◌, drop, Some, None, Result, Ok, Err}
use Rattle.std.proofs.Common.{refl, ap, ◌∙◌, sym, subst, arith}
use Rattle.std.specs.Prelude.{slice_get}
use Rattle.dp_items.proofs.Places.{drop_at, drop_none}
use Rattle.dp_meaning.specs.declared.given_list.GivenList.{GivenList}
use Rattle.dp_meaning.specs.declared.why.Fault.{Fault}
use Rattle.dp_meaning.specs.declared.why.Why.TheVariants.{Expected}
use Rattle.dp_meaning.specs.Faults.{◌>>=◌, fault}
use Rattle.dp_meaning.specs.Items.{Piece}
use Rattle.dp_meaning.specs.NameLists.{name_list, name_lists}
use Rattle.dp_meaning.specs.Numbers.{ended}
use Rattle.dp_text.specs.Reading.{Reads}
use Rattle.dp_text.specs.declared.fault.TextFault.{TextFault}
use Rattle.dp_text.specs.declared.fault.TextFault.TheVariants.{At, Memory}
use Rattle.dp_text.proofs.Continuing.{Continues, behind, continues_one, continues_none}
use Rattle.dp_text.proofs.NumberLemmas.{ends, ended_ok, ended_fault}

module _ (next : ℕ) where
  -- what stands for the agents from the i-th on
  abbrev pub from_agent : ℕ → ℕ → List (List Piece) → Result (List GivenList) Fault
  from_agent agents i lines = name_lists next (agents - i) (drop i lines)

  first_line : (n : ℕ) (line : List Piece) (lines : List (List Piece))
      → name_lists next (suc n) (line ∷ lines)
      ≡ (name_list next line >>= λ first. name_lists next n lines >>= λ others. Ok
      (first ∷ others))
  unfolding name_lists
  first_line n line lines = refl

  wrong_behind : (lists : List GivenList) (meant : Result GivenList Fault)
      (more : GivenList → Result (List GivenList) Fault) (wrong : TextFault)
      → Reads meant (Err wrong) → Reads (behind lists (meant >>= more)) (Err wrong)
  wrong_behind lists meant more (At e) h = rw h refl
  wrong_behind lists meant more Memory h = tt

  missing : (n : ℕ) → name_lists next (suc n) [] ≡ fault Expected next
  unfolding name_lists
  missing n = refl

  all_lines : name_lists next 0 [] ≡ Ok []
  unfolding name_lists
  all_lines = refl

  too_many : (line : List Piece) (lines : List (List Piece)) → name_lists next 0 (line ∷ lines) ≡ ended [] line
  unfolding name_lists
  too_many line lines = refl

  module _ (all : Result (List GivenList) Fault) (lists : List GivenList) (agents i : ℕ)
      (lines : List (List Piece)) where
    abbrev GoesOn : Type 0
    GoesOn = Continues all lists (from_agent agents i lines)

    left : i < agents → agents - i ≡ suc (agents - (i + 1))
    left h = omega arith

    none_left : agents ≤ i → agents - i ≡ 0
    none_left h = omega arith

    -- the line of agent i, and those of the agents behind it
    at_agent : (line : List Piece) → i < agents → Some line ≡ slice_get lines i
        → from_agent agents i lines
        ≡ (name_list next line >>= λ first. from_agent agents (i + 1) lines >>= λ others. Ok (first ∷ others))
    at_agent line some is = rw (left some, drop_at lines i line (sym is), first_line) refl

    pub line_one : (line : List Piece) (list : GivenList) → i < agents → Some line ≡ slice_get lines i
        → name_list next line ≡ Ok list → GoesOn
        → Continues all (lists ++ list ∷ []) (from_agent agents (i + 1) lines)
    line_one line list some is read h =
        continues_one all lists list (from_agent agents (i + 1) lines)
        (subst (Continues all lists) (at_agent line some is ∙ ap (λ (x : Result GivenList Fault). x >>= λ first.
        from_agent agents (i + 1) lines >>= λ others. Ok (first ∷ others)) read) h)

    pub line_wrong : (line : List Piece) (wrong : TextFault) → i < agents → Some line ≡ slice_get lines i
        → Reads (name_list next line) (Err wrong) → GoesOn → Reads all (Err wrong)
    line_wrong line wrong some is read h =
        subst (λ (x : Result (List GivenList) Fault). Reads x (Err wrong))
        (sym (h.is ∙ ap (behind lists) (at_agent line some is)))
        (wrong_behind lists (name_list next line) (λ first. from_agent agents (i + 1) lines >>= λ others.
        Ok (first ∷ others)) wrong read)

    pub line_missing : i < agents → None ≡ slice_get lines i → GoesOn → all ≡ fault Expected next
    line_missing some is h =
        let steps : from_agent agents i lines ≡ fault Expected next =
        rw (left some, drop_none lines i (sym is)) (missing (agents - (i + 1))) in
        h.is ∙ ap (behind lists) steps

    pub lines_end : agents ≤ i → None ≡ slice_get lines i → GoesOn → all ≡ Ok lists
    lines_end none is h =
        let steps : from_agent agents i lines ≡ Ok [] =
        rw (none_left none, drop_none lines i (sym is)) all_lines in
        continues_none all lists (subst (Continues all lists) steps h)

    one_beyond : (line : List Piece) → agents ≤ i → Some line ≡ slice_get lines i
        → from_agent agents i lines ≡ ended [] line
    one_beyond line none is = rw (none_left none, drop_at lines i line (sym is)) (too_many line (drop (i + 1) lines))

    pub empty_line : (line : List Piece) → agents ≤ i → Some line ≡ slice_get lines i → ends line ≡ Ok tt → GoesOn
        → all ≡ Ok lists
    empty_line line none is at_end h =
        continues_none all lists (subst (Continues all lists)
        (one_beyond line none is ∙ ended_ok {A = List GivenList} [] line at_end) h)

    pub line_beyond : (line : List Piece) (e : Fault) → agents ≤ i → Some line ≡ slice_get lines i
        → ends line ≡ Err e → GoesOn → all ≡ Err e
    line_beyond line e none is goes_on h =
        h.is ∙ ap (behind lists)
        (one_beyond line none is ∙ ended_fault {A = List GivenList} [] line e goes_on)
