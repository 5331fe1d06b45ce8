use Rattle.std.proofs.Common.{◌≡◌, List, [], ◌∷◌, ◌++◌, ℕ, length, length-append, sym, ap, ◌∙◌, arith}
use Rattle.std.specs.List.{concat}
use Rattle.std.proofs.lemmas.List.{append-nil}
use Rattle.std.proofs.lemmas.List.Folds.{concat-append}
use Rattle.dp_model.specs.declared.limit.Limit.{Limit}
use Rattle.dp_model.specs.Limits.{greatest_allowed}
use Rattle.dp_writer.specs.declared.limited.LimitedText.TheInside.{Inside}
use Rattle.dp_writer.specs.LimitedTexts.{LimitedTextView, added}
use Rattle.dp_writer.proofs.limited.LimitedText.push.Goals as goal
use Rattle.dp_writer.proofs.limited.LimitedText.push.Goals.{then-count-greatest_allowed+in_ok-extend_from_slice}
use Rattle.dp_writer.proofs.limited.LimitedText.push.Goals.{else-count-greatest_allowed}

-- one piece more
more : (pieces all : List (List ℕ)) (bytes : List ℕ) → all ≡ pieces ++ bytes ∷ []
    → concat all ≡ concat pieces ++ bytes
more pieces all bytes e = ap concat e ∙ concat-append pieces (bytes ∷ [])
    ∙ ap (λ l. concat pieces ++ l) (append-nil bytes)

-- the text with it
viewed : (bytes all : List ℕ) (limit now : Limit) (text : LimitedTextView) (old : List ℕ) → all ≡ old ++ bytes
    → now ≡ limit → record { bytes = old; limit = limit } ≡ text
    → record { bytes = all; limit = now } ≡ added text bytes
viewed bytes all limit now text old e f g =
    let both : record { bytes = all; limit = now } ≡ added (record { bytes = old; limit = limit }) bytes
    = λ i. record { bytes = e i; limit = f i } in
    both ∙ ap (λ v. added v bytes) g

pub invariant_of-self-2 : goal.invariant_of-self-2
invariant_of-self-2 c =
    let old = c.self.inside in
    let p = old.pieces.items in
    let bytes = c.args.bytes.now in
    let inv = c.self.invariant in
    let sum = c.in-Some.ensures.1 in
    elim c.if-count-greatest_allowed.branch [
      | then-count-greatest_allowed+in_ok-extend_from_slice w ↦ (
          let is : concat c.take.new.self.items ≡ concat p ++ bytes = more p c.take.new.self.items bytes
          (c.take.ensures ∙ ap (λ (s : Inside). s.pieces.items ++ bytes ∷ []) w.self-inside-is) in (
            omega (arith, sum, inv.0, ap length is, length-append (concat p) bytes),
            λ within. ap (λ (s : Inside). s.kept.items) w.self-inside-is ∙ w.in_ok-extend_from_slice.ensures.items
                ∙ ap (λ l. l ++ bytes) (inv.1 (omega (
                  arith,
                  sum,
                  w.if-count-greatest_allowed.true,
                  c.greatest_allowed.ensures,
                ))) ∙ sym is,
          )
          )
      | else-count-greatest_allowed w ↦ (
          let is : concat c.take.new.self.items ≡ concat p ++ bytes = more p c.take.new.self.items bytes
          (c.take.ensures ∙ ap (λ (s : Inside). s.pieces.items ++ bytes ∷ []) w.self-inside-is) in (
            omega (arith, sum, inv.0, ap length is, length-append (concat p) bytes),
            λ within. absurd (omega (
              arith,
              within,
              w.if-count-greatest_allowed.false,
              c.greatest_allowed.ensures,
              ap (λ (s : Inside). greatest_allowed s.limit) w.self-inside-is,
            )),
          )
          )
    ]

pub returns : goal.returns
returns c =
    let old = c.self.inside in
    let p = old.pieces.items in
    let bytes = c.args.bytes.now in
    let all = c.take.new.self.items in
    let now = c.if-count-greatest_allowed.self-inside.limit in
    elim c.if-count-greatest_allowed.branch [
      | then-count-greatest_allowed+in_ok-extend_from_slice w ↦
          viewed bytes (concat all) old.limit now c.args.self.now (concat p)
          (more p all bytes (c.take.ensures ∙ ap (λ (s : Inside). s.pieces.items ++ bytes ∷ []) w.self-inside-is))
          (ap (λ (s : Inside). s.limit) w.self-inside-is) c.self.view_is
      | else-count-greatest_allowed w ↦
          viewed bytes (concat all) old.limit now c.args.self.now (concat p)
          (more p all bytes (c.take.ensures ∙ ap (λ (s : Inside). s.pieces.items ++ bytes ∷ []) w.self-inside-is))
          (ap (λ (s : Inside). s.limit) w.self-inside-is) c.self.view_is
    ]
