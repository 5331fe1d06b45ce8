use Rattle.std.proofs.Common.{refl, sym, ap, ◌∙◌}
use Rattle.std.specs.Result.{result_err}
use Rattle.dp_lexer.proofs.Loop.{IsLexeme, starts, keeps_token, keeps_none, next_line_feed, next_line_other, is_bad}
use Rattle.dp_lexer.proofs.Loop.{is_done}
use Rattle.dp_lexer.proofs.WholeText.{first_bad_byte_is_named, tokens_are_of_text}
use Rattle.dp_lexer.proofs.lex.Goals as goal
use Rattle.dp_lexer.proofs.lex.Goals.{After-kind_of, in-Some+in_ok-push, in_default-kind_of}

pub loop-at-init : goal.loop-at-init
loop-at-init c = rw c.new-tokens.ensures.items (starts c.args.bytes.now)

pub returns-in-Bad-clause-first_bad_byte : goal.returns-in-Bad-clause-first_bad_byte
returns-in-Bad-clause-first_bad_byte c =
    let bad = is_bad c.loop-at.invariant c.loop-at-test.true (sym c.class_of-class.ensures ∙ c.in-Bad.is) in (
      c.loop-at.at,
      bad,
      sym (first_bad_byte_is_named c.args.bytes.now) ∙ ap result_err bad,
      c.loop-at.invariant.line_is,
      c.column_at-column.ensures,
    )

-- what an iteration learns
lexeme : (c : After-kind_of)
    → IsLexeme c.args.bytes.now c.loop-at.at c.more_of.result c.class_of-class.result c.kind_of.result
lexeme c = record {
  inside = c.loop-at-test.true;
  class_is = c.class_of-class.ensures;
  good = c.in_default.not-Bad;
  more_is = c.more_of.ensures.is;
  kind_is = c.kind_of.ensures;
}

pub loop-at-preserved-in-LineFeed : goal.loop-at-preserved-in-LineFeed
loop-at-preserved-in-LineFeed c =
    let found = lexeme (goal.at.loop-at-preserved-in-LineFeed c).After-kind_of in
    let line_is = next_line_feed c.loop-at.invariant _ _ _ found c.in-LineFeed.is in
    elim c.match-kind_of.branch [
      | in-Some+in_ok-push w ↦ rw (w.tokens-is, w.in_ok-push.ensures.items)
          (keeps_token c.loop-at.invariant _ _ w.in-Some.kind _ _ (rw w.in-Some.is at found) refl line_is)
      | in_default-kind_of w ↦ rw w.tokens-is (keeps_none c.loop-at.invariant _ _ _
          (rw w.in_default-kind_of.is at found) line_is)
    ]

pub loop-at-preserved : goal.loop-at-preserved
loop-at-preserved c =
    let found = lexeme (goal.at.loop-at-preserved c).After-kind_of in
    let line_is = next_line_other c.loop-at.invariant _ _ _ found c.in_default-class.not-LineFeed in
    elim c.match-kind_of.branch [
      | in-Some+in_ok-push w ↦ rw (w.tokens-is, w.in_ok-push.ensures.items)
          (keeps_token c.loop-at.invariant _ _ w.in-Some.kind _ _ (rw w.in-Some.is at found) refl line_is)
      | in_default-kind_of w ↦ rw w.tokens-is (keeps_none c.loop-at.invariant _ _ _
          (rw w.in_default-kind_of.is at found) line_is)
    ]

pub returns-clause-tokens : goal.returns-clause-tokens
returns-clause-tokens c = is_done c.loop-at.invariant c.loop-at-test.false

pub returns-clause-described : goal.returns-clause-described
returns-clause-described c = (tokens_are_of_text c.args.bytes.now c.loop-at.tokens.items).0
    (is_done c.loop-at.invariant c.loop-at-test.false)
