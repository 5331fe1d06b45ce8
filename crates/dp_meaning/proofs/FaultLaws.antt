-- Bad bytes, before anything else.
use Rattle.std.proofs.Common.{◌≡◌, ℕ, List, ap, ◌∙◌}
use Rattle.std.specs.Prelude.{Some, Result, Ok, Err}
use Rattle.std.specs.Result.{result_err}
use Rattle.dp_lexer.specs.declared.Token.{Token}
use Rattle.dp_lexer.specs.Comments.{first_bad}
use Rattle.dp_lexer.specs.Tokens.{tokens_of}
use Rattle.dp_lexer.proofs.WholeText.{first_bad_byte_is_named}
use Rattle.dp_meaning.specs.declared.why.Why.TheVariants.{BadByte}
use Rattle.dp_meaning.specs.Meaning.{text_of, FaultAt, place_at, meaning}

error_is : (t : Result (List Token) ℕ) (at : ℕ) → result_err t ≡ Some at → t ≡ Err at
error_is (Ok tokens) at e = cc
error_is (Err bad) at e = ap Err (same e)
  where
    same : Some bad ≡ Some at → bad ≡ at
    same e = cc

pub bad_byte_first : (bytes : List ℕ) (at : ℕ) → first_bad bytes ≡ Some at
    → meaning bytes ≡ FaultAt (place_at bytes at) BadByte
unfolding meaning text_of
bad_byte_first bytes at e =
    let tokens : tokens_of bytes ≡ Err at = error_is (tokens_of bytes) at (first_bad_byte_is_named bytes ∙ e) in
    rw tokens
