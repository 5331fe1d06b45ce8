-- Pieces: how many a text can have, and where they stand in a list.
use Rattle.std.proofs.Common.{ℕ, suc, ◌+◌, ◌≤◌, ◌^◌, List, [], ◌∷◌, length, arith}
use Rattle.std.specs.Prelude.{All, AllPairs}
use Rattle.dp_lexer.specs.declared.Token.{Token}
use Rattle.dp_lexer.specs.TokenLaws.{AreTokensOf}
use Rattle.dp_items.specs.Tokens.{IsPieceOf, ArePiecesOf}

-- tokens that stand one behind the other from an offset on fit into the text
fit : (bytes : List ℕ) (low : ℕ) (tokens : List Token) → low ≤ length bytes
    → All (IsPieceOf bytes) tokens → AllPairs (λ a b. a.end ≤ b.start) tokens → All (λ t. low ≤ t.start) tokens
    → low + length tokens ≤ length bytes
fit bytes low [] h each in_order above = omega arith
fit bytes low (t ∷ ts) h each in_order above =
    let here = each 0 t (omega arith) in
    let begins = above 0 t (omega arith) in
    let some = here.some in
    let rest = fit bytes t.end ts here.within
    (λ k d l. each (suc k) d (omega arith))
    (λ i j d i_j l. in_order (suc i) (suc j) d (omega arith) (omega arith))
    (λ k d l. in_order 0 (suc k) d (omega arith) (omega arith)) in
    omega arith

-- a text has no more pieces than bytes
pub no_more_than_bytes : {bytes : List ℕ} {tokens : List Token} → ArePiecesOf bytes tokens
    → length tokens ≤ length bytes
no_more_than_bytes {bytes} {tokens} are =
    let fits = fit bytes 0 tokens (omega arith) are.each are.in_order (λ k d l. omega arith) in omega arith

-- the tokens of a text of at most 2^26 bytes are pieces of it
pub pieces_of_tokens : (bytes : List ℕ) (tokens : List Token) → length bytes ≤ 2 ^ 26 → AreTokensOf bytes tokens
    → ArePiecesOf bytes tokens
pieces_of_tokens bytes tokens h are = record {
  each = λ k d l. let t = are.each k d l in record { some = t.some; within = t.within; kind = t.kind };
  in_order = are.in_order;
  limit = h;
}
