-- What begins at a byte, by what the byte is.
use Rattle.std.proofs.Common.{◌≡◌, ℕ, Bool, true, false, refl, sym, subst, ◌∙◌, inl, inr}
use Rattle.std.specs.Prelude.{◌==◌}
use Rattle.std.proofs.lemmas.Bool.{cases_Bool, eqb-true}
use Rattle.dp_base.specs.Bytes.{is_name_byte}
use Rattle.dp_lexer.specs.declared.lexemes.Class.TheVariants.{Blank, Run, Bad}
use Rattle.dp_lexer.specs.Bytes.{space, tab, carriage_return, line_feed, hash, colon, star, is_blank, is_in_alphabet}
use Rattle.dp_lexer.specs.Tokens.{class_of}

-- a byte that passes a test which another fails is not that other
pub differs : (test : ℕ → Bool) (other b : ℕ) → test other ≡ false → test b ≡ true → (b == other) ≡ false
differs test other b fails passes = elim (cases_Bool (b == other)) [
  | inl same ↦ absurd (let never : test other ≡ true = subst (λ x. test x ≡ true) (eqb-true b other same) passes in
      let clash : true ≡ false = sym never ∙ fails in cc)
  | inr differ ↦ differ
]

-- The seven kinds of bytes, each with what the tests of a byte say of it.
pub data Byte (b : ℕ) : Type 0 where
  run : class_of b ≡ Run → is_name_byte b ≡ true → Byte b
  blank : class_of b ≡ Blank → is_blank b ≡ true → Byte b
  line_end : b ≡ line_feed → Byte b
  comment : b ≡ hash → Byte b
  colon_mark : b ≡ colon → Byte b
  star_mark : b ≡ star → Byte b
  unknown : class_of b ≡ Bad → is_in_alphabet b ≡ false → Byte b

-- each byte is of one of these kinds
pub byte_of : (b : ℕ) → Byte b
byte_of b = elim (cases_Bool (is_name_byte b)) [
  | inl named ↦ run (rw named refl) named
  | inr not_named ↦ elim (cases_Bool (is_blank b)) [
    | inl is ↦ blank (rw (not_named, is) refl) is
    | inr not_blank ↦ elim (cases_Bool (b == line_feed)) [
      | inl is ↦ line_end (eqb-true b line_feed is)
      | inr not_line_feed ↦ elim (cases_Bool (b == hash)) [
        | inl is ↦ comment (eqb-true b hash is)
        | inr not_hash ↦ elim (cases_Bool (b == colon)) [
          | inl is ↦ colon_mark (eqb-true b colon is)
          | inr not_colon ↦ elim (cases_Bool (b == star)) [
            | inl is ↦ star_mark (eqb-true b star is)
            | inr not_star ↦ unknown (rw (not_named, not_blank, not_line_feed, not_hash, not_colon, not_star) refl)
                (rw (not_named, not_blank, not_line_feed, not_hash, not_colon, not_star) refl)
          ]
        ]
      ]
    ]
  ]
]

-- a byte of names and numbers is no blank
pub name_not_blank : (b : ℕ) → is_name_byte b ≡ true → is_blank b ≡ false
name_not_blank b named = rw (
  differs is_name_byte space b refl named,
  differs is_name_byte tab b refl named,
  differs is_name_byte carriage_return b refl named,
) refl
