-- Words and names.
use Rattle.std.specs.Prelude.{ℕ, Bool, not, ◌&&◌, ◌||◌, nat_lt, List, length, codes}
use Rattle.std.specs.List.{list_all}
use Rattle.std.specs.Str.{bytes_eq}
use Rattle.dp_base.specs.Bytes.{is_name_byte}
use Rattle.dp_base.specs.DecimalShape.{is_decimal}

-- A word is a nonempty text of the bytes of names and numbers that is no decimal number.
unfoldable pub is_word : List ℕ → Bool
is_word text = (nat_lt 0 (length text) && list_all is_name_byte text) && not (is_decimal text)

-- A name of an agent, a state, an action or an observation is a word other than `uniform` and `identity`.
unfoldable pub is_name : List ℕ → Bool
is_name text = is_word text && not (bytes_eq text (codes "uniform") || bytes_eq text (codes "identity"))
