-- Words and lines, one more at the end.
use Rattle.std.proofs.Common.{◌≡◌, ℕ, zero, suc, ◌+◌, ◌<◌, Bool, true, false, List, [], ◌∷◌, ◌++◌, length, get_or}
use Rattle.std.proofs.Common.{map}
use Rattle.std.proofs.Common.{take, refl, sym, ap, ◌∙◌, append_assoc, arith, zero-add}
use Rattle.std.specs.List.{flat_map, range_with_len}
use Rattle.std.proofs.lemmas.List.{append-nil, map-append, take_more}
use Rattle.std.proofs.lemmas.Grind.{flat_map-append}
use Rattle.dp_writer.specs.LimitedTexts.{LimitedTextView, added}
use Rattle.dp_writer.specs.ModelRows.{each_below}
use Rattle.dp_writer.specs.WrittenLines.{Words, line_text, lines_text, space_before, words_text}
use Rattle.dp_writer.proofs.Appending.{behind, spelled}
use Rattle.dp_writer.proofs.RowCells.{each_more, length_each}

-- ---- words

-- words behind words
pub words_behind : (words more : Words)
    → words_text false (words ++ more) ≡ words_text false words ++ words_text false more
words_behind [] more = refl
words_behind (word ∷ words) more = ap (λ l. 32 ∷ (word ++ l)) (words_behind words more)
    ∙ ap (λ l. 32 ∷ l) (sym (append_assoc word (words_text false words) (words_text false more)))

-- words behind a first word
pub words_of_line : (word : List ℕ) (words more : Words)
    → words_text true (word ∷ (words ++ more)) ≡ word ++ (words_text false words ++ words_text false more)
words_of_line word words more = ap (λ l. word ++ l) (words_behind words more)

-- one word more
word_more : (first : Bool) (words : Words) (word : List ℕ)
    → words_text first (words ++ word ∷ []) ≡ words_text first words ++ (space_before first (length words) ++ word)
word_more true [] word = append-nil word
word_more true (w ∷ words) word =
    ap (λ l. w ++ l) (words_behind words (word ∷ []))
    ∙ ap (λ l. w ++ (words_text false words ++ 32 ∷ l)) (append-nil word)
    ∙ sym (append_assoc w (words_text false words) (32 ∷ word))
word_more false words word =
    words_behind words (word ∷ []) ∙ ap (λ l. words_text false words ++ 32 ∷ l) (append-nil word)

length-map_take : {A : Type 0} (w : A → List ℕ) (xs : List A) (i : ℕ) → i < length xs
    → length (map w (take i xs)) ≡ i
length-map_take w [] i lt = absurd (omega (arith, lt))
length-map_take w (x ∷ xs) zero lt = refl
length-map_take w (x ∷ xs) (suc i) lt = omega (arith, length-map_take w xs i (omega (arith, lt)))

-- the words of the items of a list up to a place, and of the item there
pub item_word : {A : Type 0} (first : Bool) (w : A → List ℕ) (xs : List A) (i : ℕ) (d : A) → i < length xs
    → words_text first (map w (take (i + 1) xs))
    ≡ words_text first (map w (take i xs)) ++ (space_before first i ++ w (get_or xs i d))
item_word first w xs i d lt =
    ap (λ l. words_text first (map w l)) (take_more xs i d lt)
    ∙ ap (words_text first) (map-append w (take i xs) (get_or xs i d ∷ []))
    ∙ word_more first (map w (take i xs)) (w (get_or xs i d))
    ∙ ap (λ n. words_text first (map w (take i xs)) ++ (space_before first n ++ w (get_or xs i d)))
    (length-map_take w xs i lt)

length-map_each : {A : Type 0} (w : A → List ℕ) (f : ℕ → A) (n : ℕ) → length (map w (each_below f n)) ≡ n
length-map_each w f n = length-mapped w (each_below f n) ∙ length_each f n
  where
    length-mapped : {A : Type 0} (w : A → List ℕ) (xs : List A) → length (map w xs) ≡ length xs
    length-mapped w [] = refl
    length-mapped w (x ∷ xs) = omega (arith, length-mapped w xs)

-- the words of what stands at each number below i, and at i
pub each_word : {A : Type 0} (first : Bool) (w : A → List ℕ) (f : ℕ → A) (i : ℕ)
    → words_text first (map w (each_below f (i + 1)))
    ≡ words_text first (map w (each_below f i)) ++ (space_before first i ++ w (f i))
each_word first w f i =
    ap (λ l. words_text first (map w l)) (each_more f i)
    ∙ ap (words_text first) (map-append w (each_below f i) (f i ∷ []))
    ∙ word_more first (map w (each_below f i)) (w (f i))
    ∙ ap (λ n. words_text first (map w (each_below f i)) ++ (space_before first n ++ w (f i))) (length-map_each w f i)

-- a space and a word are appended
spaced : (first : Bool) (i : ℕ) (x t0 t1 t2 : LimitedTextView) (so_far word : List ℕ) → t0 ≡ added x so_far
    → t1 ≡ added t0 (space_before first i) → t2 ≡ added t1 word
    → t2 ≡ added x (so_far ++ (space_before first i ++ word))
spaced first i x t0 t1 t2 so_far word e f g =
    behind x t0 t2 so_far (space_before first i ++ word) e (behind t0 t1 t2 (space_before first i) word f g)

-- one more item of a list is written
pub item_written : {A : Type 0} (first : Bool) (w : A → List ℕ) (xs : List A) (i : ℕ) (d item : A)
    (x t0 t1 t2 : LimitedTextView) → i < length xs → item ≡ get_or xs i d
    → t0 ≡ added x (words_text first (map w (take i xs)))
    → t1 ≡ added t0 (space_before first i)
    → t2 ≡ added t1 (w item)
    → t2 ≡ added x (words_text first (map w (take (i + 1) xs)))
item_written first w xs i d item x t0 t1 t2 lt is e f g =
    spelled x t2 _ _ (sym (item_word first w xs i d lt))
    (spaced first i x t0 t1 t2 (words_text first (map w (take i xs))) (w (get_or xs i d)) e f
    (spelled t1 t2 (w item) (w (get_or xs i d)) (ap w is) g))

-- one more of what stands at each number is written
pub each_written : {A : Type 0} (first : Bool) (w : A → List ℕ) (f : ℕ → A) (i : ℕ) (item : A)
    (x t0 t1 t2 : LimitedTextView) → item ≡ f i
    → t0 ≡ added x (words_text first (map w (each_below f i)))
    → t1 ≡ added t0 (space_before first i)
    → t2 ≡ added t1 (w item)
    → t2 ≡ added x (words_text first (map w (each_below f (i + 1))))
each_written first w f i item x t0 t1 t2 is e s g =
    spelled x t2 _ _ (sym (each_word first w f i))
    (spaced first i x t0 t1 t2 (words_text first (map w (each_below f i))) (w (f i)) e s
    (spelled t1 t2 (w item) (w (f i)) (ap w is) g))

-- ---- lines

range_more : (a n : ℕ) → range_with_len a (n + 1) ≡ range_with_len a n ++ (a + n) ∷ []
range_more a zero = let none : a ≡ a + 0 = omega arith in ap (λ n. n ∷ []) none
range_more a (suc n) =
    let more : suc n + 1 ≡ suc (n + 1) = omega arith in
    let end : a + 1 + n ≡ a + suc n = omega arith in
    ap (range_with_len a) more
    ∙ ap (λ l. a ∷ l) (range_more (a + 1) n ∙ ap (λ k. range_with_len (a + 1) n ++ k ∷ []) end)

-- what stands for the numbers up to n, and for n
pub below_more : {A : Type 0} (f : ℕ → List A) (n : ℕ)
    → flat_map f (range_with_len 0 (n + 1)) ≡ flat_map f (range_with_len 0 n) ++ f n
below_more f n =
    ap (flat_map f) (range_more 0 n)
    ∙ flat_map-append f (range_with_len 0 n) ((0 + n) ∷ [])
    ∙ ap (λ l. flat_map f (range_with_len 0 n) ++ l) (append-nil (f (0 + n)) ∙ ap f (zero-add n))

-- the lines for one number more are written
pub lines_written : (f : ℕ → List Words) (n : ℕ) (x t0 t1 : LimitedTextView)
    → t0 ≡ added x (lines_text (flat_map f (range_with_len 0 n))) → t1 ≡ added t0 (lines_text (f n))
    → t1 ≡ added x (lines_text (flat_map f (range_with_len 0 (n + 1))))
lines_written f n x t0 t1 e g =
    spelled x t1 _ _ (sym (ap lines_text (below_more f n)
    ∙ flat_map-append line_text (flat_map f (range_with_len 0 n)) (f n)))
    (behind x t0 t1 (lines_text (flat_map f (range_with_len 0 n))) (lines_text (f n)) e g)

-- one line more is written
pub line_written : (f : ℕ → Words) (n : ℕ) (x t0 t1 t2 : LimitedTextView)
    → t0 ≡ added x (lines_text (each_below f n)) → t1 ≡ added t0 (words_text true (f n)) → t2 ≡ added t1 (10 ∷ [])
    → t2 ≡ added x (lines_text (each_below f (n + 1)))
line_written f n x t0 t1 t2 e g h =
    spelled x t2 _ _ (sym (ap lines_text (each_more f n) ∙ flat_map-append line_text (each_below f n) (f n ∷ [])
    ∙ ap (λ l. lines_text (each_below f n) ++ l) (append-nil (line_text (f n)))))
    (behind x t0 t2 (lines_text (each_below f n)) (line_text (f n)) e
    (behind t0 t1 t2 (words_text true (f n)) (10 ∷ []) g h))

-- words behind a line's
pub line_behind : (word : List ℕ) (words more : Words)
    → words_text true ((word ∷ words) ++ more) ≡ words_text true (word ∷ words) ++ words_text false more
line_behind word words more = ap (λ l. word ++ l) (words_behind words more)
    ∙ sym (append_assoc word (words_text false words) (words_text false more))

-- lines behind lines
pub lines_behind : (x y z : LimitedTextView) (a b : List Words) → y ≡ added x (lines_text a)
    → z ≡ added y (lines_text b) → z ≡ added x (lines_text (a ++ b))
lines_behind x y z a b e f =
    spelled x z _ _ (sym (flat_map-append line_text a b)) (behind x y z (lines_text a) (lines_text b) e f)

-- one line alone
pub alone : (x z : LimitedTextView) (line : Words) → z ≡ added x (line_text line)
    → z ≡ added x (lines_text (line ∷ []))
alone x z line e = spelled x z _ _ (sym (append-nil (line_text line))) e

-- a line by its words and its end
pub line_ended : (x y z : LimitedTextView) (words : Words) → y ≡ added x (words_text true words)
    → z ≡ added y (10 ∷ []) → z ≡ added x (lines_text (words ∷ []))
line_ended x y z words e f = alone x z words (behind x y z (words_text true words) (10 ∷ []) e f)
