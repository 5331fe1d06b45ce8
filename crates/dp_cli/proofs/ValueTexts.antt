-- Texts that are appended one after the other.
use Rattle.std.proofs.Common.{◌≡◌, ℕ, List, [], ◌∷◌, ◌++◌, ap, ◌∙◌, append_assoc}

-- what is appended, and more after it
pub and_then : (before here after first more : List ℕ) → here ≡ before ++ first → after ≡ here ++ more
    → after ≡ before ++ (first ++ more)
and_then before here after first more e f = f ∙ ap (λ l. l ++ more) e ∙ append_assoc before first more

-- the parts of a line
pub end_pushed : (t0 t1 t2 t3 t4 t5 word number fraction : List ℕ) → t1 ≡ t0 ++ word → t2 ≡ t1 ++ number
    → t3 ≡ t2 ++ 32 ∷ [] → t4 ≡ t3 ++ fraction → t5 ≡ t4 ++ 10 ∷ []
    → t5 ≡ t0 ++ (word ++ (number ++ (32 ∷ (fraction ++ 10 ∷ []))))
end_pushed t0 t1 t2 t3 t4 t5 word number fraction e1 e2 e3 e4 e5 =
    and_then t0 t1 t5 word (number ++ (32 ∷ (fraction ++ 10 ∷ []))) e1
    (and_then t1 t2 t5 number (32 ∷ (fraction ++ 10 ∷ [])) e2
    (and_then t2 t3 t5 (32 ∷ []) (fraction ++ 10 ∷ []) e3
    (and_then t3 t4 t5 fraction (10 ∷ []) e4 e5)))

-- the parts of the first lines
pub head_pushed : (t0 t1 t2 t3 t4 t5 t6 t7 a repaired b mode c unit d : List ℕ) → t1 ≡ t0 ++ a
    → t2 ≡ t1 ++ repaired
    → t3 ≡ t2 ++ b → t4 ≡ t3 ++ mode → t5 ≡ t4 ++ c → t6 ≡ t5 ++ unit → t7 ≡ t6 ++ d
    → t7 ≡ t0 ++ (a ++ (repaired ++ (b ++ (mode ++ (c ++ (unit ++ d))))))
head_pushed t0 t1 t2 t3 t4 t5 t6 t7 a repaired b mode c unit d e1 e2 e3 e4 e5 e6 e7 =
    and_then t0 t1 t7 a (repaired ++ (b ++ (mode ++ (c ++ (unit ++ d))))) e1
    (and_then t1 t2 t7 repaired (b ++ (mode ++ (c ++ (unit ++ d)))) e2
    (and_then t2 t3 t7 b (mode ++ (c ++ (unit ++ d))) e3
    (and_then t3 t4 t7 mode (c ++ (unit ++ d)) e4
    (and_then t4 t5 t7 c (unit ++ d) e5
    (and_then t5 t6 t7 unit d e6 e7)))))

-- the lines of a worth
pub worth_pushed : (t0 t1 t2 t3 head low high : List ℕ) → t0 ≡ [] → t1 ≡ t0 ++ head → t2 ≡ t1 ++ low
    → t3 ≡ t2 ++ high
    → t3 ≡ head ++ (low ++ high)
worth_pushed t0 t1 t2 t3 head low high none e1 e2 e3 =
    and_then t0 t1 t3 head (low ++ high) e1 (and_then t1 t2 t3 low high e2 e3)
    ∙ ap (λ l. l ++ (head ++ (low ++ high))) none
