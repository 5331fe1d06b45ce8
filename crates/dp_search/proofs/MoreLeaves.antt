-- The leaves of children, one more.
use Rattle.std.proofs.Common.{◌≡◌, ℕ, suc, ◌+◌, ℤ, List, [], ◌∷◌, ◌++◌, length, map, sym, ap, ◌∙◌, arith}
use Rattle.std.proofs.lemmas.List.{map-append, length-map}
use Rattle.std.specs.Int.{int_min}
use Rattle.dp_spec.specs.Front.{Front}
use Rattle.dp_spec.specs.SearchState.{OpenLeaf}
use Rattle.dp_search.specs.declared.planner.Child.{Child}
use Rattle.dp_search.specs.declared.held_leaf.HeldLeaf.{HeldLeaf}
use Rattle.dp_search.specs.Running.{NextFront, opened}
use Rattle.dp_search.specs.SearchStates.{open_leaf, next_front}

opened_more : (n d : ℕ) (cap : ℤ) (cs : List NextFront) (c : NextFront)
    → opened n d cap (cs ++ c ∷ []) ≡ opened n d cap cs ++ record
    { node = n + length cs; above = d; bound = int_min cap c.bound; front = c.front } ∷ []
opened_more n d cap [] c = let e : n ≡ n + 0 = omega arith in ap
    (λ (k : ℕ). record { node = k; above = d; bound = int_min cap c.bound; front = c.front } ∷ []) e
opened_more n d cap (b ∷ cs) c =
    let here : OpenLeaf = record { node = n; above = d; bound = int_min cap b.bound; front = b.front } in
    let e : suc n + length cs ≡ n + suc (length cs) = omega arith in
    ap (λ (es : List OpenLeaf). here ∷ es) (opened_more (suc n) d cap cs c)
    ∙ ap (λ (k : ℕ). here ∷ (opened (suc n) d cap cs ++ record
    { node = k; above = d; bound = int_min cap c.bound; front = c.front } ∷ [])) e

pub leaves_more : {F : Type 0} (meaning : F → Front) (n d : ℕ) (cap : ℤ) (leaves : List (HeldLeaf F))
    (cs : List (Child F)) (x : HeldLeaf F) (c : Child F)
    → map (open_leaf meaning) leaves ≡ opened n d cap (map (next_front meaning) cs)
    → x.node ≡ n + length cs → x.above ≡ d → x.bound ≡ int_min cap c.bound → x.front ≡ c.front
    → map (open_leaf meaning) (leaves ++ x ∷ []) ≡ opened n d cap (map (next_front meaning) (cs ++ c ∷ []))
leaves_more {F} meaning n d cap leaves cs x c same node depth bound front =
    let many : length (map (next_front meaning) cs) ≡ length cs = length-map cs (next_front meaning) in
    let last : open_leaf meaning x ≡ record {
      node = n + length (map (next_front meaning) cs);
      above = d;
      bound = int_min cap c.bound;
      front = meaning c.front;
    } =
    ap (λ k. record { node = k; above = x.above; bound = x.bound; front = meaning x.front })
    (node ∙ ap (λ z. n + z) (sym many))
    ∙ ap (λ k. record {
      node = n + length (map (next_front meaning) cs);
      above = k;
      bound = x.bound;
      front = meaning x.front;
    }) depth
    ∙ ap (λ k. record {
      node = n + length (map (next_front meaning) cs);
      above = d;
      bound = k;
      front = meaning x.front;
    }) bound
    ∙ ap (λ k. record {
      node = n + length (map (next_front meaning) cs);
      above = d;
      bound = int_min cap c.bound;
      front = meaning k;
    }) front in
    rw (map-append, map-append, opened_more)
    (ap (λ (es : List OpenLeaf). es ++ open_leaf meaning x ∷ []) same
    ∙ ap (λ (e : OpenLeaf). opened n d cap (map (next_front meaning) cs) ++ e ∷ []) last)

-- their fronts, one more
pub fronts_more : {F : Type 0} (leaves : List (HeldLeaf F)) (cs : List (Child F)) (x : HeldLeaf F) (c : Child F)
    → map (λ (o : HeldLeaf F). o.front) leaves ≡ map (λ (b : Child F). b.front) cs → x.front ≡ c.front
    → map (λ (o : HeldLeaf F). o.front) (leaves ++ x ∷ []) ≡ map (λ (b : Child F). b.front) (cs ++ c ∷ [])
fronts_more {F} leaves cs x c same front =
    rw (map-append, map-append)
    (ap (λ (fs : List F). fs ++ x.front ∷ []) same
    ∙ ap (λ (f : F). map (λ (b : Child F). b.front) cs ++ f ∷ []) front)
