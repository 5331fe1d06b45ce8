-- What is kept of the fronts that were made.
use Rattle.std.proofs.Common.{◌≡◌, ℕ, ◌-◌, ◌<◌, Bool, List, length, Option, None, Some, sym, ap, subst, ◌∙◌, arith}
use Rattle.std.proofs.Common.{inl, inr, take, Contains}
use Rattle.std.specs.Prelude.{IfSome, option_map, slice_get}
use Rattle.std.specs.Map.{lookup, remove_entry}
use Rattle.std.specs.declared.rc.Rc.{Rc}
use Rattle.std.specs.declared.alloc.Global.{Global}
use Rattle.std.proofs.lemmas.List.{length-take-le}
use Rattle.std.proofs.lemmas.Option.{slice_get_within}
use Rattle.lru.specs.LruCache.{LruCache, lru_cache, promoted, put_entries}
use Rattle.lru.proofs.CallerLemmas.{Contains-lookup, Contains-promoted, Contains-put_entries}
use Rattle.lru.proofs.CallerLemmas.{Contains-remove_entry, Contains-take}
use Rattle.dp_spec.specs.Front.{Front}
use Rattle.dp_spec.specs.Model.{Model}
use Rattle.dp_cluster.specs.KeptFronts.{KeptFront}
use Rattle.dp_game.specs.Games.{IsGameOf, KeptGame}
use Rattle.dp_search.specs.declared.made_fronts.Entry.{Entry}
use Rattle.dp_search.specs.declared.made_fronts.MadeFront.{MadeFront}
use Rattle.dp_search.specs.declared.made_fronts.MadeFronts.{MadeFronts}
use Rattle.dp_search.specs.FrontPlanners.{IsPlannerFront}
use Rattle.dp_search.specs.MadeFronts.{AreMade, IsEntry, IsMadeFront}

-- all but the last of some entries are fewer
pub fewer : {X : Type 0} (es : List X) (e : X) → slice_get es (length es - 1) ≡ Some e
    → length (take (length es - 1) es) < length es
fewer es e last =
    let lt = slice_get_within es (length es - 1) e last in
    let short = length-take-le (length es - 1) es (omega arith) in
    omega (arith, lt, short)

-- the game that is kept, without the place of it
abbrev game_values : Option (Rc KeptGame Global) → Option KeptGame
game_values o = option_map (λ (g : Rc KeptGame Global). g.value) o

-- a store with the root of another, and these entries
abbrev pub with_entries : MadeFronts → LruCache ℕ Entry → ℕ → MadeFronts
with_entries s es n = record { root = s.root; entries = es; numbers = n }

module _ (m : Model) (h look : ℕ) (merging : Bool) where
  -- ---- the same front

  same_game : (F : Front) (o p : Option (Rc KeptGame Global)) → game_values p ≡ game_values o
      → IfSome o (λ g. IsGameOf m h look F g.value) → IfSome p (λ g. IsGameOf m h look F g.value)
  same_game F o None same is = tt
  same_game F None (Some q) same is = absurd (let no : Some q.value ≡ None = same in cc)
  same_game F (Some g) (Some q) same is =
      let value : q.value ≡ g.value = (let both : Some q.value ≡ Some g.value = same in cc) in
      subst (IsGameOf m h look F) (sym value) is

  pub same_made : (F : Front) (one other : MadeFront) → other.front.value ≡ one.front.value
      → game_values other.game ≡ game_values one.game → other.settled ≡ one.settled
      → IsMadeFront m h look merging F one → IsMadeFront m h look merging F other
  same_made F one other front game settled made = record {
    of_planner = subst (IsPlannerFront m h) (sym front) made.of_planner;
    front = ap (λ (k : KeptFront). k.front) front ∙ made.front;
    game = same_game F one.game other.game game made.game;
    settled = λ on. made.settled (sym settled ∙ on);
  }

  -- ---- the store

  module _ (s : MadeFronts) (made : AreMade m h look merging s) where
    -- with no entry that was not there
    pub among_made : (es : LruCache ℕ Entry) (n : ℕ)
        → ((e : ℕ × Entry) → Contains es.entries e → Contains s.entries.entries e)
        → AreMade m h look merging (with_entries s es n)
    among_made es n among = record {
      root = made.root;
      root_front = made.root_front;
      entries = λ e at. made.entries e (among e at);
    }

    -- after a use of an entry
    pub promoted_made : (test : ℕ → Bool) (es : LruCache ℕ Entry) (n : ℕ)
        → es ≡ lru_cache (promoted test s.entries.entries) s.entries.cap
        → AreMade m h look merging (with_entries s es n)
    promoted_made test es n is =
        among_made es n (λ e at. Contains-promoted test s.entries.entries e
        (subst (λ (c : LruCache ℕ Entry). Contains c.entries e) is at))

    -- without the last ones
    pub taken_made : (k : ℕ) (es : LruCache ℕ Entry) (n : ℕ)
        → es ≡ lru_cache (take k s.entries.entries) s.entries.cap
        → AreMade m h look merging (with_entries s es n)
    taken_made k es n is =
        among_made es n (λ e at. Contains-take k s.entries.entries e
        (subst (λ (c : LruCache ℕ Entry). Contains c.entries e) is at))

    -- without one of them
    pub forgotten_made : (test : ℕ → Bool) (es : LruCache ℕ Entry) (n : ℕ)
        → es ≡ lru_cache (remove_entry test s.entries.entries) s.entries.cap
        → AreMade m h look merging (with_entries s es n)
    forgotten_made test es n is =
        among_made es n (λ e at. Contains-remove_entry test s.entries.entries e
        (subst (λ (c : LruCache ℕ Entry). Contains c.entries e) is at))

    -- with one entry more
    pub put_made : (eq : ℕ → ℕ → Bool) (k : ℕ) (v : Entry) (es : LruCache ℕ Entry) (n : ℕ)
        → es ≡ lru_cache (put_entries eq s.entries k v) s.entries.cap → IsEntry m h look merging v
        → AreMade m h look merging (with_entries s es n)
    put_made eq k v es n is entry = record {
      root = made.root;
      root_front = made.root_front;
      entries = λ e at. elim (Contains-put_entries eq s.entries k v e
          (subst (λ (c : LruCache ℕ Entry). Contains c.entries e) is at)) [
            | inl there ↦ made.entries e there
            | inr put ↦ subst (IsEntry m h look merging) (sym put.0) entry
          ];
    }

    -- one that is found
    pub found_made : (test : ℕ → Bool) (e : Entry) → lookup test s.entries.entries ≡ Some e
        → IsEntry m h look merging e
    found_made test e is =
        let found = Contains-lookup test s.entries.entries e is in
        made.entries (found.0, e) found.1
