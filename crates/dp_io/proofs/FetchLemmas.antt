-- What follows of every fetch.
use Rattle.std.proofs.Common.{◌≡◌, ◌⊎◌, ◌≤◌, ◌<◌, ℕ, ◌+◌, List, length, cond, Some, IfSome, Result, Ok, Err, Vec, inl}
use Rattle.std.proofs.Common.{inr, refl, sym, subst, ap, ◌∙◌, arith}
use Rattle.std.proofs.lemmas.Bool.Decides.{nat_tests}
use Rattle.std.proofs.lemmas.List.Sums.{sum_by-append}
use Rattle.std.specs.declared.alloc.Global.{Global}
use Rattle.dp_io.specs.declared.shelf.FetchFault.{FetchFault}
use Rattle.dp_io.specs.declared.shelf.FetchFault.TheVariants as faults
use Rattle.dp_io.specs.Shelf.{Contents, IsAsTold, IsAtMost, fault_count, entries_of, is_failed}
use Rattle.dp_io.specs.FetchLaws.{RisesWith, FaultsRiseWithFailed, ToldFetchIsDetermined, fetched, fetch_of_held}
use Rattle.dp_io.specs.FetchLaws.{fetch_answer}

-- the count of faults grows by that of the appended entries
rises : (before : ℕ) (name : List ℕ) (result : Result (Vec ℕ Global) FetchFault)
    → RisesWith before (before + fault_count (entries_of name result)) result
rises before name (Ok bytes) = record {
  failed = λ e. cc;
  risen = λ h. absurd (omega arith);
  never_falls =
      omega arith;
}
rises before name (Err faults.Failed) = record {
  failed = λ e. omega arith;
  risen = λ h. refl;
  never_falls =
      omega arith;
}
rises before name (Err (faults.TooLong k)) = record {
  failed = λ e. cc;
  risen =
      λ h. absurd (omega arith);
  never_falls = omega arith;
}
rises before name (Err faults.Memory) = record {
  failed = λ e. cc;
  risen = λ h. absurd (omega arith);
  never_falls =
      omega arith;
}

-- a fetch fails exactly where the count of faults rises
pub faults_rise : FaultsRiseWithFailed
faults_rise old new name most result h =
    let grown : fault_count new.log ≡ fault_count old.log + fault_count (entries_of name result) =
    ap fault_count h.logged ∙ sum_by-append (λ entry. cond (is_failed entry) 1 0) old.log
    (entries_of name result) in
    rw grown (rises (fault_count old.log) name result)

-- bytes that are within what was asked for are given
given : (bytes : List ℕ) (most : ℕ) → length bytes ≤ most → fetch_of_held (Some bytes) most ≡ Ok bytes
given bytes most short = grind (arith, nat_tests)

-- bytes that are more than that are counted
counted : (bytes : List ℕ) (most k : ℕ) → length bytes ≡ k → most < k
    → fetch_of_held (Some bytes) most ≡ Err (faults.TooLong k)
counted bytes most k is long = grind (arith, nat_tests)

-- a fetch that answers by the contents answers what they determine
determined : (contents : Contents) (number : ℕ) (name : List ℕ) (most : ℕ) (result : Result (Vec ℕ Global) FetchFault)
    → IsAtMost most result → IsAsTold contents number name result
    → (result ≡ Err faults.Memory) ⊎ (fetched result ≡ fetch_answer contents number name most)
determined contents number name most (Ok bytes) short h = inr (rw (h.0, h.1) (sym (given bytes.items most short)))
determined contents number name most (Err faults.Failed) any h = inr (rw h refl)
determined contents number name most (Err (faults.TooLong k)) long h =
    let held = h.1 in
    inr (rw (h.0, held.1) (sym (counted held.0 most k held.2 long)))
determined contents number name most (Err faults.Memory) any h = inl refl

-- where the contents are told, they determine the answer
pub told_fetch : ToldFetchIsDetermined
told_fetch old new contents name most result is_told h =
    determined contents (length old.log) name most result h.within
    (subst (λ told. IfSome told (λ contents. IsAsTold contents (length old.log) name result)) is_told h.told)
