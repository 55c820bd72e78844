-- What calls answer where a step within them ends.
use Rattle.std.proofs.Common.{◌≡◌, ℕ, List, Result, Err, sym, subst}
use Rattle.std.specs.Prelude.{ℤ}
use Rattle.crn_feasible.specs.declared.rows.Ending.{Ending}
use Rattle.crn_feasible.specs.declared.rows.RowList.{RowList}
use Rattle.crn_feasible.specs.Elimination.{Stop, Kept}
use Rattle.crn_feasible.specs.Steps.{Ends, Goes, Takes, Combines}

-- the same ending is answered for a list
pub ends_takes : {A : Type 0} (result : Result A Ending) (e : Ending) (r : Result (List Kept) Stop) (l : RowList)
    → (x : Ending) × (result ≡ Err x) × (x ≡ e) → Ends r e → Takes result r l
ends_takes result e r l same h = subst (λ t. Takes t r l) (sym same.1) (subst (Ends r) (sym same.2) h)

-- and for a value
pub ends_goes : {A B : Type 0} (result : Result A Ending) (seen : A → B) (e : Ending) (r : Result B Stop)
    → (x : Ending) × (result ≡ Err x) × (x ≡ e) → Ends r e → Goes result seen r
ends_goes result seen e r same h = subst (λ t. Goes t seen r) (sym same.1) (subst (Ends r) (sym same.2) h)

-- and for entries
pub ends_combines : (result : Result (List ℤ) Ending) (e : Ending) (columns sources : ℕ) (k : Kept) (ms : List (ℕ × ℤ))
    → (x : Ending) × (result ≡ Err x) × (x ≡ e) → Combines (Err e) columns sources k ms → Combines result columns sources k ms
ends_combines result e columns sources k ms same h =
    subst (λ t. Combines t columns sources k ms) (sym same.1) (subst (λ x. Combines (Err x) columns sources k ms) (sym same.2) h)
