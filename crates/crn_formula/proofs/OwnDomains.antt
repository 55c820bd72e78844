-- The domain of a function that nothing restricts further keeps the rule of domains, and has the columns of the function.
use Rattle.std.proofs.Common.{◌≡◌, ◌∙◌, ℕ, ◌+◌, ◌-◌, ◌≤◌, Bool, true, false, cond, [], length, refl, arith}
use Rattle.std.specs.Prelude.{pos, replicate}
use Rattle.std.proofs.lemmas.Bool.{cond_both}
use Rattle.std.proofs.lemmas.Int.{ints}
use Rattle.std.proofs.lemmas.List.{length-replicate, get_or-set_same}
use Rattle.std.proofs.lemmas.List.Elements.{All-nil, All-cons}
use Rattle.crn_linear.specs.Rows.{Row, MeetsWhole}
use Rattle.crn_formula.specs.Pieces.{IsDomain, columns_of}
use Rattle.crn_formula.specs.Domains.{unit, whole_space, affine_domain, domain_for}
use Rattle.crn_formula.specs.Functions.{Kind, is_affine, columns}
use Rattle.crn_formula.proofs.Units.{length-unit, dot-unit}

whole_space_is : (n : ℕ) → IsDomain (whole_space n)
whole_space_is n = record {
  long = All-nil (λ (r : Row). length r.entries ≡ columns_of (whole_space n));
  strictly = All-nil (λ (r : Row). MeetsWhole (record { entries = r.entries; strict = true }) (replicate n (pos 0)));
}

affine_domain_is : (n : ℕ) → 1 ≤ n → IsDomain (affine_domain n)
affine_domain_is n some =
    let u = unit n (n - 1) in
    let row : Row = record { entries = u; strict = true } in
    let one = dot-unit n (n - 1) u (omega (arith, some)) (length-unit n (n - 1)) ∙ get_or-set_same (replicate n (pos 0)) (n - 1) (pos 1) (pos 0) (omega (arith, some, length-replicate n (pos 0))) in
    let Met = λ (r : Row). MeetsWhole (record { entries = r.entries; strict = true }) u in
    record {
      long = All-cons (λ (r : Row). length r.entries ≡ length u) row [] refl (All-nil (λ (r : Row). length r.entries ≡ length u));
      strictly = All-cons Met row [] (omega (arith, ints, one)) (All-nil Met);
    }

pub own_domain_is : (k : ℕ) (kind : Kind) → IsDomain (domain_for k kind)
own_domain_is k kind = cond_both (is_affine k kind) (affine_domain (k + 1)) (whole_space k) IsDomain (λ u. affine_domain_is (k + 1) (omega arith)) (λ u. whole_space_is k)

pub own_columns : (k : ℕ) (kind : Kind) → columns_of (domain_for k kind) ≡ columns k kind
own_columns k kind = go (is_affine k kind)
  where
    go : (b : Bool) → columns_of (cond b (affine_domain (k + 1)) (whole_space k)) ≡ cond b (k + 1) k
    go true = length-unit (k + 1) ((k + 1) - 1)
    go false = length-replicate k (pos 0)
