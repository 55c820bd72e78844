use Rattle.std.proofs.Common.{◌≡◌, subst, rules}
use Rattle.crn_net_text.specs.declared.place.Place.TheVariants as place
use Rattle.crn_net_text.specs.Reading.{place_of, IsKept}
use Rattle.crn_net.specs.Views.{network_of}
use Rattle.crn_net_text.proofs.Kept.{kept_is_valid}
use Rattle.crn_net_text.proofs.place.Place.network.Goals as goal

pub want_of_memory-requires : goal.want_of_memory-requires
want_of_memory-requires c =
    let whole = c.in-Listing-eq0-default in
    let none_left : whole.field-0 ≡ 0 = search rules in
    c.in-Err.ensures.valid (kept_is_valid (network_of whole.parts) (subst (λ n. IsKept (place_of (place.Listing n whole.parts))) none_left (subst (λ s. IsKept (place_of s)) whole.is c.requires)))
