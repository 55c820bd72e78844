-- What is read of a network's reactions.
use Rattle.std.proofs.Common.{◌≡◌, ℕ, suc, ◌-◌, ◌<◌, ◌≤◌, List, [], map, length, get_or, sym, ◌∙◌, ap, subst, arith}
use Rattle.std.proofs.lemmas.List.{get_or-map, length-map}
use Rattle.crn_net.specs.Network as Plain
use Rattle.crn_net.specs.Views.{reaction_of, network_of}
use Rattle.crn_net.specs.declared.Parts.{Parts}
use Rattle.crn_net.specs.declared.Reaction.{Reaction}

pub reaction_read : (rs : List Reaction) (r : Reaction) (j n : ℕ) → n ≡ suc j → j < length rs → r ≡ get_or rs j r → reaction_of r ≡ Plain.numbered (map reaction_of rs) n
reaction_read rs r j n e l h =
    ap reaction_of h ∙ sym (get_or-map reaction_of rs j r (record { takes = []; gives = [] }) l) ∙ ap (λ k. Plain.numbered (map reaction_of rs) k) (sym e)

pub reaction_at : (parts : Parts) (net : Plain.Network) (r : Reaction) (n : ℕ) → network_of parts ≡ net → 1 ≤ n → n ≤ length net.reactions →
    r ≡ get_or parts.reactions.items (n - 1) r → reaction_of r ≡ Plain.numbered net.reactions n
reaction_at parts net r n same low high h =
    let fits : n ≤ length parts.reactions.items = subst (λ k. n ≤ k) (ap (λ x. length x.reactions) (sym same) ∙ length-map parts.reactions.items reaction_of) high in
    reaction_read parts.reactions.items r (n - 1) n (omega arith) (omega arith) h ∙ ap (λ x. Plain.numbered x.reactions n) same

pub reaction_valid : (parts : Parts) (net : Plain.Network) (r : Reaction) (n : ℕ) → network_of parts ≡ net → Plain.IsNetwork (network_of parts) → 1 ≤ n → n ≤ length net.reactions →
    reaction_of r ≡ Plain.numbered net.reactions n → Plain.IsReaction net.species (reaction_of r)
reaction_valid parts net r n same ok low high e =
    let valid : Plain.IsNetwork net = subst Plain.IsNetwork same ok in
    subst (λ x. Plain.IsReaction net.species x) (sym e) (valid.reactions n low high)
