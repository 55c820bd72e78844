-- Causes of refusal exclude each other, and valid parts have none.
use Rattle.std.proofs.Common.{◌≡◌, ◌≢◌, ℕ, ◌<◌, length, refl, sym, ◌∙◌, ap, subst, ◌⊎◌, inl, inr, ⊎_elim}
use Rattle.std.proofs.lemmas.Bool.{cases_order}
use Rattle.crn_net.proofs.InputLists.{inputs_take}
use Rattle.crn_net.specs.Causes.{IsFirst, IsCause, AreInputsTo, IsReactionAt}
use Rattle.crn_net.specs.Limits.{IsValid}
use Rattle.crn_net.specs.Network.{Network}
use Rattle.crn_net.specs.declared.NetworkError.{NetworkError}
use Rattle.crn_net.specs.declared.NetworkError.TheVariants.{Species, Reactions, Inputs, Input, Output, Context, Reaction as BadReaction, Memory}

-- there is one first at most
first_is : (P : ℕ → Type 0) (n i j : ℕ) → IsFirst P n i → IsFirst P n j → i ≡ j
first_is P n i j h k =
    ⊎_elim (λ (e : i ≡ j). e)
    (λ (o : (i < j) ⊎ (j < i)). absurd (⊎_elim (λ (l : i < j). h.here (k.earlier i h.low l)) (λ (l : j < i). k.here (h.earlier j k.low l)) o))
    (cases_order i j)

pub valid_has_none : (net : Network) (e : NetworkError) → e ≢ Memory → IsCause net e → IsValid net → ⊥
valid_has_none net (Species k) m h v = h.1 (v.limits.some_species, v.limits.few_species)
valid_has_none net (Reactions k) m h v = h.2 v.limits.few_reactions
valid_has_none net (Inputs k) m h v = h.3 (v.limits.some_input, v.limits.few_inputs)
valid_has_none net (Input i) m h v = h.3.here (inputs_take net.rails net.species net.inputs i (v.network.inputs, v.network.different))
valid_has_none net Output m h v = h.4 v.network.output
valid_has_none net Context m h v = h.5 v.network.context
valid_has_none net (BadReaction r) m h v = h.6.here (v.network.reactions r h.6.low h.6.high)
valid_has_none net Memory m h v = m refl

one_fault : (net : Network) (e f : NetworkError) → e ≢ Memory → f ≢ Memory → IsCause net e → IsCause net f → e ≡ f
one_fault net (Species l) (Species k) x y h g = ap Species (h.0 ∙ sym g.0)
one_fault net (Species l) (Reactions k) x y h g = absurd (h.1 g.0)
one_fault net (Species l) (Inputs k) x y h g = absurd (h.1 g.0)
one_fault net (Species l) (Input j) x y h g = absurd (h.1 g.0)
one_fault net (Species l) Output x y h g = absurd (h.1 g.0)
one_fault net (Species l) Context x y h g = absurd (h.1 g.0)
one_fault net (Species l) (BadReaction r) x y h g = absurd (h.1 g.0)
one_fault net (Species l) Memory x y h g = absurd (y refl)
one_fault net (Reactions l) (Species k) x y h g = absurd (g.1 h.0)
one_fault net (Reactions l) (Reactions k) x y h g = ap Reactions (h.1 ∙ sym g.1)
one_fault net (Reactions l) (Inputs k) x y h g = absurd (h.2 g.1)
one_fault net (Reactions l) (Input j) x y h g = absurd (h.2 g.1)
one_fault net (Reactions l) Output x y h g = absurd (h.2 g.1)
one_fault net (Reactions l) Context x y h g = absurd (h.2 g.1)
one_fault net (Reactions l) (BadReaction r) x y h g = absurd (h.2 g.1)
one_fault net (Reactions l) Memory x y h g = absurd (y refl)
one_fault net (Inputs l) (Species k) x y h g = absurd (g.1 h.0)
one_fault net (Inputs l) (Reactions k) x y h g = absurd (g.2 h.1)
one_fault net (Inputs l) (Inputs k) x y h g = ap Inputs (h.2 ∙ sym g.2)
one_fault net (Inputs l) (Input j) x y h g = absurd (h.3 g.2)
one_fault net (Inputs l) Output x y h g = absurd (h.3 g.2)
one_fault net (Inputs l) Context x y h g = absurd (h.3 g.2)
one_fault net (Inputs l) (BadReaction r) x y h g = absurd (h.3 g.2)
one_fault net (Inputs l) Memory x y h g = absurd (y refl)
one_fault net (Input i) (Species k) x y h g = absurd (g.1 h.0)
one_fault net (Input i) (Reactions k) x y h g = absurd (g.2 h.1)
one_fault net (Input i) (Inputs k) x y h g = absurd (g.3 h.2)
one_fault net (Input i) (Input j) x y h g = ap Input (first_is (AreInputsTo net.rails net.species net.inputs) (length net.inputs) i j h.3 g.3)
one_fault net (Input i) Output x y h g = absurd (h.3.here (inputs_take net.rails net.species net.inputs i g.3))
one_fault net (Input i) Context x y h g = absurd (h.3.here (inputs_take net.rails net.species net.inputs i g.3))
one_fault net (Input i) (BadReaction r) x y h g = absurd (h.3.here (inputs_take net.rails net.species net.inputs i g.3))
one_fault net (Input i) Memory x y h g = absurd (y refl)
one_fault net Output (Species k) x y h g = absurd (g.1 h.0)
one_fault net Output (Reactions k) x y h g = absurd (g.2 h.1)
one_fault net Output (Inputs k) x y h g = absurd (g.3 h.2)
one_fault net Output (Input j) x y h g = absurd (g.3.here (inputs_take net.rails net.species net.inputs j h.3))
one_fault net Output Output x y h g = refl
one_fault net Output Context x y h g = absurd (h.4 g.4)
one_fault net Output (BadReaction r) x y h g = absurd (h.4 g.4)
one_fault net Output Memory x y h g = absurd (y refl)
one_fault net Context (Species k) x y h g = absurd (g.1 h.0)
one_fault net Context (Reactions k) x y h g = absurd (g.2 h.1)
one_fault net Context (Inputs k) x y h g = absurd (g.3 h.2)
one_fault net Context (Input j) x y h g = absurd (g.3.here (inputs_take net.rails net.species net.inputs j h.3))
one_fault net Context Output x y h g = absurd (g.4 h.4)
one_fault net Context Context x y h g = refl
one_fault net Context (BadReaction r) x y h g = absurd (h.5 g.5)
one_fault net Context Memory x y h g = absurd (y refl)
one_fault net (BadReaction q) (Species k) x y h g = absurd (g.1 h.0)
one_fault net (BadReaction q) (Reactions k) x y h g = absurd (g.2 h.1)
one_fault net (BadReaction q) (Inputs k) x y h g = absurd (g.3 h.2)
one_fault net (BadReaction q) (Input j) x y h g = absurd (g.3.here (inputs_take net.rails net.species net.inputs j h.3))
one_fault net (BadReaction q) Output x y h g = absurd (g.4 h.4)
one_fault net (BadReaction q) Context x y h g = absurd (g.5 h.5)
one_fault net (BadReaction q) (BadReaction r) x y h g = ap BadReaction (first_is (IsReactionAt net.species net.reactions) (length net.reactions) q r h.6 g.6)
one_fault net (BadReaction q) Memory x y h g = absurd (y refl)
one_fault net Memory f x y h g = absurd (x refl)

memory_or_not : (e : NetworkError) → (e ≡ Memory) ⊎ (e ≢ Memory)
memory_or_not (Species k) = inr (λ h. absurd (cc h))
memory_or_not (Reactions k) = inr (λ h. absurd (cc h))
memory_or_not (Inputs k) = inr (λ h. absurd (cc h))
memory_or_not (Input i) = inr (λ h. absurd (cc h))
memory_or_not Output = inr (λ h. absurd (cc h))
memory_or_not Context = inr (λ h. absurd (cc h))
memory_or_not (BadReaction r) = inr (λ h. absurd (cc h))
memory_or_not Memory = inl refl

-- where parts have a fault, memory is not wanted
fault_alone : (net : Network) (e f : NetworkError) → e ≡ Memory → f ≢ Memory → IsCause net e → IsCause net f → ⊥
fault_alone net e f is other h g = valid_has_none net f other g (subst (IsCause net) is h)

pub one_cause : (net : Network) (e f : NetworkError) → IsCause net e → IsCause net f → e ≡ f
one_cause net e f h g =
    ⊎_elim
    (λ (x : e ≡ Memory). ⊎_elim (λ (y : f ≡ Memory). x ∙ sym y) (λ (y : f ≢ Memory). absurd (fault_alone net e f x y h g)) (memory_or_not f))
    (λ (x : e ≢ Memory). ⊎_elim (λ (y : f ≡ Memory). absurd (fault_alone net f e y x g h)) (λ (y : f ≢ Memory). one_fault net e f x y h g) (memory_or_not f))
    (memory_or_not e)
