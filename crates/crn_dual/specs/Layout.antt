-- The layout of a formula: species of the inputs and of the context, copies of them for the leaves, and a gate for each node.
use Rattle.std.specs.Prelude.{ℕ, suc, ◌+◌, nat_lt, Bool, if◌then◌else◌, List, [], ◌∷◌, ◌++◌}
use Rattle.std.specs.List.{range_with_len}
use Rattle.crn_net.specs.Network.{Reaction, Network}
use Rattle.crn_net.specs.declared.Rails.TheVariants.{Dual}
use Rattle.crn_net.specs.declared.Ends.TheVariants.{Pair}
use Rattle.crn_gates.specs.declared.Use.{Use}
use Rattle.crn_gates.specs.declared.Use.TheVariants.{Variable, Context}
use Rattle.crn_gates.specs.Gates.{Factor, Operand, OfPair, OfRail, slot_species, factor_of, width_of, Built, stamped, add_table, sub_table, min_table, max_table, scale_table, leaf_table}
use Rattle.crn_gates.specs.Terms.{Term, terms_of}
use Rattle.crn_gates.specs.FanOut.{fanned}
use Rattle.crn_gates.specs.Pairs.{rails_of_uses}
use Rattle.crn_gates.specs.Drafts.{width_before, inputs_of, context_of}
use Rattle.crn_formula.specs.Formulas.{Formula, Lin, Add, Sub, Scale, Min, Max}
use Rattle.crn_dual.specs.Columns.{has_context}

-- ---- what a leaf takes

-- what a copy for a column, numbered from 0, is of: a variable, or past the k variables the context
abbrev pub use_of_column : ℕ → ℕ → Use
use_of_column k v = if nat_lt v k then Variable (suc v) else Context

-- for a term
abbrev pub use_of : ℕ → Term → Use
use_of k t = use_of_column k t.variable

-- a variable's copy is an operand of two rails, and the context's of one
abbrev pub operand_for : Use → Factor → Operand
operand_for (Variable v) f = OfPair f
operand_for Context f = OfRail f

-- the uses of the terms of a form, the constant's last
abbrev pub uses_of_terms : ℕ → List Term → List Use
uses_of_terms k [] = []
uses_of_terms k (t ∷ ts) = use_of k t ∷ uses_of_terms k ts

-- the operands of the leaf
abbrev pub operands_of : ℕ → List Term → List Operand
operands_of k [] = []
operands_of k (t ∷ ts) = operand_for (use_of k t) t.factor ∷ operands_of k ts

-- the uses of a formula over k variables: leaf after leaf, from left to right
abbrev pub uses_of : ℕ → Formula → List Use
uses_of k (Lin form) = uses_of_terms k (terms_of form)
uses_of k (Add a b) = uses_of k a ++ uses_of k b
uses_of k (Sub a b) = uses_of k a ++ uses_of k b
uses_of k (Scale q a) = uses_of k a
uses_of k (Min a b) = uses_of k a ++ uses_of k b
uses_of k (Max a b) = uses_of k a ++ uses_of k b

-- the rails that copies are made of, in the order of the copies
abbrev pub rails_of : ℕ → Formula → List ℕ
rails_of k e = rails_of_uses k (uses_of k e)

-- how many species the copies for the leaves of a formula are
abbrev pub copy_count : ℕ → Formula → ℕ
copy_count k (Lin form) = width_of (operands_of k (terms_of form))
copy_count k (Add a b) = copy_count k a + copy_count k b
copy_count k (Sub a b) = copy_count k a + copy_count k b
copy_count k (Scale q a) = copy_count k a
copy_count k (Min a b) = copy_count k a + copy_count k b
copy_count k (Max a b) = copy_count k a + copy_count k b

-- ---- the nodes

-- a network so far, and the pair that was made last
pub record Laid : Type 0 where
  pub built : Built
  pub plus : ℕ
  pub minus : ℕ

-- a table stamped on operands, of which the slots p and q are the new pair
abbrev pub gate : List ℕ → ℕ → List Reaction → ℕ → ℕ → Built → Laid
gate xs new t p q b = record { built = stamped xs new t b; plus = slot_species xs b.species p; minus = slot_species xs b.species q }

-- a leaf takes its copies, which stand after species n
abbrev pub leaf : List Operand → ℕ → Built → Laid
leaf ts n b = gate (range_with_len (suc n) (width_of ts)) 2 (leaf_table ts) (width_of ts) (suc (width_of ts)) b

-- a table of one pair
abbrev pub gate_of_one : Laid → ℕ → List Reaction → ℕ → ℕ → Laid
gate_of_one a new t p q = gate (a.plus ∷ a.minus ∷ []) new t p q a.built

-- a table of two pairs, the second of which was made last
abbrev pub gate_of_two : Laid → Laid → ℕ → List Reaction → ℕ → ℕ → Laid
gate_of_two a b new t p q = gate (a.plus ∷ a.minus ∷ b.plus ∷ b.minus ∷ []) new t p q b.built

-- the nodes in postorder, left operand before right operand, where the copies for the leaves stand after species n
unfoldable pub nodes : ℕ → Formula → ℕ → Built → Laid
nodes k (Lin form) n b = leaf (operands_of k (terms_of form)) n b
nodes k (Add e f) n b = let l = nodes k e n b in gate_of_two l (nodes k f (n + copy_count k e) l.built) 2 add_table 4 5
nodes k (Sub e f) n b = let l = nodes k e n b in gate_of_two l (nodes k f (n + copy_count k e) l.built) 2 sub_table 4 5
nodes k (Scale q e) n b = gate_of_one (nodes k e n b) 2 (scale_table (factor_of q)) 2 3
nodes k (Min e f) n b = let l = nodes k e n b in gate_of_two l (nodes k f (n + copy_count k e) l.built) 4 min_table 6 7
nodes k (Max e f) n b = let l = nodes k e n b in gate_of_two l (nodes k f (n + copy_count k e) l.built) 4 max_table 6 7

-- ---- the network

-- after the fan-out of inputs and context come the nodes
abbrev pub laid_out : ℕ → Bool → Formula → Laid
laid_out k context e = nodes k e (width_before Dual k context) (fanned (width_before Dual k context) (rails_of k e))

-- over k variables, with or without a context; the output is the pair of the root
abbrev pub layout_with : ℕ → Bool → Formula → Network
layout_with k context e = record {
  rails = Dual;
  species = (laid_out k context e).built.species;
  reactions = (laid_out k context e).built.reactions;
  inputs = inputs_of Dual k;
  output = Pair (laid_out k context e).plus (laid_out k context e).minus;
  context = context_of Dual k context;
}

-- the layout of a formula over k variables
abbrev pub layout : ℕ → Formula → Network
layout k e = layout_with k (has_context k e) e
