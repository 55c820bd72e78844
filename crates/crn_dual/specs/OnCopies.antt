-- The nodes of a formula on copies that were made, step by step as a builder makes them.
use Rattle.std.specs.Prelude.{ℕ, ◌+◌, List, length, drop}
use Rattle.std.specs.List.{zip}
use Rattle.crn_fraction.specs.Rational.{ℚ}
use Rattle.crn_net.specs.Network.{Reaction}
use Rattle.crn_gates.specs.declared.Pair.{Pair}
use Rattle.crn_gates.specs.declared.Copied.{Copied}
use Rattle.crn_gates.specs.Gates.{factor_of, Built, stamped, add_table, sub_table, min_table, max_table, scale_table, leaf_table}
use Rattle.crn_gates.specs.Terms.{nonzero}
use Rattle.crn_gates.specs.Pairs.{rails_of_pair, rails_of_pairs, rails_of_terms, operands_of, pair_after}
use Rattle.crn_formula.specs.Formulas.{Formula, Lin, Add, Sub, Scale, Min, Max}

-- how many copies the leaves of a formula take
abbrev pub use_count : Formula → ℕ
use_count (Lin form) = length (nonzero form)
use_count (Add a b) = use_count a + use_count b
use_count (Sub a b) = use_count a + use_count b
use_count (Scale q a) = use_count a
use_count (Min a b) = use_count a + use_count b
use_count (Max a b) = use_count a + use_count b

-- each nonzero coefficient with its copy
abbrev pub terms_on : List ℚ → List Copied → List (ℚ × Copied)
terms_on form copies = zip (nonzero form) copies

-- a network so far, and the pair that was made last
pub record Made : Type 0 where
  pub built : Built
  pub pair : Pair

-- a leaf
abbrev pub leaf_on : List (ℚ × Copied) → Built → Made
leaf_on ts b = record { built = stamped (rails_of_terms ts) 2 (leaf_table (operands_of ts)) b; pair = pair_after b.species }

-- a table of one pair, whose new species are a pair
abbrev pub pair_on_one : List Reaction → Made → Made
pair_on_one t a = record { built = stamped (rails_of_pair a.pair) 2 t a.built; pair = pair_after a.built.species }

-- a table of two pairs, whose new species are a pair
abbrev pub pair_on_two : List Reaction → Made → Made → Made
pair_on_two t a b = record { built = stamped (rails_of_pairs a.pair b.pair) 2 t b.built; pair = pair_after b.built.species }

-- a table of two pairs, whose new species are two more and a pair
abbrev pub choice_on_two : List Reaction → Made → Made → Made
choice_on_two t a b = record { built = stamped (rails_of_pairs a.pair b.pair) 4 t b.built; pair = pair_after (b.built.species + 2) }

-- the nodes in postorder; the leaves take copies from the front
unfoldable pub nodes_on : Formula → List Copied → Built → Made
nodes_on (Lin form) copies b = leaf_on (terms_on form copies) b
nodes_on (Add e f) copies b = let a = nodes_on e copies b in pair_on_two add_table a (nodes_on f (drop (use_count e) copies) a.built)
nodes_on (Sub e f) copies b = let a = nodes_on e copies b in pair_on_two sub_table a (nodes_on f (drop (use_count e) copies) a.built)
nodes_on (Scale q e) copies b = pair_on_one (scale_table (factor_of q)) (nodes_on e copies b)
nodes_on (Min e f) copies b = let a = nodes_on e copies b in choice_on_two min_table a (nodes_on f (drop (use_count e) copies) a.built)
nodes_on (Max e f) copies b = let a = nodes_on e copies b in choice_on_two max_table a (nodes_on f (drop (use_count e) copies) a.built)

-- the nodes of a second operand, after those of the first
abbrev pub second_on : Formula → Formula → List Copied → Built → Made
second_on e f copies b = nodes_on f (drop (use_count e) copies) (nodes_on e copies b).built
