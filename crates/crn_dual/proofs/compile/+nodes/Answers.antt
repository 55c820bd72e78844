use Rattle.std.proofs.Common.{ap, rules}
use Rattle.std.specs.Vec.Iter.{into_iter_items}
use Rattle.crn_gates.specs.Drafts.{Draft}
use Rattle.crn_formula.specs.Views.{plain_of}
use Rattle.crn_dual.proofs.Loops.{factors_pass}
use Rattle.crn_dual.proofs.Keeping.{one_ready, two_ready, leaf_ready, left_free}
use Rattle.crn_dual.proofs.compile.+nodes.Goals as goal

pub lay-returns-clause-left : goal.lay-returns-clause-left
lay-returns-clause-left t c = left_free c.node.result (plain_of c.args.formula.now) (into_iter_items c.args.copies.now) _ c.args.builder c.node.ensures.network c.node.ensures.rest c.requires.sound c.requires.free c.requires.enough

pub node-leaf-requires-clause-factors : goal.node-leaf-requires-clause-factors
node-leaf-requires-clause-factors t c = factors_pass _ (into_iter_items c.args.copies.now) c.in_ok-terms-in-Lin.terms.items c.in_ok-terms-in-Lin.ensures.terms

pub node-leaf-requires-clause-free : goal.node-leaf-requires-clause-free
node-leaf-requires-clause-free t c = leaf_ready _ (into_iter_items c.args.copies.now) c.args.builder.built _ c.in_ok-terms-in-Lin.ensures.terms c.requires.free

pub node-scale-requires : goal.node-scale-requires
node-scale-requires t c =
    one_ready (plain_of c.deref.result.now) (into_iter_items c.args.copies.now) c.args.builder.built c.in_ok-builder-in-Scale.builder.built c.in_ok-builder-in-Scale.x
    (ap (λ (d : Draft). d.built) c.in_ok-builder-in-Scale.ensures.network) c.in_ok-builder-in-Scale.ensures.pair c.requires.sound c.requires.free (search rules)

pub node-add-requires : goal.node-add-requires
node-add-requires t c =
    two_ready (plain_of c.deref-in-Add.result.now) (plain_of c.deref-in-Add-2.result.now) (into_iter_items c.args.copies.now) c.args.builder.built c.in_ok-builder-in-Add-2.builder.built c.in_ok-builder-in-Add.x c.in_ok-builder-in-Add-2.y
    (search rules) c.in_ok-builder-in-Add.ensures.pair (search rules) c.requires.sound c.requires.free (search rules)

pub node-sub-requires : goal.node-sub-requires
node-sub-requires t c =
    two_ready (plain_of c.deref-in-Sub.result.now) (plain_of c.deref-in-Sub-2.result.now) (into_iter_items c.args.copies.now) c.args.builder.built c.in_ok-builder-in-Sub-2.builder.built c.in_ok-builder-in-Sub.x c.in_ok-builder-in-Sub-2.y
    (search rules) c.in_ok-builder-in-Sub.ensures.pair (search rules) c.requires.sound c.requires.free (search rules)

pub node-min-requires : goal.node-min-requires
node-min-requires t c =
    two_ready (plain_of c.deref-in-Min.result.now) (plain_of c.deref-in-Min-2.result.now) (into_iter_items c.args.copies.now) c.args.builder.built c.in_ok-builder-in-Min-2.builder.built c.in_ok-builder-in-Min.x c.in_ok-builder-in-Min-2.y
    (search rules) c.in_ok-builder-in-Min.ensures.pair (search rules) c.requires.sound c.requires.free (search rules)

pub node-max-requires : goal.node-max-requires
node-max-requires t c =
    two_ready (plain_of c.deref-in-Max.result.now) (plain_of c.deref-in-Max-2.result.now) (into_iter_items c.args.copies.now) c.args.builder.built c.in_ok-builder-in-Max-2.builder.built c.in_ok-builder-in-Max.x c.in_ok-builder-in-Max-2.y
    (search rules) c.in_ok-builder-in-Max.ensures.pair (search rules) c.requires.sound c.requires.free (search rules)
