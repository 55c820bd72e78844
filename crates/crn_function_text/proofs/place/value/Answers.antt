use Rattle.std.proofs.Common.{map}
use Rattle.crn_token.specs.Plain.{plain_token}
use Rattle.crn_formula.specs.Views.{plain_of}
use Rattle.crn_function_text.proofs.ValueLaws.{value_none, value_within, value_nodes, value_depth}
use Rattle.crn_function_text.proofs.place.value.Goals as goal

pub returns-in-Some-Within : goal.returns-in-Some-Within
returns-in-Some-Within c =
    let (e, spelled, read) = rw (c.in-Some-Within.is, c.in-Some-Within.field-0-is) at c.in_ok-formula.ensures.found in
    value_within c.args.line c.args.variables (map (plain_token c.args.bytes.now) c.args.rest.now) e (plain_of c.in-Some-Within.formula) spelled read.0 read.1 read.2

pub returns-in-Some-TooManyNodes : goal.returns-in-Some-TooManyNodes
returns-in-Some-TooManyNodes c =
    let (e, spelled, read) = rw (c.in-Some-TooManyNodes.is, c.in-Some-TooManyNodes.field-0-is) at c.in_ok-formula.ensures.found in
    rw read.1 (value_nodes c.args.line c.args.variables (map (plain_token c.args.bytes.now) c.args.rest.now) e spelled read.0)

pub returns-in-Some-TooDeep : goal.returns-in-Some-TooDeep
returns-in-Some-TooDeep c =
    let (e, spelled, read) = rw (c.in-Some-TooDeep.is, c.in-Some-TooDeep.field-0-is) at c.in_ok-formula.ensures.found in
    rw read.2 (value_depth c.args.line c.args.variables (map (plain_token c.args.bytes.now) c.args.rest.now) e spelled read.0 read.1)

pub returns-in-None : goal.returns-in-None
returns-in-None c =
    let none = rw c.in-None.is at c.in_ok-formula.ensures.none in
    value_none c.args.line c.args.variables (map (plain_token c.args.bytes.now) c.args.rest.now) none
