-- What the code's values show.
use Rattle.std.specs.Prelude.{reverse}
use Rattle.crn_form_text.specs.declared.form.FormReader.{FormReader}
use Rattle.crn_form_text.specs.declared.formula.Mode.{Mode}
use Rattle.crn_form_text.specs.declared.formula.Mode.TheVariants as code
use Rattle.crn_form_text.specs.declared.formula.Walk.{Walk}
use Rattle.crn_form_text.specs.Reading as reading
use Rattle.crn_form_text.specs.Reading.{FormState, at_place, at_mode}

-- a form so far
abbrev pub state_of : FormReader → FormState
state_of r = at_place r.place r.entries

abbrev pub mode_of : Mode → FormReader → reading.Mode
mode_of code.Want r = reading.Want
mode_of (code.Opens o) r = reading.Opens o
mode_of code.Scales r = reading.Scales
mode_of (code.InFactor p) r = reading.InFactor p
mode_of code.InForm r = reading.InForm r.place r.entries
mode_of code.Have r = reading.Have

-- a formula so far
abbrev pub walk_of : Walk → reading.Walk
walk_of w = at_mode (mode_of w.mode w.reader) (reverse w.frames.items) w.items.items w.nodes w.depth w.affine
