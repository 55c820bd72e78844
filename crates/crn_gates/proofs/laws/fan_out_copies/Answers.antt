use Rattle.std.proofs.Common.{arith}
use Rattle.crn_gates.proofs.FanLaws.{fanned_sound, copies_free, fans_make}
use Rattle.crn_gates.proofs.laws.fan_out_copies.Goals as goal

pub returns-clause-sound : goal.returns-clause-sound
returns-clause-sound c = fanned_sound

pub returns-clause-free : goal.returns-clause-free
returns-clause-free c = copies_free

pub returns-clause-value : goal.returns-clause-value
returns-clause-value c = λ n rs m i l low high. fans_make rs n 1 n m i l low (omega arith) high
