use Rattle.outcome.specs.Meaning.{outcome_of}
use Rattle.registers.specs.Meaning.{device_of}
use Rattle.device.proofs.Steps.{start_accepted, start_refused}
use Rattle.device.proofs.start.Goals as goal

pub returns-in-Refused : goal.returns-in-Refused
unfolding outcome_of
returns-in-Refused c =
    let a = c.args in start_refused (device_of a.d) a.file.now c.start_tests-tests.result c.start_tests-tests.ensures c.in-Refused.is c.began-began.ensures c.ended.ensures

pub returns : goal.returns
returns c =
    let a = c.args in start_accepted (device_of a.d) a.file.now c.start_tests-tests.result c.start_tests-tests.ensures c.in_default.is c.began-began.ensures
