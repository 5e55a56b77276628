use Rattle.outcome.specs.Meaning.{outcome_of}
use Rattle.registers.specs.Meaning.{device_of}
use Rattle.device.proofs.Steps.{accepted_call, data_stored, data_taken, data_there, none_stored, refused_call}
use Rattle.device.proofs.write.Goals as goal

pub returns-in-Refused : goal.returns-in-Refused
unfolding outcome_of
returns-in-Refused c =
    let a = c.args in let both = refused_call a.register a.value (device_of a.d) a.buffer.now c.write_tests-tests.result c.write_tests-tests.ensures c.in-Refused.is in record { outcome_value = both.0; device_value = both.1.0; buffer_after = both.1.1 }

pub bounds-buffer-at : goal.bounds-buffer-at
unfolding device_of
bounds-buffer-at c =
    let a = c.args in (data_there a.register a.value (device_of a.d) a.buffer.now c.write_tests-tests.result c.write_tests-tests.ensures c.in_default.is c.if-register-eq9.true).1

pub took_byte-next-requires : goal.took_byte-next-requires
unfolding device_of
took_byte-next-requires c =
    let a = c.args in (data_there a.register a.value (device_of a.d) a.buffer.now c.write_tests-tests.result c.write_tests-tests.ensures c.in_default.is c.if-register-eq9.true).0

pub returns-then-register-eq9 : goal.returns-then-register-eq9
unfolding outcome_of device_of
returns-then-register-eq9 c =
    let a = c.args in let both = accepted_call a.register a.value (device_of a.d) a.buffer.now c.write_tests-tests.result c.write_tests-tests.ensures c.in_default.is (data_taken a.register a.value (device_of a.d) a.buffer.now c.if-register-eq9.true c.took_byte-next.ensures) (data_stored a.register a.value (device_of a.d) a.buffer.now c.if-register-eq9.true) in record { outcome_value = both.0; device_value = both.1.0; buffer_after = both.1.1 }

pub returns : goal.returns
unfolding outcome_of
returns c =
    let a = c.args in let both = accepted_call a.register a.value (device_of a.d) a.buffer.now c.write_tests-tests.result c.write_tests-tests.ensures c.in_default.is c.written-next.ensures (none_stored a.register a.value (device_of a.d) a.buffer.now c.if-register-eq9.false) in record { outcome_value = both.0; device_value = both.1.0; buffer_after = both.1.1 }
