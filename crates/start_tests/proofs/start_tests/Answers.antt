use Rattle.edition.specs.Meaning.{edition_of}
use Rattle.device_definition.specs.Device.{start_tests}
use Rattle.start_tests.proofs.start_tests.Goals as goal

pub returns-then-file-le4096 : goal.returns-then-file-le4096
unfolding start_tests edition_of
returns-then-file-le4096 c =
    c.tests_with.ensures

pub returns : goal.returns
unfolding start_tests edition_of
returns c =
    c.tests_with-2.ensures
