-- A device's state as words, as it is lent: 0 phase (0 idle, 1 busy, 2 done and accepted, any other: done and refused), 1 fault number, 2 and 3 place (low, high),
-- 4 enable, 5 flag (0: down, any other: up), 6 taken, 7 treated, from 8 on the folds.
use Rattle.std.specs.Prelude.{ℕ, ◌+◌, ◌*◌, ◌/◌, ◌%◌, cond, not, List, [], ◌∷◌, ◌++◌, eqb, drop, get_or}
use Rattle.definition.specs.Verdict.{accepted, refused}
use Rattle.device_definition.specs.Device.{Device, Phase, bit, busy, done, fault_number, fault_place, idle}

-- the number of words of a state
abbrev pub state_length : ℕ
state_length = 1160

-- one more than the largest word
abbrev pub word_limit : ℕ
word_limit = 4294967296

-- the device that words are of, whatever they are
unfoldable pub phase_in : ℕ → ℕ → ℕ → Phase
phase_in kind number place =
    cond (eqb kind 0) idle
    (cond (eqb kind 1) busy
    (cond (eqb kind 2) (done accepted) (done (refused number place))))

unfoldable pub device_in : List ℕ → Device
device_in ws = record {
  phase = phase_in (get_or ws 0 0) (get_or ws 1 0) (get_or ws 3 0 * word_limit + get_or ws 2 0);
  enable = not (eqb (get_or ws 4 0) 0);
  flag = not (eqb (get_or ws 5 0) 0);
  taken = get_or ws 6 0;
  treated = get_or ws 7 0;
  folds = drop 8 ws;
}

-- and the words of a device
unfoldable pub kind_of : Phase → ℕ
kind_of idle = 0
kind_of busy = 1
kind_of (done accepted) = 2
kind_of (done (refused number place)) = 3

unfoldable pub first_words : Device → List ℕ
first_words d =
    kind_of d.phase ∷ fault_number d.phase ∷ fault_place d.phase % word_limit ∷ fault_place d.phase / word_limit % word_limit ∷
    bit d.enable ∷ bit d.flag ∷ d.taken % word_limit ∷ d.treated % word_limit ∷ []

unfoldable pub words_of : Device → List ℕ
words_of d = first_words d ++ d.folds
