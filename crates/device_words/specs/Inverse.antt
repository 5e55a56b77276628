-- The words of a device give it back, where its numbers have room in them: so it is with all that a fresh device, writes and ticks leave.
use Rattle.std.specs.Prelude.{ℕ, ◌+◌, ◌*◌, ◌/◌, ◌%◌, ◌<◌, Bool, true, false, not, ◌≡◌, refl, eqb}
use Rattle.std.proofs.Common.{arith, ap}
use Rattle.definition.specs.Verdict.{accepted, refused}
use Rattle.device_definition.specs.Device.{Device, Phase, bit, busy, done, fault_number, fault_place, idle}
use Rattle.device_words.specs.Words.{device_in, first_words, kind_of, phase_in, words_of}

-- both counts have room in a word, and the place of a fault in two
abbrev pub Fits : Device → Type 0
Fits d = (d.taken < 4294967296) × ((d.treated < 4294967296) × (fault_place d.phase < 18446744073709551616))

halves : (p : ℕ) → p < 18446744073709551616 → p / 4294967296 % 4294967296 * 4294967296 + p % 4294967296 ≡ p
halves p h = omega arith

small : (n : ℕ) → n < 4294967296 → n % 4294967296 ≡ n
small n h = omega arith

bit_back : (b : Bool) → not (eqb (bit b) 0) ≡ b
unfolding bit
bit_back true = refl
bit_back false = refl

phase_back : (phase : Phase) → fault_place phase < 18446744073709551616 →
    phase_in (kind_of phase) (fault_number phase) (fault_place phase / 4294967296 % 4294967296 * 4294967296 + fault_place phase % 4294967296) ≡ phase
unfolding phase_in kind_of fault_number fault_place
phase_back idle h = refl
phase_back busy h = refl
phase_back (done accepted) h = refl
phase_back (done (refused number place)) h = ap (λ (p : ℕ). done (refused number p)) (halves place h)

pub device_back : (d : Device) → Fits d → device_in (words_of d) ≡ d
unfolding device_in words_of first_words
device_back d h = λ i. record {
  phase = phase_back d.phase h.1.1 i;
  enable = bit_back d.enable i;
  flag = bit_back d.flag i;
  taken = small d.taken h.0 i;
  treated = small d.treated h.1.0 i;
  folds = d.folds;
}
