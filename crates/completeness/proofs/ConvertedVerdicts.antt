-- THE PAGE ON CONVERTED VERDICTS (02, CR 5), which goes on from Editions.antt, by the numbers of its sections: a converted file gets the original's verdict, but for the
-- word number of a 7 or a 14, which is six higher in edition 2. It holds theorems and nothing else; each proof is one citation.
use Rattle.std.specs.Prelude.{ℕ, ◌*◌, List, ◌≡◌, take}
use Rattle.definition.specs.Block.{file_of, stream_of}
use Rattle.definition.specs.Convert.{backward, folds_test, forward, to_edition1, to_edition2}
use Rattle.definition.specs.Prove.{done}
use Rattle.definition.specs.Reading.{reading}
use Rattle.definition.specs.Sheet.{edition1, edition2}
use Rattle.definition.specs.Verdict.{accepted}
use Rattle.definition.specs.Verify.{verify, verify_in}
use Rattle.completeness.proofs.Conversion
use Rattle.completeness.proofs.Converter
use Rattle.completeness.specs.Faults.{sheet_in, six_higher}

-- 3. The blocks that the converter to edition 2 wrote get the original's verdict;
module _ (bytes output : List ℕ) (n : ℕ) where
  module _ (e : (to_edition2 bytes output).answer ≡ done n) where
    pub to_2_verdict : verify_in edition2 (take (512 * n) (to_edition2 bytes output).output) ≡ record { outcome = six_higher (verify bytes).outcome; reads = (verify bytes).reads }
    to_2_verdict = Converter.to_2_verdict bytes output n e

-- 4. and so do those that the converter to edition 1 wrote.
module _ (bytes output : List ℕ) (n : ℕ) where
  module _ (e : (to_edition1 bytes output).answer ≡ done n) where
    pub to_1_verdict : verify_in edition2 bytes ≡ record {
      outcome = six_higher (verify (take (512 * n) (to_edition1 bytes output).output)).outcome;
      reads = (verify (take (512 * n) (to_edition1 bytes output).output)).reads;
    }
    to_1_verdict = Converter.to_1_verdict bytes output n e

-- 5. The same of the words alone, whatever the output: of a file of edition 1 that passes refusals 1 to 6,
module _ (bytes : List ℕ) (read : reading edition1 bytes ≡ accepted) where
  pub forward_verdict : verify_in edition2 (file_of (forward (stream_of bytes))) ≡ record { outcome = six_higher (verify bytes).outcome; reads = (verify bytes).reads }
  forward_verdict = Conversion.forward_verdict bytes read

-- and of one of edition 2 with equal folding numbers.
module _ (bytes : List ℕ) (read : reading edition2 bytes ≡ accepted) (equal : folds_test (sheet_in edition2 bytes) ≡ accepted) where
  pub backward_verdict : verify_in edition2 bytes ≡ record {
    outcome = six_higher (verify (file_of (backward (stream_of bytes)))).outcome;
    reads = (verify (file_of (backward (stream_of bytes)))).reads;
  }
  backward_verdict = Conversion.backward_verdict bytes read equal
