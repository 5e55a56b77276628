-- THE INVERSE AS IT WAS (01: "The inverse of 0 is answered as 0"), and the definition's verify and prove over any fields. It holds no lemma and no proof.
use Rattle.std.specs.Prelude.{ℕ, ◌+◌, ◌-◌, ◌*◌, ◌%◌, ◌^◌, Bool, false, eqb, length, drop}
use mathlib.Core.List.{List, ◌++◌, zip_with}
use Rattle.std.proofs.Math.Option.{none, some}
use Rattle.definition.specs.Block.{block_count, file_of, stream_of}
use Rattle.definition.specs.Deciding.{counted, decide, repeated_outs}
use Rattle.definition.specs.Domain.{in_domain}
use Rattle.definition.specs.Field.{Element, Field, Spelling, begun_by, elements_in, four, number_in, one, quartic, reciprocal}
use Rattle.definition.specs.Layout.{Kind, coin, coin_kinds, index, layout, message, out, read_coins, read_transcript, words_due}
use Rattle.definition.specs.Lists.{first_true}
use Rattle.definition.specs.Prove.{Result, coefficients_test, coins_test, finish, input_range_test, output_test, sheet_length_test}
use Rattle.definition.specs.Prover.{honest}
use Rattle.definition.specs.Reading.{reading, sheet_test}
use Rattle.definition.specs.Sheet.{Edition, Sheet, first_level, root_of_unity, sheet_length, sheet_of}
use Rattle.definition.specs.Transcript.{transcript_words}
use Rattle.definition.specs.Verdict.{Outcome, Verdict, ◌then◌, refuse_at, then_verdict}

-- The prime field as it was: the inverse of x is x^(p-2) (Fermat), which is 0 for 0.
unfoldable pub prime_field_before : ℕ → Field ℕ
prime_field_before p = record {
  𝟘 = 0;
  𝟙 = 1;
  ◌⊕◌ = λ x y. (x + y) % p;
  ◌⊖◌ = λ x y. (x + (p - y % p)) % p;
  ◌⊗◌ = λ x y. x * y % p;
  inverse = λ x. some (x ^ (p - 2) % p);
  equal = eqb;
}

-- the field over it whose elements are so spelt; of four words, too, the inverse of 0 is 0
unfoldable pub field_before : (σ : Spelling) → ℕ → Field (Element σ)
field_before one p = prime_field_before p
field_before four p = quartic (prime_field_before p) 11

-- any field with 0 for the inverse that is not there
unfoldable pub zero_for_none : {A : Type 0} → Field A → Field A
zero_for_none F = record {
  𝟘 = F.𝟘;
  𝟙 = F.𝟙;
  ◌⊕◌ = F.◌⊕◌;
  ◌⊖◌ = F.◌⊖◌;
  ◌⊗◌ = F.◌⊗◌;
  inverse = λ x. some (reciprocal F x);
  equal = F.equal;
}

-- VERIFY AND PROVE OVER ANY FIELDS: the definition's text, from where it names `field_in`, with other fields in its place. With `field_in` it is the definition.
module _ (fields : (σ : Spelling) → ℕ → Field (Element σ)) where
  unfoldable pub out_in_domain_over : (σ : Spelling) → Sheet → Kind → Element σ → Bool
  out_in_domain_over σ h message x = false
  out_in_domain_over σ h coin x = false
  out_in_domain_over σ h (out l) x = in_domain (fields σ h.prime) (number_in σ (root_of_unity h)) l x
  out_in_domain_over σ h (index n) x = false

  unfoldable pub out_test_over : Sheet → ℕ → List Kind → List ℕ → Outcome
  out_test_over h from kinds w =
      let σ = h.spelling in
      refuse_at 7 (first_true from (zip_with (out_in_domain_over σ h) kinds (begun_by σ (drop from w))))

  unfoldable pub equal_test_over : Sheet → ℕ → List Kind → List ℕ → Outcome
  equal_test_over h from kinds w =
      let σ = h.spelling in
      refuse_at 14 (first_true from (repeated_outs (fields σ h.prime) none kinds (begun_by σ (drop from w))))

  unfoldable pub out_tests_over : Sheet → ℕ → List Kind → List ℕ → Outcome
  out_tests_over h from kinds w = out_test_over h from kinds w then equal_test_over h from kinds w

  unfoldable pub deciding_over : Edition → List ℕ → Verdict
  deciding_over e w =
      let h = sheet_of e w in
      let σ = h.spelling in
      then_verdict (out_tests_over h (sheet_length e) (layout h) w)
      (counted (decide (fields σ h.prime) (number_in σ (root_of_unity h)) (first_level h) (read_transcript σ h (drop (sheet_length e) w))))

  unfoldable pub verify_over : Edition → List ℕ → Verdict
  verify_over e bytes = then_verdict (reading e bytes) (deciding_over e (stream_of bytes))

  unfoldable pub honest_stream_over : Edition → List ℕ → List ℕ → List ℕ → List ℕ
  honest_stream_over e w f coins =
      let h = sheet_of e w in
      let σ = h.spelling in
      w ++ transcript_words σ (honest (fields σ h.prime) (number_in σ (root_of_unity h)) (first_level h) (elements_in σ f) (read_coins σ h coins))

  unfoldable pub coin_domain_test_over : Sheet → List ℕ → Outcome
  coin_domain_test_over h coins =
      let σ = h.spelling in
      refuse_at 7 (first_true 0 (zip_with (out_in_domain_over σ h) (coin_kinds (layout h)) (begun_by σ coins)))

  unfoldable pub coin_equal_test_over : Sheet → List ℕ → Outcome
  coin_equal_test_over h coins =
      let σ = h.spelling in
      refuse_at 14 (first_true 0 (repeated_outs (fields σ h.prime) none (coin_kinds (layout h)) (begun_by σ coins)))

  unfoldable pub prove_tests_over : Edition → Sheet → List ℕ → List ℕ → List ℕ → Outcome
  prove_tests_over e h f coins output =
      coefficients_test h f then coins_test h coins then input_range_test h (coin_kinds (layout h)) (f ++ coins)
      then coin_domain_test_over h coins then coin_equal_test_over h coins
      then output_test (block_count (words_due e h)) (512 * block_count (words_due e h)) (length output)

  unfoldable pub prove_over : Edition → List ℕ → List ℕ → List ℕ → List ℕ → Result
  prove_over e w f coins output =
      finish (sheet_length_test e w then sheet_test e w then prove_tests_over e (sheet_of e w) f coins output)
      (block_count (words_due e (sheet_of e w))) (file_of (honest_stream_over e w f coins)) output
