-- The fields as they were are those of the definition with 0 for the inverse that is not there; so verify and prove over them are the definition's, for every
-- file and every input.
use Rattle.std.specs.Prelude.{ℕ, ◌+◌, ◌-◌, ◌*◌, ◌%◌, ◌<◌, ◌≡◌, eqb, length, drop, get_or}
use mathlib.Core.List.{List, ◌++◌, zip_with}
use Rattle.std.proofs.Math.Option.{Option, none, some}
use Rattle.std.proofs.Math.Path.{refl}
use Rattle.std.proofs.Common.{sym, ap, ◌∙◌}
use Rattle.definition.specs.Block.{block_count, file_of, stream_of}
use Rattle.definition.specs.Deciding.{counted, decide, deciding, equal_test, out_in_domain, out_test, out_tests, repeated_outs}
use Rattle.definition.specs.Domain.{in_domain}
use Rattle.definition.specs.Field.{Element, Field, Quad, Spelling, begun_by, elements_in, embed, field_in, field_of, found_or, inverse_by, norm, norm_first, norm_second, prime_field, prime_of, quartic, quartic_product, reciprocal, spelling_of, where_found}
use Rattle.definition.specs.Layout.{Kind, coin, coin_kinds, index, layout, message, out, read_coins, read_transcript, words_due}
use Rattle.definition.specs.Lists.{first_true}
use Rattle.definition.specs.Prove.{coefficients_test, coin_domain_test, coin_equal_test, coins_test, finish, input_range_test, output_test, prove_in, prove_tests, sheet_length_test}
use Rattle.definition.specs.Prover.{honest, honest_stream}
use Rattle.definition.specs.Reading.{reading, sheet_test}
use Rattle.definition.specs.Sheet.{Edition, Sheet, first_level, sheet_length, sheet_of}
use Rattle.definition.specs.Transcript.{transcript_words}
use Rattle.definition.specs.Verdict.{◌then◌, refuse_at, then_verdict}
use Rattle.definition.specs.Verify.{verify_in}
use Rattle.algebra.specs.Divisors.{as_before}
use Rattle.algebra.specs.FieldIn.{spelling_cases}
use Rattle.algebra.specs.Laws.{FieldLaws}
use Rattle.algebra.specs.PrimeField.{laws, suited}
use Rattle.algebra.specs.Quartic.{quad_path}
use Rattle.algebra.specs.Solver.{:0, ◌:*◌, ◌:+◌, ◌:-◌, ◌:=◌, solve}
use Rattle.layouts.specs.Levels.{sheet_field, sheet_root}
use Rattle.inverse_laws.specs.Before.{coin_domain_test_over, coin_equal_test_over, deciding_over, equal_test_over, field_before, honest_stream_over, out_in_domain_over, out_test_over, out_tests_over, prime_field_before, prove_over, prove_tests_over, verify_over, zero_for_none}
use Rattle.inverse_laws.specs.SameOperations.{decide_same, honest_same, in_domain_same, repeated_outs_same}

-- ---- the fields

prime_before : (p : ℕ) → 2 < p → prime_field_before p ≡ zero_for_none (prime_field p)
unfolding prime_field_before zero_for_none prime_field
prime_before p large = λ i. record {
  𝟘 = 0;
  𝟙 = 1;
  ◌⊕◌ = λ x y. (x + y) % p;
  ◌⊖◌ = λ x y. (x + (p - y % p)) % p;
  ◌⊗◌ = λ x y. x * y % p;
  inverse = λ x. some (sym (as_before p x large) i);
  equal = eqb;
}

-- Of four words: with 0 for the inverse of the norm, the inverse is 0.
module _ {A : Type 0} (F : Field A) (L : FieldLaws F) (δ : A) where
  by_zero : (x : Quad A) → inverse_by F δ x F.𝟘 ≡ embed F F.𝟘
  unfolding inverse_by quartic_product embed
  by_zero x = quad_path
      (solve F L 7 (λ w a b c d n m. a :* (n :* :0) :+ w :* ((:0 :- b) :* :0 :+ c :* ((:0 :- m) :* :0) :+ (:0 :- d) :* :0) := :0) tt δ x.a x.b x.c x.d n m)
      (solve F L 7 (λ w a b c d n m. a :* :0 :+ (:0 :- b) :* (n :* :0) :+ w :* (c :* :0 :+ (:0 :- d) :* ((:0 :- m) :* :0)) := :0) tt δ x.a x.b x.c x.d n m)
      (solve F L 7 (λ w a b c d n m. a :* ((:0 :- m) :* :0) :+ (:0 :- b) :* :0 :+ c :* (n :* :0) :+ w :* ((:0 :- d) :* :0) := :0) tt δ x.a x.b x.c x.d n m)
      (solve F L 6 (λ a b c d n m. a :* :0 :+ (:0 :- b) :* ((:0 :- m) :* :0) :+ c :* :0 :+ (:0 :- d) :* (n :* :0) := :0) tt x.a x.b x.c x.d n m)
    where
      n : A
      n = norm_first F δ x

      m : A
      m = norm_second F δ x

  by_answer : (x : Quad A) (o : Option A) → inverse_by F δ x (found_or F.𝟘 o) ≡ found_or (embed F F.𝟘) (where_found (inverse_by F δ x) o)
  unfolding found_or where_found
  by_answer x none = by_zero x
  by_answer x (some i) = refl

  quartic_before : quartic (zero_for_none F) δ ≡ zero_for_none (quartic F δ)
  unfolding zero_for_none quartic reciprocal where_found embed quartic_product inverse_by norm norm_first norm_second
  quartic_before = λ i. record {
    𝟘 = (quartic F δ).𝟘;
    𝟙 = (quartic F δ).𝟙;
    ◌⊕◌ = (quartic F δ).◌⊕◌;
    ◌⊖◌ = (quartic F δ).◌⊖◌;
    ◌⊗◌ = (quartic F δ).◌⊗◌;
    inverse = λ x. some (by_answer x (F.inverse (norm F δ x)) i);
    equal = (quartic F δ).equal;
  }

-- the field of each number
pub field_before_lem : (field : ℕ) → field_before (spelling_of field) (prime_of field) ≡ zero_for_none (field_in (spelling_of field) (prime_of field))
unfolding field_before field_in prime_of field_of
field_before_lem field =
    spelling_cases (λ σ p. field_before σ p ≡ zero_for_none (field_in σ p)) field (prime_before (prime_of field) (suited field).large)
    (ap (λ (F : Field ℕ). quartic F 11) (prime_before 2013265921 (suited 2).large) ∙ quartic_before (prime_field 2013265921) (laws 2) 11)

pub inverse_before : (field : ℕ) (x : Element (spelling_of field)) →
    (field_before (spelling_of field) (prime_of field)).inverse x ≡ some (found_or (field_in (spelling_of field) (prime_of field)).𝟘 ((field_in (spelling_of field) (prime_of field)).inverse x))
unfolding zero_for_none reciprocal
inverse_before field x = λ i. (field_before_lem field i).inverse x

-- ---- verify and prove over fields that are, on a sheet, the sheet's with 0 for the inverse that is not there

module _ (G : (σ : Spelling) → ℕ → Field (Element σ)) (h : Sheet) (q : G h.spelling h.prime ≡ zero_for_none (sheet_field h)) where
  abbrev F : Field (Element h.spelling)
  F = sheet_field h

  abbrev ω : Element h.spelling
  ω = sheet_root h

  out_at : (k : Kind) (x : Element h.spelling) → out_in_domain_over G h.spelling h k x ≡ out_in_domain h.spelling h k x
  unfolding out_in_domain_over out_in_domain
  out_at message x = refl
  out_at coin x = refl
  out_at (out l) x = (λ i. in_domain (q i) ω l x) ∙ (λ i. in_domain_same F ω i l x)
  out_at (index n) x = refl

  repeated : (ks : List Kind) (xs : List (Element h.spelling)) → repeated_outs (G h.spelling h.prime) none ks xs ≡ repeated_outs F none ks xs
  repeated ks xs = (λ i. repeated_outs (q i) none ks xs) ∙ repeated_outs_same F none ks xs

  out_tests_lem : (from : ℕ) (ks : List Kind) (w : List ℕ) → out_tests_over G h from ks w ≡ out_tests h from ks w
  unfolding out_tests_over out_test_over equal_test_over out_tests out_test equal_test
  out_tests_lem from ks w = λ i.
      refuse_at 7 (first_true from (zip_with (λ k x. out_at k x i) ks (begun_by h.spelling (drop from w))))
      then refuse_at 14 (first_true from (repeated ks (begun_by h.spelling (drop from w)) i))

  prove_tests_lem : (e : Edition) (f coins output : List ℕ) → prove_tests_over G e h f coins output ≡ prove_tests e h f coins output
  unfolding prove_tests_over coin_domain_test_over coin_equal_test_over prove_tests coin_domain_test coin_equal_test
  prove_tests_lem e f coins output = λ i.
      coefficients_test h f then coins_test h coins then input_range_test h (coin_kinds (layout h)) (f ++ coins)
      then refuse_at 7 (first_true 0 (zip_with (λ k x. out_at k x i) (coin_kinds (layout h)) (begun_by h.spelling coins)))
      then refuse_at 14 (first_true 0 (repeated (coin_kinds (layout h)) (begun_by h.spelling coins) i))
      then output_test (block_count (words_due e h)) (512 * block_count (words_due e h)) (length output)

  decided : decide (G h.spelling h.prime) ω ≡ decide F ω
  decided = ap (λ (E : Field (Element h.spelling)). decide E ω) q ∙ decide_same F ω

  honestly : honest (G h.spelling h.prime) ω ≡ honest F ω
  honestly = ap (λ (E : Field (Element h.spelling)). honest E ω) q ∙ honest_same F ω

-- ---- the fields as they were

sheet_before : (e : Edition) (w : List ℕ) → field_before (sheet_of e w).spelling (sheet_of e w).prime ≡ zero_for_none (sheet_field (sheet_of e w))
unfolding sheet_of
sheet_before e w = field_before_lem (get_or w 0 0)

pub deciding_before : (e : Edition) (w : List ℕ) → deciding_over field_before e w ≡ deciding e w
unfolding deciding_over deciding
deciding_before e w = λ i.
    then_verdict (out_tests_lem field_before (sheet_of e w) (sheet_before e w) (sheet_length e) (layout (sheet_of e w)) w i)
    (counted (decided field_before (sheet_of e w) (sheet_before e w) i (first_level (sheet_of e w)) (read_transcript (sheet_of e w).spelling (sheet_of e w) (drop (sheet_length e) w))))

pub verify_before : (e : Edition) (bytes : List ℕ) → verify_over field_before e bytes ≡ verify_in e bytes
unfolding verify_over verify_in
verify_before e bytes = ap (then_verdict (reading e bytes)) (deciding_before e (stream_of bytes))

pub stream_before : (e : Edition) (w f coins : List ℕ) → honest_stream_over field_before e w f coins ≡ honest_stream e w f coins
unfolding honest_stream_over honest_stream
stream_before e w f coins = λ i.
    let h = sheet_of e w in
    w ++ transcript_words h.spelling (honestly field_before h (sheet_before e w) i (first_level h) (elements_in h.spelling f) (read_coins h.spelling h coins))

pub prove_before : (e : Edition) (w f coins output : List ℕ) → prove_over field_before e w f coins output ≡ prove_in e w f coins output
unfolding prove_over prove_in
prove_before e w f coins output = λ i.
    finish (sheet_length_test e w then sheet_test e w then prove_tests_lem field_before (sheet_of e w) (sheet_before e w) e f coins output i)
    (block_count (words_due e (sheet_of e w))) (file_of (stream_before e w f coins i)) output

-- ---- over the definition's own fields the text is the definition's

out_text : (σ : Spelling) (h : Sheet) (k : Kind) (x : Element σ) → out_in_domain_over field_in σ h k x ≡ out_in_domain σ h k x
unfolding out_in_domain_over out_in_domain
out_text σ h message x = refl
out_text σ h coin x = refl
out_text σ h (out l) x = refl
out_text σ h (index n) x = refl

pub verify_text : (e : Edition) (bytes : List ℕ) → verify_over field_in e bytes ≡ verify_in e bytes
unfolding verify_over verify_in deciding_over deciding out_tests_over out_tests out_test_over out_test equal_test_over equal_test
verify_text e bytes = λ i.
    let w = stream_of bytes in
    let h = sheet_of e w in
    then_verdict (reading e bytes)
    (then_verdict (refuse_at 7 (first_true (sheet_length e) (zip_with (λ k x. out_text h.spelling h k x i) (layout h) (begun_by h.spelling (drop (sheet_length e) w)))) then equal_test h (sheet_length e) (layout h) w)
    (counted (decide (sheet_field h) (sheet_root h) (first_level h) (read_transcript h.spelling h (drop (sheet_length e) w)))))

pub prove_text : (e : Edition) (w f coins output : List ℕ) → prove_over field_in e w f coins output ≡ prove_in e w f coins output
unfolding prove_over prove_in prove_tests_over prove_tests coin_domain_test_over coin_domain_test coin_equal_test_over coin_equal_test honest_stream_over honest_stream
prove_text e w f coins output = λ i.
    let h = sheet_of e w in
    finish (sheet_length_test e w then sheet_test e w then coefficients_test h f then coins_test h coins then input_range_test h (coin_kinds (layout h)) (f ++ coins)
    then refuse_at 7 (first_true 0 (zip_with (λ k x. out_text h.spelling h k x i) (coin_kinds (layout h)) (begun_by h.spelling coins))) then coin_equal_test h coins
    then output_test (block_count (words_due e h)) (512 * block_count (words_due e h)) (length output))
    (block_count (words_due e h)) (file_of (honest_stream e w f coins)) output
