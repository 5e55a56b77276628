-- Deciding: refusals 7, 14, 8 and 9, and the reads (01, Verify, prove, encode; 02, CR 6, 8 and 11; 000, Construction 5.2, decision phase).
use Rattle.std.specs.Prelude.{ℕ, suc, Bool, false, not, cond, ◌&&◌, eqb, length, get_or, take, drop}
use mathlib.Core.List.{List, [], ◌∷◌, ◌++◌, map, flat_map, zip_with}
use Rattle.std.proofs.Math.Option.{Option, none, some}
use Rattle.definition.specs.Lists.{different, first_true}
use Rattle.definition.specs.Field.{Field, Spelling, Element, field_in, number_in, begun_by}
use Rattle.definition.specs.Sheet.{Edition, Sheet, Level, sheet_of, sheet_length, first_level, root_of_unity}
use Rattle.definition.specs.Polynomial.{Sample, pair, evaluate, clash, distinct, corrected_value}
use Rattle.definition.specs.Domain.{point, in_domain, shift_point, fold_at, root_numbers}
use Rattle.definition.specs.Transcript.{Round, Rest, final, round, Transcript}
use Rattle.definition.specs.Layout.{Kind, message, coin, out, index, layout, read_transcript}
use Rattle.definition.specs.Verdict.{Outcome, refused, Verdict, refuse_at, ◌then◌, then_verdict}

-- The tests of out coins go by words: the element x is the one that a word of a kind begins, and counts where that word is the first of an out coin.

-- is x an out coin of round i that lies in domain i?
unfoldable pub out_in_domain : (σ : Spelling) → Sheet → Kind → Element σ → Bool
out_in_domain σ h message x = false
out_in_domain σ h coin x = false
out_in_domain σ h (out l) x = in_domain (field_in σ h.prime) (number_in σ (root_of_unity h)) l x
out_in_domain σ h (index n) x = false

-- 7: of the words from a number on, whose kinds are given, an out coin of round i that lies in domain i, at the word number of the first
unfoldable pub out_test : Sheet → ℕ → List Kind → List ℕ → Outcome
out_test h from kinds w =
    let σ = h.spelling in
    refuse_at 7 (first_true from (zip_with (out_in_domain σ h) kinds (begun_by σ (drop from w))))

-- the out coin before the next word, after a word of a kind that begins x: a round's out coins end at a message or an index
unfoldable pub out_before : {A : Type 0} → Option A → Kind → A → Option A
out_before before message x = none
out_before before coin x = before
out_before before (out l) x = some x
out_before before (index n) x = none

module _ {A : Type 0} (F : Field A) where
  -- is x equal to the out coin before it, if there is one?
  unfoldable pub same_as : Option A → A → Bool
  same_as none x = false
  same_as (some y) x = F.equal x y

  -- is x an out coin equal to the one before it in its round, if there is one?
  unfoldable pub out_repeated : Option A → Kind → A → Bool
  out_repeated before message x = false
  out_repeated before coin x = false
  out_repeated before (out l) x = same_as before x
  out_repeated before (index n) x = false

  -- this, of each word
  unfoldable pub repeated_outs : Option A → List Kind → List A → List Bool
  repeated_outs before [] xs = []
  repeated_outs before (k ∷ ks) [] = []
  repeated_outs before (k ∷ ks) (x ∷ xs) = out_repeated before k x ∷ repeated_outs (out_before before k x) ks xs

-- 14: of the words from a number on, whose kinds are given, the second of two equal out coins of a round, at the word number of the first such
unfoldable pub equal_test : Sheet → ℕ → List Kind → List ℕ → Outcome
equal_test h from kinds w =
    let σ = h.spelling in
    refuse_at 14 (first_true from (repeated_outs (field_in σ h.prime) none kinds (begun_by σ (drop from w))))

-- the tests of out coins: 7 in all rounds, then 14, before any test 8
unfoldable pub out_tests : Sheet → ℕ → List Kind → List ℕ → Outcome
out_tests h from kinds w = out_test h from kinds w then equal_test h from kinds w

-- A place: the table's number and the point's.
pub record Place : Type 0 where
  pub table : ℕ
  pub number : ℕ

-- A function on a domain: its value at each point number, and the table places that one value is worked out from.
-- In the literature: a virtual oracle.
pub record Function (A : Type 0) : Type 0 where
  pub value : ℕ → A
  pub places : ℕ → List Place

-- one place, of the level's own table
unfoldable pub own_place : Level → ℕ → List Place
own_place l j = record { table = l.number; number = j } ∷ []

-- the places that a shift or final coin leads to: those of its k roots
unfoldable pub coin_places : Level → (ℕ → List Place) → ℕ → List Place
coin_places l places j = flat_map places (root_numbers l j)

-- those of several coins, in their order
unfoldable pub places_of : Level → (ℕ → List Place) → List ℕ → List Place
places_of l places js = flat_map (coin_places l places) js

unfoldable pub same_place : Place → Place → Bool
same_place a b = eqb a.table b.table && eqb a.number b.number

-- the reads: the different places among those used (02, CR 8)
-- In the literature: the positions of the oracles that are opened.
unfoldable pub reads_of : List Place → ℕ
reads_of used = length (different same_place used)

-- What deciding comes to: an outcome, and the places used by the coins treated, in their order.
pub record Decision : Type 0 where
  pub outcome : Outcome
  pub used : List Place

-- its verdict: the places used are counted
unfoldable pub counted : Decision → Verdict
counted d = record { outcome = d.outcome; reads = reads_of d.used }

-- the final coins treated: all, or up to and with the failing one
unfoldable pub treated : List ℕ → Option ℕ → List ℕ
treated js none = js
treated js (some failing) = take (suc failing) js

module _ {A : Type 0} (F : Field A) (ω : A) where
  open F use {𝟘, equal}

  -- G_i's list: the out coins with their replies, then the shift points of the level b before, with the fold of f_(i-1) by fold coin r
  -- In the literature: the set G_i with the function Ans_i on it.
  unfoldable pub answers : Level → (ℕ → A) → A → Round A → List (Sample A)
  answers b f r ρ =
      pair ρ.coins.outs ρ.replies
      ++ map (λ j. record { point = shift_point F ω b j; value = fold_at F ω b f r j }) ρ.coins.shifts

  -- f_0: table 0
  unfoldable pub table_function : Level → List A → Function A
  table_function l table = record { value = λ j. get_or table j 𝟘; places = own_place l }

  -- f_i: at point j of domain i, from the table g_i sent and the samples G_i
  unfoldable pub next_function : List (Sample A) → Round A → Function A
  next_function g ρ = record {
    value = λ j. corrected_value F g ρ.coins.combination (point F ω ρ.coins.level j) (get_or ρ.table j 𝟘);
    places = own_place ρ.coins.level;
  }

  -- for each final index: does the final polynomial differ there from the fold of f_M?
  unfoldable pub differences : Level → (ℕ → A) → A → List A → List ℕ → List Bool
  differences b f r coefficients js = map (λ j. not (equal (evaluate F coefficients (shift_point F ω b j)) (fold_at F ω b f r j))) js

  -- 9: the final coefficient polynomial differs, at the position of the first such final index
  unfoldable pub decide_final : Level → Function A → A → List Place → List A → List ℕ → Decision
  decide_final b f r used coefficients js =
      let fault = first_true 0 (differences b f.value r coefficients js) in
      record { outcome = refuse_at 9 fault; used = used ++ places_of b f.places (treated js fault) }

  -- 8: in the first such round i, two equal points of G_i's list have different values; the place is i.
  -- After level b, with f on its domain, fold coin r and the places used so far.
  unfoldable pub decide_rest : Level → Function A → A → List Place → Rest A → Decision
  decide_rest b f r used (final coefficients js) = decide_final b f r used coefficients js
  decide_rest b f r used (round ρ rest) =
      let g = answers b f.value r ρ in
      let now = used ++ places_of b f.places ρ.coins.shifts in
      let clashed : Decision = record { outcome = refused 8 ρ.coins.level.number; used = now } in
      let next = decide_rest ρ.coins.level (next_function (distinct F g) ρ) ρ.coins.fold now rest in
      cond (clash F g) clashed next

  -- from table 0 on, nothing used yet
  unfoldable pub decide : Level → Transcript A → Decision
  decide first τ = decide_rest first (table_function first τ.table) τ.fold [] τ.rest

-- Deciding, of a stream that passes reading.
unfoldable pub deciding : Edition → List ℕ → Verdict
deciding e w =
    let h = sheet_of e w in
    let σ = h.spelling in
    then_verdict (out_tests h (sheet_length e) (layout h) w)
    (counted (decide (field_in σ h.prime) (number_in σ (root_of_unity h)) (first_level h) (read_transcript σ h (drop (sheet_length e) w))))
