-- THE TABLES OF THE OPENED ENTRIES agree with the full tables at the places due.
use Rattle.std.specs.Prelude.{ℕ, ◌*◌, ◌≤◌, ◌<◌, Bool, true, false, cond, ◌≡◌, refl, drop}
use Rattle.std.proofs.Common.{add-zero, zero-add, arith, ◌∙◌}
use Rattle.std.proofs.Math.Nat.{mul_comm}
use Rattle.std.proofs.Math.Logic.{⊎_elim}
use mathlib.Core.List.{List, [], ◌∷◌, map, flat_map}
use Rattle.std.proofs.Math.Path.{sym, ap}
use Rattle.std.proofs.Math.ListN.{length, get_or, take, length-map, get_or-eq_default}
use Rattle.std.proofs.lemmas.List.{length-replicate}
use Rattle.definition.specs.Lists.{range}
use Rattle.definition.specs.Field.{Spelling, one, four, Element, prime_field, embed, quartic, field_in, number_in, word_count, elements_in}
use Rattle.definition.specs.Sheet.{Sheet, Level}
use Rattle.definition.specs.Domain.{root_numbers}
use Rattle.definition.specs.Deciding.{Place, same_place}
use Rattle.list_laws.specs.All.{All, all_map, all_of_map, everywhere}
use Rattle.list_laws.specs.Chunks.{chunks_at, chunks_of}
use Rattle.list_laws.specs.Lists.{flat_map_length, flat_map_map, get_d_map_range, range_length}
use Rattle.layouts.specs.Levels.{element_at}
use Rattle.layouts.specs.Spellings.{at_drop, at_take, count_times, read_at_lem, read_length}
use Rattle.openings.specs.Openings.{entry_words, place_in, entry_in, opened_entry, opened_table, reached, due_at, opening_of}
use Rattle.hash_laws.specs.TreeLaws.{lt_or_le}
use Rattle.opening_laws.specs.Locality.{AgreeAt}
use Rattle.opening_laws.specs.Lookups.{Among, due_at_lem, entry_found, roots_reached}
use Rattle.opening_laws.specs.Paths.{opening_entry}

-- the zero of a field
pub zero_is : (σ : Spelling) (p : ℕ) → (field_in σ p).𝟘 ≡ number_in σ 0
unfolding field_in number_in prime_field quartic embed
zero_is one p = refl
zero_is four p = refl

-- element m, by its own words
pub element_of : (σ : Spelling) (w : List ℕ) (m : ℕ) → get_or (elements_in σ w) m (number_in σ 0) ≡ element_at σ (take (word_count σ 1) (drop (word_count σ 1 * m) w)) 0
element_of σ w m =
    read_at_lem σ w m ∙ ap (element_at σ w) (count_times σ m ∙ sym (add-zero (word_count σ 1 * m))) ∙ sym (at_drop σ w (word_count σ 1 * m) 0)
    ∙ sym (at_take σ (drop (word_count σ 1 * m) w) (word_count σ 1) 0 (omega arith))

pick : (n : ℕ) (x y : List ℕ) (b : Bool) → length x ≡ n → length y ≡ n → length (cond b x y) ≡ n
pick n x y true e k = e
pick n x y false e k = k

entry_long : (h : Sheet) (os : List (List ℕ)) (p : Place) → All (λ o. length (entry_in h o) ≡ entry_words h) os → length (opened_entry h os p) ≡ entry_words h
unfolding opened_entry
entry_long h [] p k = length-replicate (entry_words h) 0
entry_long h (o ∷ os) p k = pick (entry_words h) (entry_in h o) (opened_entry h os p) (same_place (place_in o) p) k.0 (entry_long h os p k.1)

-- a table of opened entries: its length, and its entries
module _ (h : Sheet) (os : List (List ℕ)) (entries : All (λ o. length (entry_in h o) ≡ entry_words h) os) (l : Level) where
  abbrev entry_at : ℕ → List ℕ
  entry_at m = opened_entry h os (record { table = l.number; number = m })

  pub table_long : length (opened_table h os l) ≡ word_count h.spelling l.size
  unfolding opened_table entry_words
  table_long =
      flat_map_length entry_at (entry_words h) (range 0 l.size) (everywhere (range 0 l.size) (λ m. entry_long h os (record { table = l.number; number = m }) entries))
      ∙ ap (λ (n : ℕ). n * entry_words h) (range_length 0 l.size) ∙ mul_comm l.size (entry_words h) ∙ sym (count_times h.spelling l.size)

  pub table_part : (m : ℕ) → m < l.size → take (entry_words h) (drop (entry_words h * m) (opened_table h os l)) ≡ opened_entry h os (record { table = l.number; number = m })
  unfolding opened_table
  table_part m b =
      let e = entry_words h in
      let xss = map entry_at (range 0 l.size) in
      let n : length xss ≡ l.size = length-map (range 0 l.size) entry_at ∙ range_length 0 l.size in
      let k : All (λ x. length x ≡ e) xss = all_of_map (λ x. length x ≡ e) entry_at (range 0 l.size) (everywhere (range 0 l.size) (λ i. entry_long h os (record { table = l.number; number = i }) entries)) in
      let f : flat_map entry_at (range 0 l.size) ≡ flat_map (λ x. x) xss = sym (flat_map_map (λ x. x) entry_at (range 0 l.size)) in
      ap (λ (x : List ℕ). take e (drop (e * m) x)) f ∙ sym (chunks_at (length xss) e (flat_map (λ x. x) xss) m (omega (arith, n)))
      ∙ ap (λ (x : List (List ℕ)). get_or x m []) (chunks_of e xss k) ∙ get_d_map_range entry_at [] 0 l.size m b ∙ ap entry_at (zero-add m)

-- The openings of the places D, each with its own place. At each place of a level's full table t that its coins lead to, the table of opened entries agrees with t.
module _ (h : Sheet) (opening : Place → List ℕ) (D : List Place) (own : All (λ q. place_in (opening q) ≡ q) D) (entries : All (λ o. length (entry_in h o) ≡ entry_words h) (map opening D))
    (ω : Element h.spelling) (l : Level) (t : List ℕ) (js : List ℕ) (long : length t ≡ entry_words h * l.size)
    (is : (m : ℕ) → m < l.size → opening (record { table = l.number; number = m }) ≡ opening_of h l t m) (among : (p : Place) → Among p (due_at l js) → Among p D) where
  abbrev σ : Spelling
  σ = h.spelling

  abbrev new : List ℕ
  new = opened_table h (map opening D) l

  in_table : (m : ℕ) → m < l.size → reached l js m ≡ true → take (entry_words h) (drop (entry_words h * m) t) ≡ take (entry_words h) (drop (entry_words h * m) new)
  in_table m b r =
      let p : Place = record { table = l.number; number = m } in
      sym (table_part h (map opening D) entries l m b ∙ entry_found h opening D p own (among p (due_at_lem l js m b r)) ∙ ap (entry_in h) (is m b) ∙ opening_entry h l t m long b)

  past : (w : List ℕ) (m : ℕ) → length w ≡ word_count σ l.size → l.size ≤ m → get_or (elements_in σ w) m (number_in σ 0) ≡ number_in σ 0
  past w m e b = get_or-eq_default (elements_in σ w) (number_in σ 0) (omega (arith, read_length σ l.size w e))

  same_entry : (m : ℕ) → reached l js m ≡ true → get_or (elements_in σ t) m (number_in σ 0) ≡ get_or (elements_in σ new) m (number_in σ 0)
  unfolding entry_words
  same_entry m r =
      ⊎_elim (λ b. element_of σ t m ∙ ap (λ (x : List ℕ). element_at σ x 0) (in_table m b r) ∙ sym (element_of σ new m))
      (λ b. past t m (long ∙ sym (count_times σ l.size)) b ∙ sym (past new m (table_long h (map opening D) entries l) b)) (lt_or_le m l.size)

  pub tables_agree : AgreeAt (field_in σ h.prime) ω l (λ m. get_or (elements_in σ t) m (field_in σ h.prime).𝟘) (λ m. get_or (elements_in σ new) m (field_in σ h.prime).𝟘) js
  tables_agree =
      all_map js (roots_reached l js) (λ j a. all_map (root_numbers l j) a
      (λ m r. ap (get_or (elements_in σ t) m) (zero_is σ h.prime) ∙ same_entry m r ∙ sym (ap (get_or (elements_in σ new) m) (zero_is σ h.prime))))
