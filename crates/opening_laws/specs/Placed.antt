-- THE PLACES DUE of a stream laid out by its sheet, each with the level and the table that its number names; and the tables of the opened entries fit.
use Rattle.std.specs.Prelude.{ℕ, suc, ◌+◌, ◌-◌, ◌*◌, ◌^◌, ◌≤◌, ◌<◌, Bool, ◌≡◌, length, get_or, take}
use Rattle.std.proofs.Common.{add_assoc, arith, sym, ◌∙◌}
use Rattle.std.proofs.Math.Bool.{true, false, cond}
use mathlib.Core.List.{List, [], ◌∷◌, map}
use Rattle.std.proofs.Math.Path.{ap, ap₂, subst}
use Rattle.std.proofs.Math.ListN.{drop}
use Rattle.std.proofs.Math.Seq.{drop-drop}
use Rattle.definition.specs.Lists.{range}
use Rattle.definition.specs.Field.{Spelling, Element, Field, field_in, number_in, word_count, elements_in}
use Rattle.definition.specs.Sheet.{Sheet, Level, first_level, later_levels, root_of_unity}
use Rattle.definition.specs.Transcript.{Rest, final, round}
use Rattle.definition.specs.Layout.{later_count, round_coins, read_rest}
use Rattle.definition.specs.Deciding.{Place}
use Rattle.list_laws.specs.All.{All, all_append, all_flat, all_map, all_of_map, all_range}
use Rattle.openings.specs.Openings.{entry_words, height_of, beside_table, place_in, entry_in, opened_table, reached, due_at, due_rest, opening_of, opening_at, opening_length}
use Rattle.opening_laws.specs.Locality.{AgreeAt, indices}
use Rattle.opening_laws.specs.Opened.{Fitting}
use Rattle.opening_laws.specs.Lookups.{Among, among_left, among_right}
use Rattle.opening_laws.specs.Fitted.{table_long, tables_agree}
use Rattle.opening_laws.specs.Paths.{entry_words_lem, opening_entry, opening_long}

module _ (h : Sheet) (tables : List (List ℕ)) where
  abbrev σ : Spelling
  σ = h.spelling

  abbrev levels : List Level
  levels = first_level h ∷ later_levels h

  -- level l and table t have number i
  pub record PlacedAt (i : ℕ) (l : Level) (t : List ℕ) : Type 0 where
    pub within : i < length levels
    pub level : get_or levels i (first_level h) ≡ l
    pub table : get_or tables i [] ≡ t
    pub number : l.number ≡ i
    pub long : length t ≡ entry_words h * l.size
    pub low : l.number ≤ height_of h
    pub tall : l.size ≡ 2 ^ (height_of h - l.number)

  -- a place of the level and the table that its number names
  pub record Good (p : Place) : Type 0 where
    pub l : Level
    pub t : List ℕ
    pub at : PlacedAt p.table l t
    pub inside : p.number < l.size

  module _ (p : Place) (g : Good p) where
    pub good_opening : opening_at h tables p ≡ opening_of h g.l g.t p.number
    unfolding opening_at
    good_opening = ap₂ (λ l t. opening_of h l t p.number) g.at.level g.at.table

    here : place_in (opening_of h g.l g.t p.number) ≡ p
    unfolding place_in opening_of
    here = λ i. record { table = g.at.number i; number = p.number }

    pub good_place : place_in (opening_at h tables p) ≡ p
    good_place = ap place_in good_opening ∙ here

    pub good_entry : length (entry_in h (opening_at h tables p)) ≡ entry_words h
    good_entry =
        ap (λ (o : List ℕ). length (entry_in h o)) good_opening ∙ ap length (opening_entry h g.l g.t p.number g.at.long g.inside)
        ∙ entry_words_lem h g.l g.t p.number g.at.long g.inside

    pub good_long : length (opening_at h tables p) ≡ opening_length h
    good_long = ap length good_opening ∙ opening_long h g.l g.t p.number g.at.long g.inside g.at.low

  -- the words of a level's table
  abbrev size : Level → ℕ
  size l = word_count σ l.size

  -- the levels from number i on, with the tables that the words hold
  unfoldable pub Laid : ℕ → ℕ → Level → List Level → List ℕ → Type 0
  Laid i s b [] w = Unit {0}
  Laid i s b (l ∷ ls) w = PlacedAt i l (take (size l) w) × Laid (suc i) s l ls (drop (size l + beside_table σ s b) w)

  -- the words behind a round
  behind_is : (s : ℕ) (b l : Level) (w : List ℕ) → drop (later_count σ b) (drop (word_count σ s) (drop (word_count σ s) (drop (size l) w))) ≡ drop (size l + beside_table σ s b) w
  unfolding beside_table
  behind_is s b l w =
      let o = word_count σ s in
      let x = drop (size l) w in
      ap (drop (later_count σ b)) (drop-drop o o x) ∙ drop-drop (later_count σ b) (o + o) x ∙ drop-drop (o + o + later_count σ b) (size l) w
      ∙ ap (λ (k : ℕ). drop (size l + k) w) (add_assoc o o (later_count σ b))

  -- the places of a level
  level_good : (i : ℕ) (l : Level) (t js : List ℕ) → PlacedAt i l t → All Good (due_at l js)
  unfolding due_at
  level_good i l t js a =
      all_flat Good (λ m. cond (reached l js m) (record { table = l.number; number = m } ∷ []) []) (range 0 l.size)
      (all_range (λ m. All Good (cond (reached l js m) (record { table = l.number; number = m } ∷ []) [])) 0 l.size (λ m _ b. one_good (reached l js m) m (omega arith)))
    where
      one_good : (c : Bool) (m : ℕ) → m < l.size → All Good (cond c (record { table = l.number; number = m } ∷ []) [])
      one_good true m b = (record { l = l; t = t; at = subst (λ (k : ℕ). PlacedAt k l t) (sym a.number) a; inside = b }, tt)
      one_good false m b = tt

  pub due_good : (i s : ℕ) (b : Level) (t : List ℕ) (ls : List Level) (w : List ℕ) → PlacedAt i b t → Laid (suc i) s b ls w → All Good (due_rest b (read_rest σ s b ls w))
  unfolding due_rest read_rest Laid round_coins
  due_good i s b t [] w a p = level_good i b t _ a
  due_good i s b t (l ∷ ls) w a p =
      all_append Good (due_at b _) _ (level_good i b t _ a)
      (due_good (suc i) s l (take (size l) w) ls _ p.0 (subst (λ (x : List ℕ). Laid (suc (suc i)) s l ls x) (sym (behind_is s b l w)) p.1))

  -- the first places of a rest
  due_first : {A : Type 0} (F : Field A) (ω : A) (p : Place) (l : Level) (x : Rest A) → Among p (due_at l (indices F ω x)) → Among p (due_rest l x)
  unfolding due_rest indices
  due_first F ω p l (final c js) a = a
  due_first F ω p l (round ρ x) a = among_left p (due_at l ρ.coins.shifts) (due_rest ρ.coins.level x) a

  -- THE TABLES OF THE OPENED ENTRIES FIT, where the openings are those of places D that all places due are among.
  module _ (D : List Place) (good : All Good D) where
    abbrev opening : Place → List ℕ
    opening = opening_at h tables

    own : All (λ q. place_in (opening q) ≡ q) D
    own = all_map D good (λ q g. good_place q g)

    pub entries : All (λ o. length (entry_in h o) ≡ entry_words h) (map opening D)
    entries = all_of_map (λ o. length (entry_in h o) ≡ entry_words h) opening D (all_map D good (λ q g. good_entry q g))

    unfoldable pub new_table : Level → List ℕ
    new_table l = opened_table h (map opening D) l

    pub new_fits : (l : Level) → length (new_table l) ≡ word_count h.spelling l.size
    unfolding new_table
    new_fits l = table_long h (map opening D) entries l

    abbrev F : Field (Element h.spelling)
    F = field_in h.spelling h.prime

    abbrev ω : Element h.spelling
    ω = number_in h.spelling (root_of_unity h)

    pub level_fits : (i : ℕ) (l : Level) (t : List ℕ) (x : Rest (Element h.spelling)) → PlacedAt i l t → ((p : Place) → Among p (due_rest l x) → Among p D)
        → AgreeAt F ω l (λ m. get_or (elements_in σ t) m F.𝟘) (λ m. get_or (elements_in σ (new_table l)) m F.𝟘) (indices F ω x)
    unfolding new_table
    level_fits i l t x a among =
        tables_agree h opening D own entries ω l t (indices F ω x) a.long
        (λ m b. good_opening (record { table = l.number; number = m }) (record { l = l; t = t; at = subst (λ (k : ℕ). PlacedAt k l t) (sym a.number) a; inside = b }))
        (λ p c. among p (due_first F ω p l x c))

    pub rest_fits : (i s : ℕ) (b : Level) (ls : List Level) (w : List ℕ) → Laid i s b ls w → ((p : Place) → Among p (due_rest b (read_rest σ s b ls w)) → Among p D)
        → Fitting σ h.prime ω new_table new_fits (read_rest σ s b ls w)
    unfolding read_rest Laid Fitting due_rest round_coins
    rest_fits i s b [] w p among = tt
    rest_fits i s b (l ∷ ls) w p among =
        let deeper : (q : Place) → Among q (due_rest l (read_rest σ s l ls (drop (later_count σ b) (drop (word_count σ s) (drop (word_count σ s) (drop (size l) w)))))) → Among q D =
        λ q c. among q (among_right q (due_at b _) _ c) in (
          level_fits i l (take (size l) w) _ p.0 deeper,
          rest_fits (suc i) s l ls _ (subst (λ (x : List ℕ). Laid (suc i) s l ls x) (sym (behind_is s b l w)) p.1) deeper,
        )
