-- THE WORDS OF THE BUILDER'S OPENINGS: in range, of 32 bits, and zero where a node is unused.
use Prim.Native.Nat.{ℕ, zero, suc, ◌+◌, ◌-◌, ◌*◌, ◌≤◌, ◌<◌}
use Rattle.std.proofs.Common.{arith, sym, ◌∙◌, subst, lit<, drop_of_length-le, drop-drop, take-take}
use Rattle.std.specs.Prelude.{Bool, ◌≡◌, refl, eqb, ltb, get_or, take, drop}
use Rattle.std.proofs.Math.Bool.{true, false, not, cond}
use mathlib.Core.List.{List, [], ◌∷◌, ◌++◌, append_assoc, map, flat_map}
use Rattle.std.proofs.Math.Path.{ap}
use Rattle.std.proofs.Math.ListN.{length, replicate, length-append, length-replicate}
use Rattle.std.proofs.Math.Seq.{drop_at}
use Rattle.definition.specs.Field.{Spelling, word_count}
use Rattle.definition.specs.Sheet.{Sheet, Level, first_level, later_levels}
use Rattle.definition.specs.Layout.{Kind, message, coin, layout, rest_layout, round_layout}
use Rattle.hashing.specs.Tree.{path_of}
use Rattle.hash_laws.specs.TreeLaws.{path_length}
use Rattle.list_laws.specs.All.{All, all_append, all_drop, all_flat, all_map, all_replicate, all_take}
use Rattle.layouts.specs.EachWord.{Each, each_append_at, each_join, each_replicate, each_same}
use Rattle.layouts.proofs.LayoutFacts.{round_length}
use Rattle.openings.specs.Openings.{entry_words, hash_words, any_word, height_of, beside_table, rest_tables, tables_in, table_words, words_in, leaves_of, opening_of, opening_kinds, opening_length, place_in, unused_nodes, stray_words}
use Rattle.opening_laws.specs.Paths.{entry_words_lem, nodes_length, opening_long}
use Rattle.opening_laws.specs.Ranges.{Fine, any_fine, leaves_bytes, path_bytes, words_small}

-- ---- the words of the tables of a stream whose words are in range

whole_round : (σ : Spelling) (s : ℕ) (b l : Level) → length (round_layout σ s b l) ≡ word_count σ l.size + beside_table σ s b
unfolding beside_table
whole_round σ s b l = round_length σ s b l

first_part : (R : Kind → ℕ → Type 0) (σ : Spelling) (s : ℕ) (b l : Level) (w : List ℕ) → Each R (round_layout σ s b l) (take (word_count σ l.size + beside_table σ s b) w)
    → All (R message) (take (word_count σ l.size) w)
unfolding round_layout
first_part R σ s b l w e =
    let n = word_count σ l.size in
    let p = each_append_at R n (replicate n message) _ (take (n + beside_table σ s b) w) (length-replicate n message) e in
    subst (All (R message)) (take-take n (n + beside_table σ s b) w (omega arith)) (each_replicate R n message (take n (take (n + beside_table σ s b) w)) p.0).1

rest_tables_small : (R : Kind → ℕ → Type 0) (σ : Spelling) (s : ℕ) (b : Level) (ls : List Level) (w : List ℕ) → Each R (rest_layout σ s b ls) w
    → All (All (R message)) (rest_tables (λ l. word_count σ l.size) σ s b ls w)
unfolding rest_layout rest_tables
rest_tables_small R σ s b [] w h = tt
rest_tables_small R σ s b (l ∷ ls) w h =
    let n = word_count σ l.size + beside_table σ s b in
    let p = each_append_at R n (round_layout σ s b l) (rest_layout σ s l ls) w (whole_round σ s b l) h in
    (first_part R σ s b l w p.0, rest_tables_small R σ s l ls (drop n w) p.1)

pub tables_small : (R : Kind → ℕ → Type 0) (h : Sheet) (w : List ℕ) → Each R (layout h) w → All (All (R message)) (tables_in (table_words h) h w)
unfolding layout tables_in table_words entry_words first_level
tables_small R h w e =
    let σ = h.spelling in
    let n = word_count σ h.size in
    let o = word_count σ 1 in
    let p = each_append_at R n (replicate n message) _ w (length-replicate n message) e in
    let q = each_append_at R o (replicate o coin) _ (drop n w) (length-replicate o coin) p.1 in (
      (each_replicate R n message (take n w) p.0).1,
      subst (λ (x : List ℕ). All (All (R message)) (rest_tables (λ l. word_count σ l.size) σ h.out_coins (first_level h) (later_levels h) x)) (drop-drop o n w)
          (rest_tables_small R σ h.out_coins (first_level h) (later_levels h) (drop o (drop n w)) q.1),
    )

pub table_small : (P : ℕ → Type 0) (ts : List (List ℕ)) (i : ℕ) → All (All P) ts → All P (get_or ts i [])
table_small P [] zero a = tt
table_small P [] (suc i) a = tt
table_small P (t ∷ ts) zero a = a.0
table_small P (t ∷ ts) (suc i) a = table_small P ts i a.1

-- ---- an opening

pub zeros_none : (n : ℕ) → All (λ (b : Bool). b ≡ false) (map (λ x. not (eqb x 0)) (replicate n 0))
zeros_none zero = tt
zeros_none (suc n) = (refl, zeros_none n)

module _ (h : Sheet) (l : Level) (t : List ℕ) (m : ℕ) (long : length t ≡ entry_words h * l.size) (inside : m < l.size) (low : l.number ≤ height_of h) where
  abbrev path : List (List ℕ)
  path = path_of (height_of h - l.number) (leaves_of h l t) m

  abbrev entry : List ℕ
  entry = take (entry_words h) (drop (entry_words h * m) t)

  nodes_long : length (flat_map words_in path) ≡ hash_words * (height_of h - l.number)
  nodes_long = nodes_length path ∙ ap (λ (n : ℕ). hash_words * n) (path_length (height_of h - l.number) (leaves_of h l t) m)

  -- each of its words is in range
  pub opening_each : All (Fine h message) t → l.number < 4294967296 → m < 4294967296 → Each (Fine h) (opening_kinds h) (opening_of h l t m)
  unfolding opening_kinds opening_of
  opening_each small a b =
      let zs : List ℕ = replicate (hash_words * l.number) 0 in
      let zn : length zs ≡ hash_words * l.number = length-replicate (hash_words * l.number) 0 in
      let n : length (flat_map words_in path ++ zs) ≡ hash_words * height_of h = length-append (flat_map words_in path) zs ∙ omega (arith, nodes_long, zn) in
      let words : All (λ x. x < 4294967296) (flat_map words_in path) =
      all_flat (λ x. x < 4294967296) words_in path (all_map path (path_bytes (height_of h - l.number) (leaves_of h l t) m (leaves_bytes h l t)) words_small) in
      let all : All (Fine h any_word) (flat_map words_in path ++ zs) =
      all_append (Fine h any_word) (flat_map words_in path) zs (all_map (flat_map words_in path) words (any_fine h)) (all_replicate (Fine h any_word) (hash_words * l.number) 0 (any_fine h 0 (lit< tt))) in (
        any_fine h l.number a,
        (
          any_fine h m b,
          each_join (Fine h) (replicate (entry_words h) message) (replicate (hash_words * height_of h) any_word) entry (flat_map words_in path ++ zs)
              (each_same (Fine h) (entry_words h) message entry (entry_words_lem h l t m long inside) (all_take (Fine h message) (entry_words h) _ (all_drop (Fine h message) (entry_words h * m) t small)))
              (each_same (Fine h) (hash_words * height_of h) any_word (flat_map words_in path ++ zs) n all),
        ),
      )

  -- and its unused nodes are zero
  front : List ℕ
  front = l.number ∷ m ∷ (entry ++ flat_map words_in path)

  split : opening_of h l t m ≡ front ++ replicate (hash_words * l.number) 0
  unfolding opening_of front
  split = ap (λ (x : List ℕ). l.number ∷ m ∷ x) (sym (append_assoc entry (flat_map words_in path) (replicate (hash_words * l.number) 0)))

  front_long : length front ≡ opening_length h - hash_words * l.number
  unfolding front opening_length
  front_long = let a = length-append entry (flat_map words_in path) in omega (arith, a, nodes_long, entry_words_lem h l t m long inside)

  pub opening_strays : All (λ (b : Bool). b ≡ false) (stray_words h (opening_of h l t m))
  unfolding stray_words unused_nodes place_in opening_of
  opening_strays = go (ltb l.number (length h.folds))
    where
      go : (c : Bool) → All (λ (b : Bool). b ≡ false) (replicate (opening_length h - hash_words * cond c l.number 0) false
          ++ map (λ x. not (eqb x 0)) (drop (opening_length h - hash_words * cond c l.number 0) (opening_of h l t m)))
      go true =
          all_append (λ (b : Bool). b ≡ false) (replicate (opening_length h - hash_words * l.number) false) _ (all_replicate (λ (b : Bool). b ≡ false) (opening_length h - hash_words * l.number) false refl)
          (subst (λ (x : List ℕ). All (λ (b : Bool). b ≡ false) (map (λ y. not (eqb y 0)) x))
          (sym (ap (drop (opening_length h - hash_words * l.number)) split ∙ drop_at front (replicate (hash_words * l.number) 0) (opening_length h - hash_words * l.number) front_long)) (zeros_none (hash_words * l.number)))
      go false =
          all_append (λ (b : Bool). b ≡ false) (replicate (opening_length h - hash_words * 0) false) _ (all_replicate (λ (b : Bool). b ≡ false) (opening_length h - hash_words * 0) false refl)
          (subst (λ (x : List ℕ). All (λ (b : Bool). b ≡ false) (map (λ y. not (eqb y 0)) x))
          (sym (drop_of_length-le (opening_of h l t m) {i = opening_length h - hash_words * 0} (omega (arith, opening_long h l t m long inside low)))) tt)
