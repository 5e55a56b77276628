-- THE BUILDER'S STREAM, READ BACK: the roots, the number of openings and the openings that it holds, whatever stands behind it.
use Prim.Native.Nat.{ℕ, suc, ◌+◌, ◌*◌, ◌≤◌}
use Rattle.std.proofs.Common.{add_assoc, arith, ◌∙◌, drop_at, drop-drop, get_or-drop}
use mathlib.Core.List.{List, ◌∷◌, ◌++◌, append_assoc, map, flat_map, zip_with}
use Rattle.std.specs.Prelude.{◌≡◌, take, replicate}
use Rattle.std.proofs.Math.Path.{sym, ap, ap₂}
use Rattle.std.proofs.Math.ListN.{length, get_or, drop, length-append, length-map}
use Rattle.std.proofs.lemmas.List.{length-replicate}
use Rattle.std.proofs.Math.Seq.{get_or-append_seam, take_at}
use Rattle.definition.specs.Lists.{chunks}
use Rattle.definition.specs.Sheet.{Sheet, first_level, later_levels}
use Rattle.definition.specs.Layout.{layout}
use Rattle.definition.specs.Deciding.{Place}
use Rattle.list_laws.specs.All.{All, all_of_map}
use Rattle.list_laws.specs.Chunks.{chunks_of}
use Rattle.list_laws.specs.Lists.{flat_map_length, flat_map_map}
use Rattle.hash_laws.specs.TwoStoreys.{chunks_front}
use Rattle.openings.specs.Openings.{sheet_words, hash_words, any_word, swap_tables, tables_in, table_words, root_words, opening_layout, number_place, opening_length, opening_count, opening_words_due, openings_in, shut_body, roots_in, table_root}
use Rattle.opening_laws.specs.Swaps.{need, swap_lengths, swapped_tables}
use Rattle.opening_laws.specs.Decided.{root_long}

-- the roots take as many places as their kinds
pub roots_long : (h : Sheet) (body : List ℕ) → length body ≡ length (layout h) → length (swap_tables (table_words h) (table_root h) h body) ≡ length (opening_layout h)
unfolding opening_layout root_words
roots_long h body e = swap_lengths (table_words h) (table_root h) (λ _ _. replicate hash_words any_word) (λ l x y. root_long h l x ∙ sym (length-replicate hash_words any_word)) h body (layout h) e

module _ (h : Sheet) (front body : List ℕ) (D : List Place) (opening : Place → List ℕ) (z : List ℕ)
    (twelve : length front ≡ sheet_words) (long : length body ≡ length (layout h)) (openings : All (λ p. length (opening p) ≡ opening_length h) D) where
  abbrev B : List ℕ
  B = swap_tables (table_words h) (table_root h) h body

  abbrev O : List ℕ
  O = flat_map opening D

  -- the builder's stream, and more behind it
  abbrev x : List ℕ
  x = (front ++ (B ++ (length D ∷ O))) ++ z

  behind_sheet : drop sheet_words x ≡ B ++ (length D ∷ (O ++ z))
  behind_sheet =
      ap (drop sheet_words) (append_assoc front (B ++ (length D ∷ O)) z) ∙ drop_at front ((B ++ (length D ∷ O)) ++ z) sheet_words twelve ∙ append_assoc B (length D ∷ O) z

  pub built_shut : shut_body h x ≡ B
  unfolding shut_body
  built_shut = ap (take (length (opening_layout h))) behind_sheet ∙ take_at B (length D ∷ (O ++ z)) (length (opening_layout h)) (roots_long h body long)

  pub built_roots : need (table_words h) h ≤ length body → roots_in h x ≡ zip_with (table_root h) (first_level h ∷ later_levels h) (tables_in (table_words h) h body)
  unfolding roots_in
  built_roots enough = ap (tables_in root_words h) behind_sheet ∙ swapped_tables (table_words h) root_words (table_root h) (root_long h) h body (length D ∷ (O ++ z)) enough

  pub built_count : opening_count h x ≡ length D
  unfolding opening_count number_place
  built_count =
      sym (get_or-drop sheet_words x (length (opening_layout h)) 0) ∙ ap (λ (v : List ℕ). get_or v (length (opening_layout h)) 0) behind_sheet
      ∙ ap (λ (n : ℕ). get_or (B ++ (length D ∷ (O ++ z))) n 0) (sym (roots_long h body long)) ∙ get_or-append_seam B (length D) (O ++ z) 0

  behind_number : drop (number_place h + 1) x ≡ O ++ z
  unfolding number_place
  behind_number =
      let n = length (opening_layout h) in
      ap (λ (k : ℕ). drop k x) (add_assoc sheet_words n 1) ∙ sym (drop-drop (n + 1) sheet_words x) ∙ ap (drop (n + 1)) behind_sheet
      ∙ sym (drop-drop 1 n (B ++ (length D ∷ (O ++ z)))) ∙ ap (drop 1) (drop_at B (length D ∷ (O ++ z)) n (roots_long h body long))

  pub openings_long : length O ≡ length D * opening_length h
  openings_long = flat_map_length opening (opening_length h) D openings

  pub built_openings : openings_in h x ≡ map opening D
  unfolding openings_in
  built_openings =
      let n = length D in
      let L = opening_length h in
      let xss = map opening D in
      let m : length xss ≡ n = length-map D opening in
      ap₂ (λ (k : ℕ) (v : List ℕ). chunks k L v) built_count behind_number ∙ sym (chunks_front n L (O ++ z))
      ∙ ap (chunks n L) (take_at O z (n * L) openings_long) ∙ ap₂ (λ (k : ℕ) (v : List ℕ). chunks k L v) (sym m) (sym (flat_map_map (λ (o : List ℕ). o) opening D))
      ∙ chunks_of L xss (all_of_map (λ (o : List ℕ). length o ≡ L) opening D openings)

  pub built_long : length (front ++ (B ++ (length D ∷ O))) ≡ opening_words_due h x
  unfolding opening_words_due number_place
  built_long =
      let a : length (front ++ (B ++ (length D ∷ O))) ≡ length front + length (B ++ (length D ∷ O)) = length-append front (B ++ (length D ∷ O)) in
      let b : length (B ++ (length D ∷ O)) ≡ length B + suc (length O) = length-append B (length D ∷ O) in
      let c : opening_count h x * opening_length h ≡ length O = ap (λ (k : ℕ). k * opening_length h) built_count ∙ sym openings_long in
      omega (arith, a, b, c, twelve, roots_long h body long)
