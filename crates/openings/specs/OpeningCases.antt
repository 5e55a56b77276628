-- Cases of opening files, by computation; the words are those of an independent program.
use Rattle.std.specs.Prelude.{◌≡◌, refl, ℕ, true, false, get_or, replicate, set}
use mathlib.Core.List.{List, [], ◌∷◌, flat_map}
use Rattle.definition.specs.Verdict.{Verdict, accepted, refused, ◌then◌, then_verdict}
use Rattle.definition.specs.Sheet.{edition1, sheet_of}
use Rattle.definition.specs.Reading.{sheet_test}
use Rattle.definition.specs.Deciding.{out_tests}
use Rattle.definition.specs.WorkedTranscript.{definitions as base}
use Rattle.hashing.specs.Sha256.{complement, shr, rotr, choose, majority, big_sigma0, big_sigma1, small_sigma0, small_sigma1, constants, big_bytes, zeros_due, padded, big_word, blocks_of as sha_blocks, initial, next_word, schedule, first_sum, second_sum, turn, turns, joined, compress, hash_blocks, digest_of, sha256}
use Rattle.hashing.specs.Tree.{leaf_of, node_of, root_of, path_of, parent_of, climb}
use Rattle.openings.specs.Openings.{entry_words, any_word, log2, height_of, beside_table, swap_rest, swap_tables, rest_tables, tables_in, table_words, root_words, opening_layout, number_place, opening_kinds, opening_length, opening_count, opening_words_due, openings_in, place_in, entry_in, nodes_in, opening_blocks_test, opening_range_test, unused_nodes, stray_words, opening_fill_test, opening_body, reading_openings, reached, due_at, due_rest, due, opened_entry, opened_table, shut_body, opened_body, opened_transcript, first_other, places_test, same_words, bytes_in, words_in, reached_root, misses_root, paths_test, roots_in, opening_tests, decided_opened, deciding_openings, verify_openings, leaves_of, table_root, opening_of, opening_at, built_stream, build_openings, sheet_words}

-- one name that unfolds all definitions
unfoldable pub definitions : Unit {0}
unfolding base flat_map complement shr rotr choose majority big_sigma0 big_sigma1 small_sigma0 small_sigma1 constants big_bytes zeros_due padded big_word sha_blocks initial next_word schedule first_sum second_sum turn turns joined compress hash_blocks digest_of sha256 leaf_of node_of root_of path_of parent_of climb entry_words any_word log2 height_of beside_table swap_rest swap_tables rest_tables tables_in table_words root_words opening_layout number_place opening_kinds opening_length opening_count opening_words_due openings_in place_in entry_in nodes_in opening_blocks_test opening_range_test unused_nodes stray_words opening_fill_test opening_body reading_openings reached due_at due_rest due opened_entry opened_table shut_body opened_body opened_transcript first_other places_test same_words bytes_in words_in reached_root misses_root paths_test roots_in opening_tests decided_opened deciding_openings verify_openings leaves_of table_root opening_of opening_at built_stream build_openings
definitions = tt

-- the verdict on a stream in a number of blocks, but for 17
unfoldable pub up_to18 : ℕ → List ℕ → Verdict
up_to18 blocks w =
    let h = sheet_of edition1 w in
    then_verdict (sheet_test edition1 w then opening_body h blocks w then out_tests h sheet_words (opening_layout h) w then places_test h (opened_transcript h w) (openings_in h w))
    (decided_opened h w)

-- n0 = 4, M = 0, two openings
abbrev small : List ℕ
small = 0 ∷ 4 ∷ 2 ∷ 2 ∷ 0 ∷ 1 ∷ 1 ∷ 0 ∷ 0 ∷ 0 ∷ 0 ∷ 0 ∷ 3570680307 ∷ 2748140488 ∷ 3067717788 ∷ 495554485 ∷ 3248510231 ∷ 2143457727 ∷ 1405201840 ∷ 3327275343 ∷ 2 ∷ 13 ∷ 1 ∷ 2 ∷ 0 ∷ 1 ∷ 15 ∷ 2320520584 ∷ 3312378285 ∷ 1780404851 ∷ 184376648 ∷ 1544037494 ∷ 3971290138 ∷ 3733284061 ∷ 2755225612 ∷ 1262745446 ∷ 3381954362 ∷ 553460121 ∷ 1246848006 ∷ 3354964049 ∷ 61843736 ∷ 158522534 ∷ 734725117 ∷ 0 ∷ 3 ∷ 8 ∷ 3345724080 ∷ 4293665097 ∷ 4070708215 ∷ 4050917680 ∷ 2299592276 ∷ 2235506973 ∷ 1618977039 ∷ 3914559156 ∷ 3404949202 ∷ 2188433575 ∷ 3705865059 ∷ 943622392 ∷ 407120877 ∷ 438638252 ∷ 3034535685 ∷ 739799929 ∷ replicate 65 0

-- the opening file of the worked transcript: n0 = 16, M = 1, four openings
abbrev worked : List ℕ
worked = 0 ∷ 16 ∷ 8 ∷ 2 ∷ 1 ∷ 1 ∷ 1 ∷ 1 ∷ 0 ∷ 0 ∷ 0 ∷ 0 ∷ 2516936685 ∷ 3374515799 ∷ 830694301 ∷ 1223727132 ∷ 1500009895 ∷ 226519694 ∷ 4106718834 ∷ 154754609 ∷ 2 ∷ 1053391712 ∷ 90433376 ∷ 2466684056 ∷ 3145209276 ∷ 550457551 ∷ 4215234280 ∷ 269076613 ∷ 897755955 ∷ 0 ∷ 5 ∷ 3 ∷ 4 ∷ 0 ∷ 14 ∷ 11 ∷ 1 ∷ 4 ∷ 0 ∷ 0 ∷ 3 ∷ 863720138 ∷ 415500779 ∷ 2157354846 ∷ 164505627 ∷ 964478961 ∷ 612823140 ∷ 2094347088 ∷ 2589831905 ∷ 1592720060 ∷ 841698909 ∷ 2496571815 ∷ 3365847340 ∷ 1453053898 ∷ 509970297 ∷ 3746143248 ∷ 3599693788 ∷ 1183625096 ∷ 2036063623 ∷ 3244317653 ∷ 3997017725 ∷ 3223085873 ∷ 440987426 ∷ 1771019977 ∷ 3702916213 ∷ 2762537640 ∷ 1911362159 ∷ 672199007 ∷ 789576710 ∷ 659703160 ∷ 3871245320 ∷ 987907422 ∷ 1128696357 ∷ 0 ∷ 8 ∷ 13 ∷ 4000372469 ∷ 648569309 ∷ 3049155111 ∷ 1299402568 ∷ 51114859 ∷ 3277329043 ∷ 2188501488 ∷ 3161584093 ∷ 4133767037 ∷ 3079665557 ∷ 3220680784 ∷ 3033932132 ∷ 1467842695 ∷ 2249588676 ∷ 3838251359 ∷ 2799712350 ∷ 4165594794 ∷ 3622601903 ∷ 2375283061 ∷ 3589445266 ∷ 321910950 ∷ 1108939994 ∷ 2892560085 ∷ 1440530344 ∷ 1308821682 ∷ 3147934821 ∷ 156584574 ∷ 2325105642 ∷ 2264636433 ∷ 3985478839 ∷ 2482761659 ∷ 579688854 ∷ 1 ∷ 1 ∷ 3 ∷ 965058642 ∷ 2432408070 ∷ 474572671 ∷ 3600907001 ∷ 4007704834 ∷ 1337699110 ∷ 3737713469 ∷ 924826864 ∷ 1111075662 ∷ 294727502 ∷ 574350658 ∷ 1056801416 ∷ 393135094 ∷ 1129223097 ∷ 2514944262 ∷ 2763813123 ∷ 3812208946 ∷ 198272590 ∷ 1572024998 ∷ 383381519 ∷ 449140143 ∷ 711735310 ∷ 620530910 ∷ 1442759988 ∷ 0 ∷ 0 ∷ 0 ∷ 0 ∷ 0 ∷ 0 ∷ 0 ∷ 0 ∷ 1 ∷ 5 ∷ 4 ∷ 2320520584 ∷ 3312378285 ∷ 1780404851 ∷ 184376648 ∷ 1544037494 ∷ 3971290138 ∷ 3733284061 ∷ 2755225612 ∷ 4022487630 ∷ 3201790032 ∷ 122834664 ∷ 371848914 ∷ 1399482212 ∷ 1525746274 ∷ 3959453241 ∷ 2988326750 ∷ 2456766654 ∷ 3533201038 ∷ 1805703625 ∷ 1239879427 ∷ 2846449358 ∷ 991186001 ∷ 1773560081 ∷ 681257276 ∷ replicate 84 0

-- the same with two out coins
abbrev two : List ℕ
two = 0 ∷ 16 ∷ 8 ∷ 2 ∷ 1 ∷ 2 ∷ 1 ∷ 1 ∷ 0 ∷ 0 ∷ 0 ∷ 0 ∷ 2516936685 ∷ 3374515799 ∷ 830694301 ∷ 1223727132 ∷ 1500009895 ∷ 226519694 ∷ 4106718834 ∷ 154754609 ∷ 2 ∷ 1053391712 ∷ 90433376 ∷ 2466684056 ∷ 3145209276 ∷ 550457551 ∷ 4215234280 ∷ 269076613 ∷ 897755955 ∷ 0 ∷ 2 ∷ 5 ∷ 13 ∷ 3 ∷ 4 ∷ 0 ∷ 0 ∷ 0 ∷ 1 ∷ 4 ∷ 0 ∷ 0 ∷ 3 ∷ 863720138 ∷ 415500779 ∷ 2157354846 ∷ 164505627 ∷ 964478961 ∷ 612823140 ∷ 2094347088 ∷ 2589831905 ∷ 1592720060 ∷ 841698909 ∷ 2496571815 ∷ 3365847340 ∷ 1453053898 ∷ 509970297 ∷ 3746143248 ∷ 3599693788 ∷ 1183625096 ∷ 2036063623 ∷ 3244317653 ∷ 3997017725 ∷ 3223085873 ∷ 440987426 ∷ 1771019977 ∷ 3702916213 ∷ 2762537640 ∷ 1911362159 ∷ 672199007 ∷ 789576710 ∷ 659703160 ∷ 3871245320 ∷ 987907422 ∷ 1128696357 ∷ 0 ∷ 8 ∷ 13 ∷ 4000372469 ∷ 648569309 ∷ 3049155111 ∷ 1299402568 ∷ 51114859 ∷ 3277329043 ∷ 2188501488 ∷ 3161584093 ∷ 4133767037 ∷ 3079665557 ∷ 3220680784 ∷ 3033932132 ∷ 1467842695 ∷ 2249588676 ∷ 3838251359 ∷ 2799712350 ∷ 4165594794 ∷ 3622601903 ∷ 2375283061 ∷ 3589445266 ∷ 321910950 ∷ 1108939994 ∷ 2892560085 ∷ 1440530344 ∷ 1308821682 ∷ 3147934821 ∷ 156584574 ∷ 2325105642 ∷ 2264636433 ∷ 3985478839 ∷ 2482761659 ∷ 579688854 ∷ 1 ∷ 1 ∷ 3 ∷ 965058642 ∷ 2432408070 ∷ 474572671 ∷ 3600907001 ∷ 4007704834 ∷ 1337699110 ∷ 3737713469 ∷ 924826864 ∷ 1111075662 ∷ 294727502 ∷ 574350658 ∷ 1056801416 ∷ 393135094 ∷ 1129223097 ∷ 2514944262 ∷ 2763813123 ∷ 3812208946 ∷ 198272590 ∷ 1572024998 ∷ 383381519 ∷ 449140143 ∷ 711735310 ∷ 620530910 ∷ 1442759988 ∷ 0 ∷ 0 ∷ 0 ∷ 0 ∷ 0 ∷ 0 ∷ 0 ∷ 0 ∷ 1 ∷ 5 ∷ 4 ∷ 2320520584 ∷ 3312378285 ∷ 1780404851 ∷ 184376648 ∷ 1544037494 ∷ 3971290138 ∷ 3733284061 ∷ 2755225612 ∷ 4022487630 ∷ 3201790032 ∷ 122834664 ∷ 371848914 ∷ 1399482212 ∷ 1525746274 ∷ 3959453241 ∷ 2988326750 ∷ 2456766654 ∷ 3533201038 ∷ 1805703625 ∷ 1239879427 ∷ 2846449358 ∷ 991186001 ∷ 1773560081 ∷ 681257276 ∷ replicate 82 0

-- the stream as it is
ok : up_to18 1 (small) ≡ record { outcome = accepted; reads = 2 }
unfolding definitions up_to18
ok = refl

-- a number of openings that asks for more blocks
number : up_to18 1 (set small 23 10) ≡ record { outcome = refused 4 2; reads = 0 }
unfolding definitions up_to18
number = refl

-- an opening more than are due, in the same blocks
one_more : up_to18 1 (set small 23 3) ≡ record { outcome = refused 18 2; reads = 0 }
unfolding definitions up_to18
one_more = refl

-- an opening fewer: its words are fill
one_less : up_to18 1 (set small 23 1) ≡ record { outcome = refused 6 44; reads = 0 }
unfolding definitions up_to18
one_less = refl

-- an entry that is no element
entry : up_to18 1 (set small 26 17) ≡ record { outcome = refused 5 26; reads = 0 }
unfolding definitions up_to18
entry = refl

-- a root, a node and numbers are not tested by 5
any : up_to18 1 (set (set (set small 12 4294967295) 27 4294967295) 24 4294967295) ≡ record { outcome = refused 18 0; reads = 0 }
unfolding definitions up_to18
any = refl

-- a fill word
fill : up_to18 1 (set small 70 1) ≡ record { outcome = refused 6 70; reads = 0 }
unfolding definitions up_to18
fill = refl

-- another point
point : up_to18 1 (set small 25 2) ≡ record { outcome = refused 18 0; reads = 0 }
unfolding definitions up_to18
point = refl

-- another table number, above M: no node is unused
table : up_to18 1 (set small 24 1) ≡ record { outcome = refused 18 0; reads = 0 }
unfolding definitions up_to18
table = refl

-- the worked transcript
as_it_is : up_to18 2 (worked) ≡ record { outcome = accepted; reads = 4 }
unfolding definitions up_to18
as_it_is = refl

-- an out coin in its domain
inside : up_to18 2 (set worked 29 3) ≡ record { outcome = refused 7 29; reads = 0 }
unfolding definitions up_to18
inside = refl

-- a word of an unused node
unused : up_to18 2 (set worked 177 9) ≡ record { outcome = refused 6 177; reads = 0 }
unfolding definitions up_to18
unused = refl

-- a word of the last node of table 0 is used
used : up_to18 2 (set worked 72 9) ≡ record { outcome = accepted; reads = 4 }
unfolding definitions up_to18
used = refl

-- an opening of table 0 as one of table 1: its last node is unused, and not zero
relabelled : up_to18 2 (set worked 38 1) ≡ record { outcome = refused 6 65; reads = 0 }
unfolding definitions up_to18
relabelled = refl

-- two openings exchanged
order : up_to18 2 (set (set worked 39 8) 74 0) ≡ record { outcome = refused 18 0; reads = 0 }
unfolding definitions up_to18
order = refl

-- two equal out coins
equal : up_to18 2 (set two 30 0) ≡ record { outcome = refused 14 30; reads = 0 }
unfolding definitions up_to18
equal = refl

-- 7 comes before 18
before : up_to18 2 (set (set worked 29 3) 39 5) ≡ record { outcome = refused 7 29; reads = 0 }
unfolding definitions up_to18
before = refl

-- the path of the first opening reaches the root; with another entry, another point number or another node it does not
abbrev opening : List ℕ
opening = get_or (openings_in (sheet_of edition1 small) small) 0 []

reaches : misses_root (sheet_of edition1 small) (roots_in (sheet_of edition1 small) small) opening ≡ false
unfolding definitions
reaches = refl

misses : misses_root (sheet_of edition1 small) (roots_in (sheet_of edition1 small) small) (set opening 1 3) ≡ true
unfolding definitions
misses = refl
