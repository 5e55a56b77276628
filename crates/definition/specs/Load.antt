-- The load: a thousand runs that a seed fixes (02, CR 2 and 6), with sheets of edition 1 and fields 0 to 2, whose elements are of one word (02, CR 11).
use Rattle.std.specs.Prelude.{ℕ, zero, suc, ◌+◌, ◌*◌, ◌/◌, ◌%◌, ◌^◌, Bool, false, not, cond, ◌||◌, eqb, length, get_or, take, replicate}
use mathlib.Core.List.{List, [], ◌∷◌, ◌++◌, map, flat_map}
use Rattle.std.proofs.Math.Option.{Option, none, some}
use Rattle.std.specs.Int.Bits.{bit_xor}
use Rattle.definition.specs.Lists.{range}
use Rattle.definition.specs.Field.{one, prime_field, known_field}
use Rattle.definition.specs.Sheet.{edition1, Sheet, sheet_of, sheet_rules, sheet_length}
use Rattle.definition.specs.Layout.{Kind, message, coin, out, index, layout, coin_kinds, limit}
use Rattle.definition.specs.Block.{word_of, file_of}
use Rattle.definition.specs.Verdict.{refused, Verdict}
use Rattle.definition.specs.Line.{line_of}
use Rattle.definition.specs.Deciding.{out_in_domain, out_before, out_repeated}
use Rattle.definition.specs.Verify.{verify}
use Rattle.definition.specs.Prover.{honest_stream}

-- The generator's step: v xor (v shifted left 13), then xor right 17, then xor left 5, keeping 32 bits each time.
unfoldable pub step : ℕ → ℕ
step v =
    let a = bit_xor v (v * 2 ^ 13 % 2 ^ 32) in
    let b = bit_xor a (a / 2 ^ 17) in
    bit_xor b (b * 2 ^ 5 % 2 ^ 32)

-- What is drawn, and the generator as it then is.
pub record Drawn (A : Type 0) : Type 0 where
  pub value : A
  pub next : ℕ

-- one of 0 to limit - 1: one step, and the remainder of the new v
unfoldable pub draw_below : ℕ → ℕ → Drawn ℕ
draw_below limit v = record { value = step v % limit; next = step v }

-- the elements of a list that pass a test, in their order
unfoldable pub keep : {A : Type 0} → (A → Bool) → List A → List A
keep test [] = []
keep test (x ∷ xs) = cond (test x) (x ∷ keep test xs) (keep test xs)

-- Does the rule of the next sheet word permit x, given the words before it? The field is one of 0, 1 and 2.
unfoldable pub permits : List ℕ → ℕ → Bool
permits [] x = known_field x
permits (a ∷ w) x = get_or (sheet_rules edition1 (a ∷ w ++ (x ∷ []))) (length (a ∷ w)) false

-- 0 to 48 and 64, 128, .., 4096: no rule of a sheet word permits another value
unfoldable pub candidates : List ℕ
candidates = range 0 49 ++ map (λ a. 2 ^ a) (range 6 7)

-- the values that the rule of the next sheet word permits, given the words w before it, lowest first
unfoldable pub permitted : List ℕ → List ℕ
permitted w = keep (permits w) candidates

-- the sheet of the transcript by hand (01, A transcript by hand)
abbrev pub worked_sheet : List ℕ
worked_sheet = 0 ∷ 16 ∷ 8 ∷ 2 ∷ 1 ∷ 1 ∷ 1 ∷ 1 ∷ 0 ∷ 0 ∷ 0 ∷ 0 ∷ []

-- So many sheet words more, after the words w, one step each. Where a word has no value left, it takes no step, the worked sheet is used and no later word is
-- drawn.
unfoldable pub draw_words : ℕ → List ℕ → ℕ → Drawn (List ℕ)
draw_words zero w v = record { value = w; next = v }
draw_words (suc count) w v =
    let xs = permitted w in
    cond (eqb (length xs) 0)
    (record { value = worked_sheet; next = v })
    (draw_words count (w ++ (get_or xs (step v % length xs) 0 ∷ [])) (step v))

unfoldable pub draw_sheet : ℕ → Drawn (List ℕ)
draw_sheet v = draw_words (sheet_length edition1) [] v

-- is a word of a kind, after an out coin of its round or none, not allowed there: an out coin in its domain, or equal to the one before it?
unfoldable pub not_allowed : Sheet → Option ℕ → Kind → ℕ → Bool
not_allowed h before k x = out_in_domain one h k x || out_repeated (prime_field h.prime) before k x

-- the smallest element allowed there
unfoldable pub smallest_allowed : Sheet → Option ℕ → Kind → ℕ
smallest_allowed h before k = get_or (keep (λ x. not (not_allowed h before k x)) (range 0 h.prime)) 0 0

-- an out coin that has no draw left: the first of a round becomes 0 (02, CR 2), the second the smallest element allowed (02, CR 6)
unfoldable pub undrawn : Sheet → Option ℕ → Kind → ℕ
undrawn h none k = 0
undrawn h (some y) k = smallest_allowed h (some y) k

-- An out coin, picked among all elements: not allowed, it is drawn again, at most so many times, for both causes together.
unfoldable pub draw_out : Sheet → Option ℕ → Kind → ℕ → ℕ → Drawn ℕ
draw_out h before k zero v =
    cond (not_allowed h before k (step v % h.prime)) (record { value = undrawn h before k; next = step v }) (draw_below h.prime v)
draw_out h before k (suc again) v = cond (not_allowed h before k (step v % h.prime)) (draw_out h before k again (step v)) (draw_below h.prime v)

-- a word of a kind, after an out coin of its round or none: an element, an out coin, or an index below its limit
unfoldable pub draw_kind : Sheet → Option ℕ → Kind → ℕ → Drawn ℕ
draw_kind h before message v = draw_below h.prime v
draw_kind h before coin v = draw_below h.prime v
draw_kind h before (out l) v = draw_out h before (out l) 64 v
draw_kind h before (index n) v = draw_below n v

-- words of given kinds, one after the other
unfoldable pub draw_kinds : Sheet → Option ℕ → List Kind → ℕ → Drawn (List ℕ)
draw_kinds h before [] v = record { value = []; next = v }
draw_kinds h before (k ∷ ks) v =
    let x = draw_kind h before k v in
    let xs = draw_kinds h (out_before before k x.value) ks x.next in
    record { value = x.value ∷ xs.value; next = xs.next }

-- A run: a sheet, coefficients and coins.
pub record ProverInput : Type 0 where
  pub sheet : List ℕ
  pub coefficients : List ℕ
  pub coins : List ℕ

-- a run's draws: the sheet, d0 coefficients, then the coins in file order
unfoldable pub draw_input : ℕ → Drawn ProverInput
draw_input v =
    let w = draw_sheet v in
    let h = sheet_of edition1 w.value in
    let f = draw_kinds h none (replicate h.degree message) w.next in
    let c = draw_kinds h none (coin_kinds (layout h)) f.next in
    record { value = record { sheet = w.value; coefficients = f.value; coins = c.value }; next = c.next }

-- the first runs on one generator
unfoldable pub drawn_inputs : ℕ → ℕ → List ProverInput
drawn_inputs zero v = []
drawn_inputs (suc count) v = (draw_input v).value ∷ drawn_inputs count (draw_input v).next

-- the verdict on a run's honest file
unfoldable pub verdict_on : ProverInput → Verdict
verdict_on o = verify (file_of (honest_stream edition1 o.sheet o.coefficients o.coins))

-- the number of runs
abbrev pub load_runs : ℕ
load_runs = 1000

-- The lines of a load; 12: seed 0, place 0, before anything else.
unfoldable pub load_lines : ℕ → List (List ℕ)
load_lines seed =
    cond (eqb seed 0)
    (line_of (record { outcome = refused 12 0; reads = 0 }) ∷ [])
    (map (λ o. line_of (verdict_on o)) (drawn_inputs load_runs seed))

-- The program: its input's first four bytes are the seed, and missing bytes are 0.
unfoldable pub seed_of : List ℕ → ℕ
seed_of bytes = word_of (take 4 bytes)

unfoldable pub load_output : List ℕ → List ℕ
load_output bytes = flat_map (λ line. line) (load_lines (seed_of bytes))
