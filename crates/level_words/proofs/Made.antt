-- The places, functions and parts that the code makes from the words are those of the sheet, where the words say what the sheet does.
use Prim.Native.Nat.{ℕ, ◌+◌, ◌*◌, ◌/◌}
use native.Mathlib.Omega.{arith}
use mathlib.Core.Path.{◌≡◌, sym, ◌∙◌}
use lib.ListN.{get_or}
use Rattle.definition.specs.Field.{spelling_of, word_count}
use Rattle.definition.specs.Sheet.{Sheet}
use Rattle.layouts.specs.Levels.{words_for}
use Rattle.layouts.specs.Spellings.{count_add}
use Rattle.fractions.specs.declared.Oracle.{Oracle}
use Rattle.level_words.specs.declared.State.{State}
use Rattle.level_words.specs.State.{first_oracle, first_state, shifts_at, current_fold, next_fold, next_oracle, next_state, current_repetitions}

pub first_place : (from : ℕ) (h : Sheet) (field : ℕ) {front n d v : ℕ} → h.spelling ≡ spelling_of field → front ≡ from → n ≡ h.size → d ≡ h.degree → v ≡ word_count (spelling_of field) (n + 1) →
    ◌≡◌ {A = State} (record { level = 0; size = n; degree = d; table = front; at = front + v }) (first_state from h)
unfolding first_state
first_place from h field {front} {n} {v = v} e ef en ed ev =
    let z : v ≡ words_for h (h.size + 1) = ev ∙ (λ i. word_count (sym e i) (en i + 1)) in
    let a : front + v ≡ from + words_for h h.size + words_for h 1 = omega (arith, ef, z, count_add h.spelling h.size 1) in
    λ i. record { level = 0; size = en i; degree = ed i; table = ef i; at = a i }

pub first_way : (h : Sheet) {n k : ℕ} → n ≡ h.size → k ≡ get_or h.folds 0 0 → ◌≡◌ {A = Oracle} (record { scale = 1; step = n / k; words = 0 }) (first_oracle h)
unfolding first_oracle
first_way h en ek = λ i. record { scale = 1; step = en i / ek i; words = 0 }

module _ (h : Sheet) (st : State) where
  pub next_place : (v : ℕ) {k t : ℕ} → k ≡ current_fold h st → st.at + v ≡ shifts_at h st → t ≡ current_repetitions h st →
      ◌≡◌ {A = State} (record {
        level = st.level + 1;
        size = st.size / 2;
        degree = st.degree / k;
        table = st.at;
        at = st.at + v + t;
      }) (next_state h st)
  unfolding next_state
  next_place v ek ea et = λ i. record {
    level = st.level + 1;
    size = st.size / 2;
    degree = st.degree / ek i;
    table = st.at;
    at = ea i + et i;
  }

  pub next_way : (scale words : ℕ) {k : ℕ} → k ≡ next_fold h st →
      ◌≡◌ {A = Oracle} (record { scale = 2 * scale; step = st.size / 2 / k; words = words }) (next_oracle h st scale words)
  unfolding next_oracle
  next_way scale words ek = λ i. record { scale = 2 * scale; step = st.size / 2 / ek i; words = words }
