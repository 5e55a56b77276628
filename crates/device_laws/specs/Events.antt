-- THE VOCABULARY OF THE PAGE: what happens to a device, and what the bytes taken and the bytes of the last start then are. It holds no lemma and no proof.
use Rattle.std.specs.Prelude.{ℕ, zero, suc, ◌≤◌, ◌<◌, true, cond, ◌&&◌, List, [], ◌∷◌, ◌++◌, ◌≡◌, eqb, drop}
use Rattle.definition.specs.Block.{stream_of}
use Rattle.device_definition.specs.Coinwise.{places_of_coin}
use Rattle.definition.specs.Deciding.{Place, own_place, reads_of}
use Rattle.device_definition.specs.Device.{Device, busy, done, fresh, tick, write}
use Rattle.definition.specs.Field.{Element}
use Rattle.definition.specs.Layout.{read_transcript}
use Rattle.definition.specs.Sheet.{Sheet, edition1, first_level, sheet_length}
use Rattle.definition.specs.Transcript.{Rest}
use Rattle.definition.specs.Verdict.{Outcome, accepted, refused}
use Rattle.definition.specs.Verify.{verify}
use Rattle.list_laws.specs.All.{All}
use Rattle.completeness.specs.Faults.{part_element, sheet_in, words}
use Rattle.completeness.specs.Numbered.{table}
use Rattle.coinwise.specs.Folds.{places_to}

-- a byte written to a register (register, value), or a tick
pub data Event : Type 0 where
  writes : ℕ → ℕ → Event
  ticks : Event

-- The device and its buffer; the bytes taken since the last clear or since fresh; and those that were taken at the last start. The two lists go by the events and
-- their answers alone.
pub record History : Type 0 where
  pub device : Device
  pub buffer : List ℕ
  pub taken : List ℕ
  pub started : List ℕ

-- a data byte that is not refused is taken, a clear forgets all
unfoldable pub taken_by : Outcome → ℕ → ℕ → List ℕ → List ℕ
taken_by accepted register value bytes = cond (eqb register 9) (bytes ++ (value ∷ [])) (cond (eqb register 0 && eqb value 2) [] bytes)
taken_by (refused number place) register value bytes = bytes

-- a start that is not refused has the bytes taken up to it
unfoldable pub started_by : Outcome → ℕ → ℕ → List ℕ → List ℕ → List ℕ
started_by accepted register value bytes before = cond (eqb register 0 && eqb value 1) bytes before
started_by (refused number place) register value bytes before = before

unfoldable pub perform : History → Event → History
perform s (writes register value) =
    let r = write register value s.device s.buffer in
    record {
      device = r.device;
      buffer = r.buffer;
      taken = taken_by r.outcome register value s.taken;
      started = started_by r.outcome register value s.taken s.started;
    }
perform s ticks =
    let r = tick s.device s.buffer in
    record { device = r.device; buffer = r.buffer; taken = s.taken; started = s.started }

unfoldable pub history : History → List Event → History
history s [] = s
history s (e ∷ es) = history (perform s e) es

-- a fresh device with a buffer lent to it alone
unfoldable pub beginning : List ℕ → History
beginning buffer = record { device = fresh; buffer = buffer; taken = []; started = [] }

-- a start, and so many ticks, with one buffer
unfoldable pub ticked : ℕ → Device → List ℕ → Device
ticked zero d buffer = d
ticked (suc n) d buffer = (tick (ticked n d buffer) buffer).device

unfoldable pub after_start : ℕ → Device → List ℕ → Device
after_start n d buffer = ticked n (write 0 1 d buffer).device buffer

-- what follows fold coin 0 in a file
abbrev pub rest_in : (x : List ℕ) → Rest (Element (sheet_in edition1 x).spelling)
rest_in x = (read_transcript (sheet_in edition1 x).spelling (sheet_in edition1 x) (drop (sheet_length edition1) (stream_of x))).rest

-- two streams, the first with sheet h, have the same entry at a place; and at all places of the first n shift and final coins
abbrev pub SameEntry : Sheet → List ℕ → List ℕ → Place → Type 0
SameEntry h v w p = part_element edition1 h v (words (table p.table)) p.number ≡ part_element edition1 h w (words (table p.table)) p.number

abbrev pub SameForCoins : Sheet → List ℕ → List ℕ → ℕ → Type 0
SameForCoins h v w n =
    (m : ℕ) → m < n → All (SameEntry h v w) (places_of_coin (first_level h) (own_place (first_level h)) m (read_transcript h.spelling h (drop (sheet_length edition1) v)).rest)

-- A device that is started on the bytes x of its buffer treats so many coins, one with each tick: busy before the last, and done with it, or at once where none is
-- treated. They are the coins that deciding treats, so that the reads are those of their places.
pub record Runs (d : Device) (buffer : List ℕ) (x : List ℕ) : Type 0 where
  pub coins : ℕ
  pub most : coins ≤ 288
  pub before : (m : ℕ) → m < coins → ((after_start m d buffer).phase ≡ busy) × ((after_start m d buffer).treated ≡ m) × ((after_start m d buffer).flag ≡ d.flag)
  pub last : ((after_start coins d buffer).phase ≡ done (verify x).outcome) × ((after_start coins d buffer).treated ≡ coins) × ((after_start coins d buffer).flag ≡ true)
  pub reads : (verify x).reads ≡ reads_of (places_to (first_level (sheet_in edition1 x)) (own_place (first_level (sheet_in edition1 x))) coins (rest_in x))
